-- `rep_around::rep_of` meets its contract. Assumes nothing.
use Rattle.std.specs.Prelude.{◌≡◌, None}
use Rattle.std.proofs.Common.{sym, ◌∙◌, arith, rules}
use Rattle.rep_around.proofs.Walks.{walk-end, walk-within, walk-found, walk-next, walk-word}
use Rattle.rep_around.proofs.rep_of.Goals as goal

pub returns-in_err-l : goal.returns-in_err-l
returns-in_err-l c =
    let e : c.from_residual.result ≡ None = search rules in
    rw e (walk-end c.loop-walk.invariant (sym c.last.ensures ∙ c.in_err-l.was))

pub returns-then-binds : goal.returns-then-binds
returns-then-binds c = walk-found c.loop-walk.invariant _ (sym c.last.ensures ∙ c.in_ok-l.was) (sym c.binds.ensures ∙ c.if-binds.true)

pub loop-walk-smaller : goal.loop-walk-smaller
loop-walk-smaller c = let h = walk-within c.loop-walk.invariant _ (sym c.last.ensures ∙ c.in_ok-l.was) in omega (arith, h.filled, h.inside)

pub loop-walk-smaller-in-Word : goal.loop-walk-smaller-in-Word
loop-walk-smaller-in-Word c = let h = walk-within c.loop-walk.invariant _ (sym c.last.ensures ∙ c.in_ok-l.was) in omega (arith, h.filled, h.inside)

pub loop-walk-preserved : goal.loop-walk-preserved
loop-walk-preserved c =
    walk-next c.loop-walk.invariant _ (sym c.last.ensures ∙ c.in_ok-l.was) (sym c.binds.ensures ∙ c.if-binds.false) _ c.outward-walk-in_default.ensures

pub loop-walk-preserved-in-Word : goal.loop-walk-preserved-in-Word
loop-walk-preserved-in-Word c =
    walk-word c.loop-walk.invariant _ (sym c.last.ensures ∙ c.in_ok-l.was) c.in-Word.is _ c.outward-walk.ensures
