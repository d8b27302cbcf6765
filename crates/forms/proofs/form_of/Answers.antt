-- `forms::form_of` meets its contract. Assumes nothing.
use Rattle.std.specs.Prelude.{◌≡◌, None}
use Rattle.std.proofs.Common.{refl, sym, ◌∙◌, arith, rules}
use Rattle.forms.proofs.Closing.{closing-end, closing-within, closing-found, closing-next, closing-word}
use Rattle.forms.proofs.form_of.Goals as goal

pub returns-in_err-l : goal.returns-in_err-l
returns-in_err-l c =
    let e : c.from_residual.result ≡ None = search rules in
    rw e (closing-end c.loop-walk.invariant (sym c.last.ensures ∙ c.in_err-l.was))

pub returns-then-opens : goal.returns-then-opens
returns-then-opens c = closing-found c.loop-walk.invariant _ (sym c.last.ensures ∙ c.in_ok-l.was) _ refl refl refl refl (sym c.opens.ensures ∙ c.if-opens.true)

pub loop-walk-smaller : goal.loop-walk-smaller
loop-walk-smaller c = let h = closing-within c.loop-walk.invariant _ (sym c.last.ensures ∙ c.in_ok-l.was) in omega (arith, h.filled, h.inside)

pub loop-walk-smaller-in-Word : goal.loop-walk-smaller-in-Word
loop-walk-smaller-in-Word c = let h = closing-within c.loop-walk.invariant _ (sym c.last.ensures ∙ c.in_ok-l.was) in omega (arith, h.filled, h.inside)

pub loop-walk-preserved : goal.loop-walk-preserved
loop-walk-preserved c =
    closing-next c.loop-walk.invariant _ (sym c.last.ensures ∙ c.in_ok-l.was) (sym c.opens.ensures ∙ c.if-opens.false) _ c.outward-walk-in_default.ensures

pub loop-walk-preserved-in-Word : goal.loop-walk-preserved-in-Word
loop-walk-preserved-in-Word c =
    closing-word c.loop-walk.invariant _ (sym c.last.ensures ∙ c.in_ok-l.was) c.in-Word.is _ c.outward-walk.ensures
