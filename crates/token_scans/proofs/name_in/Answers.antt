-- `token_scans::name_in` meets its contract. Assumes nothing.
use Rattle.std.proofs.Common.{sym, ap, ◌∙◌, arith}
use Rattle.notation.specs.Words.{between}
use Rattle.token_scans.specs.Scan.{mode_after}
use Rattle.token_scans.specs.Sought.{number_of}
use Rattle.lexemes.proofs.Laws.{next-within}
use Rattle.token_scans.proofs.Modes.{modes-same, words-same, byte-cond}
use Rattle.token_scans.proofs.Hits.{naming-end, naming-found, naming-next, sought-by, sought-not, sought_word}
use Rattle.token_scans.proofs.name_in.Goals as goal
use Rattle.token_scans.proofs.name_in.Goals.{then-eq, else-eq, else-is_name-via-then-is_name+else-eq-2, else-is_name-via-else-is_name}

pub slice_bounds-word-end : goal.slice_bounds-word-end
slice_bounds-word-end c = (next-within _ _ c.loop-l.invariant.within _ (sym c.next.ensures ∙ c.in-Some.is)).inside

pub loop-l-smaller : goal.loop-l-smaller
loop-l-smaller c = let b = next-within _ _ c.loop-l.invariant.within _ (sym c.next.ensures ∙ c.in-Some.is) in omega (arith, b.behind, b.filled, b.inside)

pub returns-then-eq-2 : goal.returns-then-eq-2
returns-then-eq-2 c =
    naming-found c.loop-l.invariant _ (sym c.next.ensures ∙ c.in-Some.is) c.if-eq.is_name
    (elim c.if-eq.branch [
      | then-eq w ↦ sought-by _ _ _ (sym (modes-same _ _) ∙ sym c.eq.ensures ∙ w.if-eq.true) (w.is_name-is ∙ w.eq-is_name.ensures ∙ sought_word _)
      | else-eq w ↦ sought-not _ _ _ (sym (modes-same _ _) ∙ sym c.eq.ensures ∙ w.if-eq.false) (w.is_name-is ∙ w.if-eq.false)
    ])
    c.if-is_name.true (sym c.if-eq-2.true ∙ c.eq-then-is_name.ensures ∙ words-same c.args.w.now (between c.in-Some.l.start c.in-Some.l.end c.args.part.now))

pub loop-l-preserved : goal.loop-l-preserved
loop-l-preserved c =
    naming-next c.loop-l.invariant _ (sym c.next.ensures ∙ c.in-Some.is) c.if-eq.is_name
    (elim c.if-eq.branch [
      | then-eq w ↦ sought-by _ _ _ (sym (modes-same _ _) ∙ sym c.eq.ensures ∙ w.if-eq.true) (w.is_name-is ∙ w.eq-is_name.ensures ∙ sought_word _)
      | else-eq w ↦ sought-not _ _ _ (sym (modes-same _ _) ∙ sym c.eq.ensures ∙ w.if-eq.false) (w.is_name-is ∙ w.if-eq.false)
    ])
    (λ y. elim c.else-is_name.branch [
      | else-is_name-via-then-is_name+else-eq-2 w ↦
          sym w.if-eq-2.false ∙ w.eq-then-is_name.ensures ∙ words-same c.args.w.now (between c.in-Some.l.start c.in-Some.l.end c.args.part.now)
      | else-is_name-via-else-is_name w ↦ cc (y, w.if-is_name.false)
    ])
    _ _ (c.from-n.ensures ∙ byte-cond _) (c.after-m.ensures ∙ ap (mode_after (number_of c.loop-l.m)) c.token_code.ensures)

pub returns : goal.returns
returns c = naming-end c.loop-l.invariant (sym c.next.ensures ∙ c.in_default.is)
