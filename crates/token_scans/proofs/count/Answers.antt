-- `token_scans::count` meets its contract. Assumes nothing.
use Rattle.std.proofs.Common.{sym, ap, ◌∙◌, arith}
use Rattle.std.specs.Prelude.{Bool, cond}
use Rattle.lexemes.proofs.Laws.{next-within}
use Rattle.token_scans.proofs.Modes.{byte-cond, byte-small}
use Rattle.token_scans.proofs.Counts.{counting-end, counting-next}
use Rattle.token_scans.proofs.count.Goals as goal

pub slice_bounds-token_code-end : goal.slice_bounds-token_code-end
slice_bounds-token_code-end g c = (next-within _ _ c.loop-l.invariant.within _ (sym c.next.ensures ∙ c.in-Some.is)).inside

pub loop-l-smaller : goal.loop-l-smaller
loop-l-smaller g c = let b = next-within _ _ c.loop-l.invariant.within _ (sym c.next.ensures ∙ c.in-Some.is) in omega (arith, b.behind, b.filled, b.inside)

pub loop-l-preserved : goal.loop-l-preserved
loop-l-preserved g c =
    let b = next-within _ _ c.loop-l.invariant.within _ (sym c.next.ensures ∙ c.in-Some.is) in
    record {
      within = b.inside;
      few = omega (arith, b.behind, b.filled, c.loop-l.invariant.few, c.from-n.ensures, byte-small c.passes.result);
      passed = λ f h. counting-next c.loop-l.invariant.within (c.loop-l.invariant.passed f h) _ (sym c.next.ensures ∙ c.in-Some.is) _ _ _
          c.token_code-code.ensures c.after-m.ensures (c.from-n.ensures ∙ byte-cond _ ∙ ap (λ (t : Bool). cond t 1 0) (h _ _ _ c.passes.ensures));
    }

pub returns-clause-passed : goal.returns-clause-passed
returns-clause-passed g c = λ f h. counting-end c.loop-l.invariant.within (c.loop-l.invariant.passed f h) (sym c.next.ensures ∙ c.in_default.is)
