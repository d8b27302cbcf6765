-- `parse::pass` meets its contract. Assumes nothing.
use mathlib.Core.Path.{sym, ◌∙◌, ap, subst}
use mathlib.Core.Bool.{true, false}
use Prim.Native.Nat.{ℕ, ◌-◌, ◌<◌}
use native.Mathlib.Omega.{arith}
use lib.Dec.{eqb}
use borrow.Author.Tests.{eq-eqb, ne_eqb}
use lib.ListN.{length}
use Rattle.std.proofs.Common.{rules}
use Rattle.parse.specs.Passed.{Passed}
use Rattle.parse.proofs.Passing.{begin-pass}
use Rattle.parse.proofs.Turns.{turn_end, turn-refused, turn-next, placed, refused-within}
use Rattle.parse.proofs.pass.Goals as goal

pub loop-t-init : goal.loop-t-init
loop-t-init c = (rw c.new-window.ensures.levels (begin-pass _ _), c.new-window.ensures.base)

pub slice_bounds-take-end : goal.slice_bounds-take-end
slice_bounds-take-end c =
    let p = placed _ _ c.requires _ _ _ _ c.loop-t.invariant.0 _ (sym c.in-Some.ensures) in
    omega (arith, p.filled, p.inside)

pub overflow_add-result : goal.overflow_add-result
overflow_add-result c =
    let p = placed _ _ c.requires _ _ _ _ c.loop-t.invariant.0 _ (sym c.in-Some.ensures) in
    let x = refused-within _ _ c.requires _ _ _ _ c.loop-t.invariant.0 _ (sym c.in-Some.ensures)
    c.in-Err.shared (rw c.loop-t.invariant.1 at c.in-Err.ensures.taken) in
    omega (arith, x, p.inside)

pub returns-in-Err : goal.returns-in-Err
returns-in-Err c =
    subst (λ (n : ℕ). Passed c.args.s.now c.args.base true n c.loop-t.deepest false) (search rules)
    (turn-refused _ _ c.requires _ _ _ _ c.loop-t.invariant.0 _ (sym c.in-Some.ensures)
    c.in-Err.shared (rw c.loop-t.invariant.1 at c.in-Err.ensures.taken))

pub loop-t-smaller : goal.loop-t-smaller
loop-t-smaller c =
    let p = placed _ _ c.requires _ _ _ _ c.loop-t.invariant.0 _ (sym c.in-Some.ensures) in
    let nearer : length c.args.s.now - c.in-Some.t.end < length c.args.s.now - c.loop-t.at = omega (arith, p.behind, p.filled, p.inside) in
    nearer

pub loop-t-preserved : goal.loop-t-preserved
loop-t-preserved c = (
  turn-next _ _ c.requires _ _ _ _ c.loop-t.invariant.0 _ (sym c.in-Some.ensures)
      c.take.new.self.levels c.in-Ok.d c.max-deepest.result (rw c.loop-t.invariant.1 at c.in-Ok.ensures.taken) c.in-Ok.ensures.numbered c.max-deepest.ensures,
  c.in-Ok.ensures.base ∙ c.loop-t.invariant.1,
)

pub returns-then-depth-eq0 : goal.returns-then-depth-eq0
returns-then-depth-eq0 c =
    turn_end _ _ c.requires _ _ _ _ c.loop-t.invariant.0 (sym c.next.ensures ∙ c.in_default.is)
    _ (ap (λ (k : ℕ). eqb k 1) (rw c.loop-t.invariant.1 at c.level.ensures.level) ∙ sym (rw (eq-eqb c.loop-t.depth 0 c.if-depth-eq0.true)))

pub returns-else-depth-eq0 : goal.returns-else-depth-eq0
returns-else-depth-eq0 c =
    let d = ne_eqb c.loop-t.depth 0 c.if-depth-eq0.false in
    turn_end _ _ c.requires _ _ _ _ c.loop-t.invariant.0 (sym c.next.ensures ∙ c.in_default.is)
    _ (rw d)
