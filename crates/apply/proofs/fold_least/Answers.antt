-- `apply::fold_least` meets its contract. Assumes nothing.
use Rattle.std.proofs.Common.{arith, sym, ◌≡◌, ℤ}
use Rattle.std.proofs.lemmas.Int.{ints, to_z-of_z}
use Rattle.std.specs.Int.{int_min}
use Rattle.words.specs.Sound.{lesser}
use Rattle.domain.proofs.Laws.{turned_none, turned-few, turned_more, turned-all}
use Rattle.apply.specs.State.{lessens}
use Rattle.apply.proofs.Folding.{fold-starts, fold-ends, fold-turns}
use Rattle.apply.proofs.fold_least.Goals as goal

lesser_is : (x y : ℤ) → int_min x y ≡ lesser x y
lesser_is x y = grind (arith, ints)

pub loop-j-init : goal.loop-j-init
loop-j-init c =
    let e = c.into_iter-j-iterator.ensures.into_iter_gives in
    (λ s. rw e (sym (fold-starts lessens _ _ _ s)), rw e (turned_none _))

pub overflow_add-count : goal.overflow_add-count
overflow_add-count c = record { fits = omega (arith, turned-few _ _ _ c.loop-j.invariant.1) }

pub loop-j-preserved : goal.loop-j-preserved
loop-j-preserved c = (
  λ s.
      let so_far = c.loop-j.invariant.0 s in
      let turn = fold-turns lessens _ c.args.field.now.cells c.loop-j.least s _ _ c.in-Some.ensures.steps.1 in
      grind (arith, to_z-of_z, lesser_is),
  turned_more _ _ _ c.loop-j.invariant.1 _ _ c.in-Some.ensures.steps.1,
)

pub returns : goal.returns
returns c = (
  λ s.
      let so_far = c.loop-j.invariant.0 s in
      let end = fold-ends lessens _ c.args.field.now.cells c.loop-j.least s c.in-None.ensures.steps.0 in
      grind (arith, to_z-of_z),
  turned-all _ _ _ c.loop-j.invariant.1 c.in-None.ensures.steps.0 c.args.field.now.cells,
)
