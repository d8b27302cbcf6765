-- `apply::fold_op` meets its contract. Assumes nothing.
use Rattle.std.proofs.Common.{arith, refl, sym, ap, ◌∙◌}
use Rattle.std.proofs.lemmas.Int.{to_z-of_z}
use Rattle.number.specs.Number.{operator_of}
use Rattle.round.specs.Round.{number, done, fault, on_numbers}
use Rattle.apply.specs.State.{state_of}
use Rattle.domain.proofs.Laws.{turned_none, turned-few, turned_more, turned-all}
use Rattle.apply.proofs.Laws.{one_more, numbers-faulted, gives, gave}
use Rattle.apply.proofs.Folding.{fold-starts, fold-ends, fold-turns}
use Rattle.apply.proofs.fold_op.Goals as goal

pub loop-k-init : goal.loop-k-init
loop-k-init c =
    let e = c.into_iter-k-iterator.ensures.into_iter_gives in
    (rw e (sym (fold-starts (on_numbers c.args.n (operator_of c.args.o)) _ _ _ _)), rw e (turned_none _), c.requires.1)

pub overflow_add-turns : goal.overflow_add-turns
overflow_add-turns c = record { fits = omega (arith, turned-few _ _ _ c.loop-k.invariant.1) }

pub returns-then-zero_divisor : goal.returns-then-zero_divisor
returns-then-zero_divisor c =
    let turn = fold-turns (on_numbers c.args.n (operator_of c.args.o)) _ c.args.field.now.cells c.loop-k.value (state_of c.loop-k.st) _ _ c.in-Some.ensures.steps.1 in
    let zero = numbers-faulted c.args.n (operator_of c.args.o) c.loop-k.value _ (state_of c.loop-k.st) (rw c.from-operator.ensures at (sym c.if-zero_divisor.ensures)) in
    record {
      leaves = gives {e = fault c.args.n} (grind (arith, to_z-of_z)) record { left = c.fault.ensures };
      turns = λ e. absurd (one_more c.args.n (sym c.fault.ensures ∙ e));
    }

pub loop-k-preserved : goal.loop-k-preserved
loop-k-preserved c =
    let turn = fold-turns (on_numbers c.args.n (operator_of c.args.o)) _ c.args.field.now.cells c.loop-k.value (state_of c.loop-k.st) _ _ c.in-Some.ensures.steps.1 in (
      grind (arith, to_z-of_z),
      turned_more _ _ _ c.loop-k.invariant.1 _ _ c.in-Some.ensures.steps.1,
      c.loop-k.invariant.2,
    )

pub returns : goal.returns
returns c =
    let end = fold-ends (on_numbers c.args.n (operator_of c.args.o)) _ c.args.field.now.cells c.loop-k.value (state_of c.loop-k.st) c.in-None.ensures.steps.0 in
    record {
      leaves = gives {e = done (number c.loop-k.value) (state_of c.loop-k.st)} (grind (arith, to_z-of_z)) (gave (ap number (sym c.loop-k.value-is)) refl c.loop-k.invariant.2);
      turns = λ e. turned-all _ _ _ c.loop-k.invariant.1 c.in-None.ensures.steps.0 c.args.field.now.cells;
    }
