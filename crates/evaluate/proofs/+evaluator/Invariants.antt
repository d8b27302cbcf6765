-- What falls at each call within the evaluator's cycle, 8 for each node and the rank of the function below it, and what the fold keeps in its loop.
use Rattle.std.proofs.Common.{◌≡◌, pos, ◌+◌, ◌*◌}
use Rattle.round.specs.Round.{folded}
use Rattle.domain.specs.Held.{held}
use Rattle.domain.specs.Members.{members}
use Rattle.domain.proofs.Laws.{Turned}
use Rattle.apply.specs.State.{state_of, fault_of}
use Rattle.apply.proofs.Folding.{along}
use Rattle.evaluate.proofs.Body.{body_at}
use Rattle.evaluate.proofs.+evaluator.Given as goal

abbrev pub decreases-argument : goal.decreases-argument
decreases-argument l = l.n * 8 + 6

abbrev pub decreases-call : goal.decreases-call
decreases-call l = l.n * 8

abbrev pub decreases-call_at : goal.decreases-call_at
decreases-call_at l = l.n * 8 + 3

abbrev pub decreases-field_at : goal.decreases-field_at
decreases-field_at l = l.n * 8 + 4

abbrev pub decreases-field_if_at : goal.decreases-field_if_at
decreases-field_if_at l = l.n * 8 + 3

abbrev pub decreases-field_side : goal.decreases-field_side
decreases-field_side l = l.n * 8 + 6

abbrev pub decreases-fold_at : goal.decreases-fold_at
decreases-fold_at l = l.n * 8 + 2

abbrev pub decreases-fold_by : goal.decreases-fold_by
decreases-fold_by l = l.n * 8 + 1

abbrev pub decreases-if_at : goal.decreases-if_at
decreases-if_at l = l.n * 8 + 3

abbrev pub decreases-more_at : goal.decreases-more_at
decreases-more_at l = l.n * 8 + 1

abbrev pub decreases-mux_at : goal.decreases-mux_at
decreases-mux_at l = l.n * 8 + 2

abbrev pub decreases-nbr_at : goal.decreases-nbr_at
decreases-nbr_at l = l.n * 8 + 3

abbrev pub decreases-number_at : goal.decreases-number_at
decreases-number_at l = l.n * 8 + 4

abbrev pub decreases-number_side : goal.decreases-number_side
decreases-number_side l = l.n * 8 + 5

abbrev pub decreases-operand : goal.decreases-operand
decreases-operand l = l.n * 8 + 5

abbrev pub decreases-operator_at : goal.decreases-operator_at
decreases-operator_at l = l.n * 8 + 3

abbrev pub decreases-other_at : goal.decreases-other_at
decreases-other_at l = l.n * 8 + 3

abbrev pub decreases-rep_at : goal.decreases-rep_at
decreases-rep_at l = l.n * 8 + 2

abbrev pub decreases-sense_at : goal.decreases-sense_at
decreases-sense_at l = l.n * 8 + 2

abbrev pub invariant-fold_by-loop-k : goal.invariant-fold_by-loop-k
invariant-fold_by-loop-k l =
    (along (body_at l.t l.e l.here) (members l.k-iterator.bits) l.field.cells l.value (state_of l.st)
    ≡ folded (body_at l.t l.e l.here) (held l.field) l.from (state_of l.initial.st))
    × Turned l.field.dom.bits l.k-iterator.bits l.turns
    × (fault_of l.st ≡ pos 0)
