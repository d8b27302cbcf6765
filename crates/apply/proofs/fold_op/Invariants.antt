-- `apply::fold_op` keeps this in its loop.
use Rattle.std.proofs.Common.{◌≡◌, ℕ, ℤ, pos}
use Rattle.number.specs.Number.{operator_of}
use Rattle.round.specs.Round.{State, Outcome, on_numbers, folded}
use Rattle.domain.specs.Held.{held}
use Rattle.domain.specs.Members.{members}
use Rattle.domain.proofs.Laws.{Turned}
use Rattle.apply.specs.State.{state_of, fault_of}
use Rattle.apply.proofs.Folding.{along}
use Rattle.apply.proofs.fold_op.Given as goal

-- the operator o of node n
abbrev by : ℕ → ℕ → ℤ → ℤ → State → Outcome
by n o x y s = on_numbers n (operator_of o) x y s

-- what is left to fold comes to what the whole does, and has the turns that are to come
abbrev pub invariant-loop-k : goal.invariant-loop-k
invariant-loop-k l = (along (by l.n l.o) (members l.k-iterator.bits) l.field.cells l.value (state_of l.st) ≡ folded (by l.n l.o) (held l.field) l.from (state_of l.initial.st))
    × Turned l.field.dom.bits l.k-iterator.bits l.turns
    × (fault_of l.st ≡ pos 0)
