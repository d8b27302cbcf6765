-- `apply::fold_least` keeps this in its loop.
use Rattle.std.proofs.Common.{◌≡◌}
use Rattle.round.specs.Round.{State, folded}
use Rattle.domain.specs.Held.{held}
use Rattle.domain.specs.Members.{members}
use Rattle.domain.proofs.Laws.{Turned}
use Rattle.apply.specs.State.{lessens}
use Rattle.apply.proofs.Folding.{along}
use Rattle.apply.proofs.fold_least.Given as goal

-- what is left to fold comes to what the whole does, and has the turns that are to come
abbrev pub invariant-loop-j : goal.invariant-loop-j
invariant-loop-j l = ((s : State) → along lessens (members l.j-iterator.bits) l.field.cells l.least s ≡ folded lessens (held l.field) l.from s) × Turned l.field.dom.bits l.j-iterator.bits l.count
