-- `lists::count_events` keeps this in its loop.
use lib.ListN.{length}
use Rattle.lists.proofs.Turns.{Going}
use Rattle.lists.proofs.count_events.Given as goal

abbrev pub invariant-loop-rest : goal.invariant-loop-rest
invariant-loop-rest l = Going l.list l.rest l.n

abbrev pub decreases-loop-rest : goal.decreases-loop-rest
decreases-loop-rest l = length l.rest
