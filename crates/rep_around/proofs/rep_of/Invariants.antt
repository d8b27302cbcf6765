-- `rep_around::rep_of` keeps this in its loop. The walk is the tuple of its fields there.
use Rattle.rep_around.proofs.Walks.{Walking}
use Rattle.rep_around.proofs.rep_of.Given as goal

abbrev pub invariant-loop-walk : goal.invariant-loop-walk
invariant-loop-walk l = Walking l.w l.form l.at (record { depth = l.walk.0; items = l.walk.1.0; last = l.walk.1.1.0.now; prior = l.walk.1.1.1.0.now })

abbrev pub decreases-loop-walk : goal.decreases-loop-walk
decreases-loop-walk l = l.at
