-- `forms::form_of` keeps this in its loop. The walk is the tuple of its fields there.
use Rattle.forms.proofs.Closing.{Closing}
use Rattle.forms.proofs.form_of.Given as goal

abbrev pub invariant-loop-walk : goal.invariant-loop-walk
invariant-loop-walk l = Closing l.part l.at (record { depth = l.walk.0; items = l.walk.1.0; last = l.walk.1.1.0.now; prior = l.walk.1.1.1.0.now })

abbrev pub decreases-loop-walk : goal.decreases-loop-walk
decreases-loop-walk l = l.at
