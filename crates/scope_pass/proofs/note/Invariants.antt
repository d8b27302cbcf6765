-- `scope_pass::note` keeps this in its loops.
use Rattle.scope_pass.specs.Reads.{Notes}
use Rattle.scope_pass.proofs.note.Given as goal

abbrev pub invariant-loop-n : goal.invariant-loop-n
invariant-loop-n l = Notes l.ws.all.now l.us l.n
