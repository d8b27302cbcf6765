-- `program_check::top_of` keeps this in its loops.
use Rattle.program_check.specs.TreeRows.{Above}
use Rattle.program_check.proofs.top_of.Given as goal

abbrev pub invariant-loop-d : goal.invariant-loop-d
invariant-loop-d l = Above l.bodies l.d l.top
