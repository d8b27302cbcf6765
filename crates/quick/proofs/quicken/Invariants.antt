-- `quick::quicken` keeps this in its loops.
use Rattle.quick.specs.Quick.{Quickened}
use Rattle.quick.proofs.quicken.Given as goal

abbrev pub invariant-loop-i : goal.invariant-loop-i
invariant-loop-i l = Quickened l.initial.ws l.ws
