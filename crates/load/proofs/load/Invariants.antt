-- `load::load` keeps this in its loop.
use Rattle.std.proofs.Common.{length}
use Rattle.kinds.specs.Taken.{taken_of}
use Rattle.load.proofs.Turns.{Going}
use Rattle.load.proofs.load.Given as goal

abbrev pub invariant-loop-left : goal.invariant-loop-left
invariant-loop-left l = Going l.s l.t (taken_of l.named l.slots l.kept) l.left

abbrev pub decreases-loop-left : goal.decreases-loop-left
decreases-loop-left l = length l.left
