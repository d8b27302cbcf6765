-- `parse::pass` keeps this in its loop.
use Rattle.std.proofs.Common.{◌≡◌, ◌-◌, length}
use Rattle.parse.proofs.Passing.{Going}
use Rattle.parse.proofs.pass.Given as goal

abbrev pub invariant-loop-t : goal.invariant-loop-t
invariant-loop-t l = Going l.s l.base l.at l.depth l.deepest l.window.levels × (l.window.base ≡ l.base)

abbrev pub decreases-loop-t : goal.decreases-loop-t
decreases-loop-t l = length l.s - l.at
