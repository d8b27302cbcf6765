-- `compile::fill` keeps this in its loop.
use Rattle.std.specs.Prelude.{◌-◌, length}
use Rattle.token_scans.specs.Sought.{number_of}
use Rattle.compile.proofs.Turning.{Making}
use Rattle.compile.proofs.fill.Given as goal

abbrev pub invariant-loop-l : goal.invariant-loop-l
invariant-loop-l l = Making l.s l.table l.waiting l.top l.at l.depth (number_of l.mode)

abbrev pub decreases-loop-l : goal.decreases-loop-l
decreases-loop-l l = length l.s - l.at
