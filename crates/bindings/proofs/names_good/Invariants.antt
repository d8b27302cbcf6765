-- `bindings::names_good` keeps this in its loop.
use Rattle.std.specs.Prelude.{◌-◌, length}
use Rattle.token_scans.specs.Sought.{number_of}
use Rattle.bindings.proofs.Goods.{Passing}
use Rattle.bindings.proofs.names_good.Given as goal

abbrev pub invariant-loop-l : goal.invariant-loop-l
invariant-loop-l l = Passing l.s l.top l.at l.depth (number_of l.mode)

abbrev pub decreases-loop-l : goal.decreases-loop-l
decreases-loop-l l = length l.s - l.at
