-- `cell_rules::any_present` keeps this in its loop.
use Rattle.std.proofs.Common.{◌≡◌, take}
use Rattle.network.specs.Network.{any_present}
use Rattle.cell_rules.proofs.any_present.Given as goal

abbrev pub invariant-loop-x : goal.invariant-loop-x
invariant-loop-x l = l.any ≡ any_present (take l.x-index l.slots)
