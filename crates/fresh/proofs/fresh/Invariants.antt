-- `fresh::fresh` keeps this in its loop.
use Rattle.std.proofs.Common.{◌≡◌}
use Rattle.network.specs.Network.{copies, fresh_block}
use Rattle.network.specs.Cells.{store}
use Rattle.fresh.proofs.fresh.Given as goal

abbrev pub invariant-loop-device : goal.invariant-loop-device
invariant-loop-device l = l.net ≡ store l.initial.net 0 (copies l.device fresh_block)
