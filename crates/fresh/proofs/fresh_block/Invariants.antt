-- `fresh::fresh_block` keeps this in its loop.
use Rattle.std.proofs.Common.{◌≡◌}
use Rattle.fresh.proofs.Stores.{so_far}
use Rattle.fresh.proofs.fresh_block.Given as goal

abbrev pub invariant-loop-b : goal.invariant-loop-b
invariant-loop-b l = l.block ≡ so_far l.b
