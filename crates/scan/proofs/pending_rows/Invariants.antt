-- `scan::pending_rows` keeps this in its loop.
use Rattle.std.proofs.Common.{◌*◌}
use Rattle.scan.specs.Pass.{PendingRows}
use Rattle.scan.proofs.pending_rows.Given as goal

abbrev pub invariant-loop-pair : goal.invariant-loop-pair
invariant-loop-pair l = PendingRows l.block (2 * l.pair)
