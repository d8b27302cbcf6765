-- `scan::rows_are` keeps this in its loop.
use Rattle.std.proofs.Common.{◌≡◌, false}
use Rattle.scan.specs.Pass.{RowsAre}
use Rattle.scan.proofs.rows_are.Given as goal

abbrev pub invariant-loop-i : goal.invariant-loop-i
invariant-loop-i l = l.other ≡ false → RowsAre l.rows l.first l.i
