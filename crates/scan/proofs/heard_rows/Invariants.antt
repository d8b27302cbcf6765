-- `scan::heard_rows` keeps this in its loop.
use Rattle.scan.specs.Pass.{HeardRows}
use Rattle.scan.proofs.heard_rows.Given as goal

abbrev pub invariant-loop-b : goal.invariant-loop-b
invariant-loop-b l = HeardRows l.block l.b
