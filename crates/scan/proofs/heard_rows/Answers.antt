-- `scan::heard_rows` meets its contract. Assumes nothing.
use Rattle.std.proofs.Common.{rules}
use Rattle.scan.proofs.Blocks.{heard_more}
use Rattle.scan.proofs.heard_rows.Goals as goal

pub loop-b-preserved : goal.loop-b-preserved
loop-b-preserved c = heard_more _ _ _ _ _ c.loop-b.invariant c.row_of.ensures c.row_of-ages.ensures (search rules) (c.heard_row.ensures c.if-not-heard_row.false)
