-- `scan::plain_row` meets its contract. Assumes nothing.
use Rattle.std.proofs.Common.{rules}
use Rattle.scan.proofs.Tests.{absent_passes}
use Rattle.scan.proofs.plain_row.Goals as goal

pub returns-then-age-eq-MARK : goal.returns-then-age-eq-MARK
returns-then-age-eq-MARK c = λ t. absent_passes _ _ c.told-row (c.rows_are.ensures t) (search rules)
