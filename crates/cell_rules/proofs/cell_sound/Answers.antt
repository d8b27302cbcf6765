-- `cell_rules::cell_sound` meets its contract. Assumes nothing.
use Rattle.std.proofs.Common.{arith, rules}
use Rattle.cell_rules.proofs.Cell.{heard_cell, pending_cell}
use Rattle.cell_rules.proofs.cell_sound.Goals as goal

pub returns-then-r-lt-DEVICES : goal.returns-then-r-lt-DEVICES
returns-then-r-lt-DEVICES c = heard_cell _ _ _ _ _ _ c.row_of-row.ensures c.requires.1 (search rules) _ c.heard_sound.ensures (omega arith)

pub returns-then-r : goal.returns-then-r
returns-then-r c =
    pending_cell _ _ _ _ _ _ c.row_of-row.ensures c.requires.1 (search rules) _ _ c.pending_sound.ensures (search rules) (omega arith) (omega arith)
