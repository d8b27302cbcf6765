-- `scan::own_rows` meets its contract. Assumes nothing.
use Rattle.std.proofs.Common.{ℕ, List, ℤ, pos, get_or, to_z, of_z, w32, rules}
use Rattle.scan.proofs.Blocks.{own_by}
use Rattle.scan.proofs.own_rows.Goals as goal

-- a cell as the machine reads it
read : List ℤ → ℕ → ℤ
read xs i = to_z w32 (of_z w32 (get_or xs i (pos 0)))

pub returns : goal.returns
unfolding read
returns c =
    own_by _ _ _ _ _ (read c.row_of.result.now 0) (read c.row_of-2.result.now 0) (read c.row_of-3.result.now c.args.device) _
    c.row_of.ensures c.row_of-2.ensures c.row_of-3.ensures c.eq.ensures (search rules) (search rules) (search rules)
