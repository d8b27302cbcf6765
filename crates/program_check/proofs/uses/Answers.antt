-- `program_check::uses` meets its contract. Assumes nothing.
use Rattle.program_check.proofs.Columns.{columns_of}
use Rattle.load.specs.Loads.{table_of}
use Rattle.program_check.proofs.uses.Goals as goal

pub returns : goal.returns
returns c = λ t h. c.use_offends.ensures (table_of t) (columns_of h c.make_spatial.ensures c.top_of.ensures)
