-- `program_check::top_of` meets its contract. Assumes nothing.
use Rattle.std.proofs.Common.{◌≡◌, arith}
use Rattle.program_check.proofs.Columns.{above_none, above_more}
use Rattle.program_check.proofs.top_of.Goals as goal

pub loop-d-init : goal.loop-d-init
loop-d-init c = above_none

pub loop-d-preserved : goal.loop-d-preserved
loop-d-preserved c = above_more c.loop-d.invariant (omega arith) (omega arith)

pub returns : goal.returns
returns c = let e : c.loop-d.d ≡ c.args.defs = omega arith in rw e at c.loop-d.invariant
