-- `quick::quicken` meets its contract. Assumes nothing.
use Rattle.std.proofs.Common.{arith}
use Rattle.quick.proofs.Changes.{step}
use Rattle.quick.proofs.quicken.Goals as goal

pub loop-i-preserved : goal.loop-i-preserved
loop-i-preserved c = step (omega arith) (omega arith) c.loop-i.invariant c.quick.ensures
