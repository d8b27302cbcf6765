-- `spatial::make_spatial` meets its contract. Assumes nothing.
use Rattle.std.proofs.Common.{◌≡◌, arith}
use Rattle.spatial.proofs.Notes.{spatials-none, spatials-more}
use Rattle.spatial.proofs.make_spatial.Goals as goal

pub loop-n-init : goal.loop-n-init
loop-n-init c = spatials-none (omega arith)

pub loop-n-preserved : goal.loop-n-preserved
loop-n-preserved c =
    spatials-more (omega arith) (c.args.ws.formed.node c.loop-n.n (omega arith)) c.loop-n.invariant c.spatial_of.ensures

pub returns : goal.returns
returns c = let e : c.loop-n.n ≡ c.args.count = omega arith in rw e at c.loop-n.invariant
