-- `fresh::fresh` meets its contract. Assumes nothing.
use Rattle.std.proofs.Common.{refl, arith}
use borrow.Author.Tests.{eq-eqb, ne_eqb}
use Rattle.network.specs.Network.{copies, fresh_call}
use Rattle.network.proofs.Stores.{nothing_yet}
use Rattle.fresh.proofs.Stores.{next-block, made-fresh, paired}
use Rattle.fresh.proofs.fresh.Goals as goal

pub returns-then-net-ne-CELLS : goal.returns-then-net-ne-CELLS
unfolding fresh_call
returns-then-net-ne-CELLS c = rw (ne_eqb _ _ c.if-net-ne-CELLS.true)

pub loop-device-init : goal.loop-device-init
unfolding copies
loop-device-init c = nothing_yet c.args.net.now 0

pub loop-device-preserved : goal.loop-device-preserved
loop-device-preserved c = next-block c.args.net.now c.loop-device.net _ _ _ c.fresh_block-block.ensures c.loop-device.invariant c.copy.ensures

pub returns : goal.returns
unfolding fresh_call
returns c =
    let l = c.loop-device in
    rw (eq-eqb _ _ c.if-net-ne-CELLS.false) (paired refl (made-fresh c.args.net.now l.net l.device (omega arith) c.if-net-ne-CELLS.false l.invariant))
