-- `rep_masks::make_masks` meets its contract. Assumes nothing.
use Rattle.std.proofs.Common.{◌≡◌, refl, arith}
use Rattle.rep_masks.proofs.Notes.{blank-all, masks-none, blank-more, masks-more, masks-rest}
use Rattle.rep_masks.proofs.make_masks.Goals as goal

pub loop-n-init : goal.loop-n-init
loop-n-init c = record { masks = masks-none refl; blank = blank-all refl }

pub loop-n-preserved : goal.loop-n-preserved
loop-n-preserved c = record {
  masks = masks-more (omega arith) (c.args.ws.formed.node c.loop-n.n (omega arith)) c.loop-n.invariant.masks c.mask_of.ensures;
  blank = blank-more c.mask_of.result c.loop-n.invariant.blank;
}

pub returns : goal.returns
returns c =
    let e : c.loop-n.n ≡ c.args.count = omega arith in
    masks-rest c.requires.empty (rw e at c.loop-n.invariant.masks) (rw e at c.loop-n.invariant.blank)
