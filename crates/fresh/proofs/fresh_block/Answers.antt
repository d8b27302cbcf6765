-- `fresh::fresh_block` meets its contract. Assumes nothing.
use Rattle.std.proofs.Common.{◌≡◌, ap, ◌∙◌, arith}
use Rattle.fresh.proofs.Stores.{so_far, all_marks}
use Rattle.fresh.proofs.fresh_block.Goals as goal

pub returns : goal.returns
returns c = let e : c.loop-b.b ≡ 16 = omega arith in c.loop-b.invariant ∙ ap so_far e ∙ all_marks
