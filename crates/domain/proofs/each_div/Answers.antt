-- `domain::each_div` meets its contract. Assumes nothing.
use Rattle.std.proofs.Common.{rules, arith, refl, replicate, pos}
use Rattle.std.proofs.lemmas.Int.{to_z-of_z}
use Rattle.domain.proofs.Fields.{quotient, no_zero, no-zero-after, walked_none, walked_more, walked_all}
use Rattle.domain.proofs.each_div.Goals as goal

pub loop-k-init : goal.loop-k-init
loop-k-init c = (
  search rules,
  walked_none (quotient c.args.xs.now c.args.ys.now) c.args.dom.bits c.into_iter-k-iterator.result.bits (replicate 16 (pos 0)) refl (search rules),
)

pub div-requires : goal.div-requires
div-requires c =
    let n = no_zero _ _ _ c.in-Some.ensures.steps.1 c.args.ys.now c.loop-k.invariant.0 in
    grind (arith, to_z-of_z)

pub loop-k-preserved : goal.loop-k-preserved
loop-k-preserved c = (
  no-zero-after _ _ _ c.in-Some.ensures.steps.1 c.args.ys.now c.loop-k.invariant.0,
  walked_more _ _ _ c.in-Some.ensures.steps.1 (quotient c.args.xs.now c.args.ys.now) c.args.dom.bits c.loop-k.out _
      (grind (arith, to_z-of_z)) c.in-Some.ensures.steps.0 c.loop-k.invariant.1,
)

pub returns : goal.returns
returns c = walked_all (quotient c.args.xs.now c.args.ys.now) c.args.dom.bits _ c.loop-k.out c.in-None.ensures.steps.0 c.loop-k.invariant.1
