-- `sorts::lowest_field` meets its contract. Assumes nothing.
use Rattle.std.proofs.Common.{refl}
use Rattle.sorts.proofs.Lowest.{all-lowered, lower-next}
use Rattle.sorts.proofs.lowest_field.Goals as goal

pub loop-k-init : goal.loop-k-init
loop-k-init c = refl

pub loop-k-preserved : goal.loop-k-preserved
loop-k-preserved c = lower-next _ _ _ _ _ c.loop-k-test.true c.loop-k.invariant c.lower_field-lowest.ensures

pub returns : goal.returns
returns c = all-lowered _ _ _ _ _ c.loop-k-test.false c.loop-k.invariant
