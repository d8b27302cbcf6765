-- `apply::erase` meets its contract. Assumes nothing.
use Rattle.apply.proofs.Erasing.{erased_by_walk}
use Rattle.apply.proofs.erase.Goals as goal

pub returns : goal.returns
returns c = erased_by_walk _ _ _ _ c.loop-v.invariant c.in-None.ensures.steps.0
