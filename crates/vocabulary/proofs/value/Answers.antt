-- `vocabulary::value` meets its contract. Assumes nothing.
use native.Mathlib.Omega.{arith}
use Rattle.vocabulary.proofs.Turns.{value-begun, value-digit, value-again, value-whole}
use Rattle.vocabulary.proofs.value.Goals as goal

pub loop-d-init : goal.loop-d-init
loop-d-init c = value-begun _ c.requires

pub overflow_mul-n : goal.overflow_mul-n
overflow_mul-n c = let h = value-digit _ _ _ c.loop-d.invariant c.loop-d-test.true in omega arith

pub overflow_sub-d : goal.overflow_sub-d
overflow_sub-d c = let h = value-digit _ _ _ c.loop-d.invariant c.loop-d-test.true in omega arith

pub overflow_add-n : goal.overflow_add-n
overflow_add-n c = let h = value-digit _ _ _ c.loop-d.invariant c.loop-d-test.true in omega arith

pub loop-d-preserved : goal.loop-d-preserved
loop-d-preserved c = rw c.from.ensures (value-again _ _ _ c.loop-d.invariant c.loop-d-test.true)

pub returns : goal.returns
returns c = value-whole _ _ _ c.loop-d.invariant c.loop-d-test.false
