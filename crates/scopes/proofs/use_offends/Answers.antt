-- `scopes::use_offends` meets its contract. Assumes nothing.
use Rattle.std.proofs.Common.{refl, arith, below_none}
use Rattle.scopes.proofs.Calls.{no-flags, more-flags, same_flags, passes_over, passes, stops, ends}
use Rattle.scopes.proofs.use_offends.Goals as goal

pub loop-n-init : goal.loop-n-init
loop-n-init c = record { flags = no-flags _ _; clean = record { none = λ t s. below_none _ } }

pub loop-n-preserved-then-kind-lt-FOLD_BY : goal.loop-n-preserved-then-kind-lt-FOLD_BY
loop-n-preserved-then-kind-lt-FOLD_BY c = record {
  flags = same_flags c.loop-n.invariant.flags c.if-kind-lt-FOLD_BY.true;
  clean = passes_over c.loop-n.invariant.clean (omega arith) c.if-kind-lt-FOLD_BY.true;
}

pub returns-then-offends : goal.returns-then-offends
returns-then-offends c = stops c.loop-n.invariant.flags c.loop-n.invariant.clean (omega arith) (omega arith) c.from-d.ensures c.from-b.ensures c.offends.ensures c.if-offends.true

pub loop-n-preserved : goal.loop-n-preserved
loop-n-preserved c = record {
  flags = more-flags c.loop-n.invariant.flags (omega arith) c.from-d.ensures refl;
  clean = passes c.loop-n.invariant.flags c.loop-n.invariant.clean (omega arith) (omega arith) c.from-d.ensures c.from-b.ensures c.offends.ensures c.if-offends.false;
}

pub returns : goal.returns
returns c = ends c.loop-n.invariant.clean (omega arith)
