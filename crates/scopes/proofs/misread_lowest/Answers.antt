-- `scopes::misread_lowest` meets its contract. Assumes nothing.
use Rattle.std.proofs.Common.{◌≡◌, arith}
use Rattle.scopes.proofs.Walks.{more-misread, all-trees, clean-trees}
use Rattle.scopes.proofs.misread_lowest.Goals as goal

pub returns-then-clean : goal.returns-then-clean
returns-then-clean c = λ t h. clean-trees t h (c.clean.ensures c.if-clean.true)

pub loop-d-preserved : goal.loop-d-preserved
loop-d-preserved c = λ t h. more-misread t h c.loop-d.d (omega arith) (rw c.from.ensures at c.walk-r.ensures) (c.loop-d.invariant t h)

pub returns : goal.returns
returns c = λ t h. let e : c.loop-d.d ≡ c.args.definitions = omega arith in all-trees t h c.walk.ensures (rw e at (c.loop-d.invariant t h))
