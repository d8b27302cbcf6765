-- `lists::count_events` meets its contract. Assumes nothing.
use mathlib.Core.Path.{sym, ◌∙◌}
use native.Mathlib.Omega.{arith}
use borrow.Author.Tests.{eqb-true, eqb-false}
use Rattle.lists.proofs.Turns.{begin, end-turn, bad-turn, next-turn}
use Rattle.lists.proofs.count_events.Goals as goal

pub loop-rest-init : goal.loop-rest-init
loop-rest-init c = begin _

-- cut short, or no event:
-- as many are whole as stand before it
pub returns-in_default : goal.returns-in_default
returns-in_default c =
    let e = bad-turn c.loop-rest.invariant (omega (arith, eqb-false _ 0 (sym c.is_empty.ensures ∙ c.loop-rest-test.true))) c.in_default.ensures.first in
    cc

pub loop-rest-preserved : goal.loop-rest-preserved
loop-rest-preserved c = next-turn c.loop-rest.invariant _ _ c.in-Some.ensures.first c.in-Some.ensures.shorter

pub returns : goal.returns
returns c = end-turn c.loop-rest.invariant (eqb-true _ 0 (sym c.is_empty.ensures ∙ c.loop-rest-test.false))
