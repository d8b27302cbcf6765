-- `lists::one_event` meets its contract. Assumes nothing.
use mathlib.Core.Path.{sym, ◌∙◌}
use native.Mathlib.Omega.{arith}
use borrow.Author.Tests.{eqb-true, eqb-false}
use Rattle.lists.proofs.Turns.{one-bad, one-long, one-alone}
use Rattle.lists.proofs.one_event.Goals as goal

-- no field, cut short, or no event:
-- none is whole
pub returns-in_default : goal.returns-in_default
returns-in_default c = let e = one-bad _ c.in_default.ensures.first in cc

pub returns-then-not-is_empty : goal.returns-then-not-is_empty
returns-then-not-is_empty c =
    let e = one-long _ _ _ c.in-Some.ensures.first (omega (arith, eqb-false _ 0 (sym c.is_empty.ensures ∙ c.if-not-is_empty.true))) in
    cc

pub returns : goal.returns
returns c = one-alone _ _ _ c.in-Some.ensures.first (eqb-true _ 0 (sym c.is_empty.ensures ∙ c.if-not-is_empty.false))
