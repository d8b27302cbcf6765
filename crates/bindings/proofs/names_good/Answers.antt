-- `bindings::names_good` meets its contract. Assumes nothing.
use Rattle.std.proofs.Common.{sym, ◌∙◌, arith}
use Rattle.bindings.proofs.Goods.{passing-first, passing-end, passing-within, passing-bad, passing-next}
use Rattle.bindings.proofs.names_good.Goals as goal

pub loop-l-init : goal.loop-l-init
loop-l-init c = passing-first _

pub slice_bounds-w-end : goal.slice_bounds-w-end
slice_bounds-w-end c = (passing-within c.loop-l.invariant _ (sym c.next.ensures ∙ c.in-Some.is)).inside

pub returns-then-not-token_good : goal.returns-then-not-token_good
returns-then-not-token_good c =
    passing-bad c.loop-l.invariant _ (sym c.next.ensures ∙ c.in-Some.is) _ c.form_start-top.ensures c.token_good.result c.token_good.ensures c.if-not-token_good.true

pub loop-l-smaller : goal.loop-l-smaller
loop-l-smaller c = let b = passing-within c.loop-l.invariant _ (sym c.next.ensures ∙ c.in-Some.is) in omega (arith, b.behind, b.filled, b.inside)

pub loop-l-preserved : goal.loop-l-preserved
loop-l-preserved c =
    passing-next c.loop-l.invariant _ (sym c.next.ensures ∙ c.in-Some.is) _ c.form_start-top.ensures c.token_good.result c.token_good.ensures
    c.if-not-token_good.false _ _ _ c.depth_after-depth.ensures c.token_code.ensures c.after-mode.ensures

pub returns : goal.returns
returns c = passing-end c.loop-l.invariant (sym c.next.ensures ∙ c.in_default.is)
