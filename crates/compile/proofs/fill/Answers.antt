-- `compile::fill` meets its contract. Assumes nothing.
use Rattle.std.proofs.Common.{sym, ◌∙◌, arith}
use Rattle.compile.proofs.Turning.{making-first, making-able, making-end, making-within, making-begun, making-full, making-next}
use Rattle.compile.proofs.fill.Goals as goal

pub loop-l-init : goal.loop-l-init
loop-l-init c = rw c.requires (making-first _)

pub token_done-requires : goal.token_done-requires
token_done-requires c =
    let b = making-begun c.loop-l.invariant _ (sym c.next.ensures ∙ c.in-Some.is) _ c.form_start-top.ensures in
    let h = making-within c.loop-l.invariant _ (sym c.next.ensures ∙ c.in-Some.is) in
    (b.0, omega (arith, h.filled), h.inside, b.1, making-able c.loop-l.invariant)

pub returns-then-is_full : goal.returns-then-is_full
returns-then-is_full c =
    making-full c.loop-l.invariant _ (sym c.next.ensures ∙ c.in-Some.is) _ c.form_start-top.ensures _ _ c.token_done.ensures (sym c.is_full.ensures ∙ c.if-is_full.true)

pub slice_bounds-token_code-end : goal.slice_bounds-token_code-end
slice_bounds-token_code-end c = (making-within c.loop-l.invariant _ (sym c.next.ensures ∙ c.in-Some.is)).inside

pub loop-l-smaller : goal.loop-l-smaller
loop-l-smaller c = let h = making-within c.loop-l.invariant _ (sym c.next.ensures ∙ c.in-Some.is) in omega (arith, h.behind, h.filled, h.inside)

pub loop-l-preserved : goal.loop-l-preserved
loop-l-preserved c =
    making-next c.loop-l.invariant _ (sym c.next.ensures ∙ c.in-Some.is) _ c.form_start-top.ensures _ _ c.token_done.ensures (sym c.is_full.ensures ∙ c.if-is_full.false)
    _ _ _ c.depth_after-depth.ensures c.token_code.ensures c.after-mode.ensures

pub main_node-requires : goal.main_node-requires
main_node-requires c = let a = making-able c.loop-l.invariant in omega (arith, a.small)

pub returns : goal.returns
returns c = making-end c.loop-l.invariant (sym c.next.ensures ∙ c.in_default.is) _ c.last.result c.last.ensures c.main_node.ensures
