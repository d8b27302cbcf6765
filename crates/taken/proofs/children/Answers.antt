-- `taken::children` meets its contract. Assumes nothing.
use Rattle.std.proofs.Common.{◌≡◌, true, false, leb, rules, tests, refl, sym, ◌∙◌, arith}
use Rattle.std.specs.Prelude.{Err}
use Rattle.std.specs.List.{list_any}
use Rattle.std.proofs.lemmas.Iterator.Search.{any_from_yields_List}
use Rattle.std.proofs.lemmas.Iterator.{YieldsList-from_slice}
use Rattle.program.specs.Table.{beyond}
use Rattle.taken.proofs.Walk.{beyond_any, stops, goes-taken, goes-with, all_taken}
use Rattle.taken.proofs.children.Goals as goal

pub returns-then-any : goal.returns-then-any
returns-then-any c =
    let e : c.any.result ≡ list_any (leb c.args.n) c.args.ks.now =
    any_from_yields_List (leb c.args.n) _ _ c.any.result c.any.ensures.ran (YieldsList-from_slice c.args.ks.now cc) (λ x b q k. search (rules, tests)) in
    let f : beyond c.args.n c.args.ks.now ≡ true = sym (beyond_any c.args.n c.args.ks.now) ∙ sym e ∙ c.if-any.true in
    record { number = rw f; after = λ z. absurd (omega arith) }

pub returns-in_err-take : goal.returns-in_err-take
returns-in_err-take c =
    let e : c.any.result ≡ list_any (leb c.args.n) c.args.ks.now =
    any_from_yields_List (leb c.args.n) _ _ c.any.result c.any.ensures.ran (YieldsList-from_slice c.args.ks.now cc) (λ x b q k. search (rules, tests)) in
    let f : beyond c.args.n c.args.ks.now ≡ false = sym (beyond_any c.args.n c.args.ks.now) ∙ sym e ∙ c.if-any.false in
    let r : c.from_residual.result ≡ Err c.in_err-take.field-0.0 = search rules in
    rw r (stops c.loop-k.named c.args.ks.now c.loop-k.k-index c.loop-k-test.true c.in_err-take.ensures refl f c.loop-k.invariant.1)

pub loop-k-preserved : goal.loop-k-preserved
loop-k-preserved c =
    let t = goes-taken c.loop-k.named c.args.ks.now c.loop-k.k-index c.loop-k-test.true c.take.ensures c.in_ok-take.was in
    let w = goes-with c.loop-k.named c.args.ks.now c.loop-k.k-index c.loop-k-test.true c.take.ensures c.in_ok-take.was in
    (c.take.ensures.long, c.loop-k.invariant.1 ∙ t, c.loop-k.invariant.2 ∙ w)

pub returns : goal.returns
returns c =
    let e : c.any.result ≡ list_any (leb c.args.n) c.args.ks.now =
    any_from_yields_List (leb c.args.n) _ _ c.any.result c.any.ensures.ran (YieldsList-from_slice c.args.ks.now cc) (λ x b q k. search (rules, tests)) in
    let f : beyond c.args.n c.args.ks.now ≡ false = sym (beyond_any c.args.n c.args.ks.now) ∙ sym e ∙ c.if-any.false in
    all_taken c.loop-k.k-index c.loop-k-test.false f c.loop-k.invariant.1 c.loop-k.invariant.2
