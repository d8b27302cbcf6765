-- `fire::begin` meets its contract. Assumes nothing.
use mathlib.Core.Path.{◌≡◌, ap, ◌∙◌}
use mathlib.Core.List.{List, ◌++◌}
use Prim.Native.Nat.{◌≤◌}
use native.Mathlib.Omega.{arith}
use borrow.Rule.Slice.PartMut.{put_mid}
use lib.ListN.{length, take, drop, set, replicate, length-append, length-take, length-drop, length-replicate}
use lib.Seq.{take-set-le, drop-set-add, get_or-set_same, take_at}
use lib.IntN.{ℤ, pos}
use Rattle.std.proofs.lemmas.Slice.{take-put_mid_below, between-put_mid}
use Rattle.number.specs.Number.{mark}
use Rattle.apply.specs.State.{state_size, state_of}
use Rattle.fire.specs.Fires.{Begun}
use Rattle.fire.proofs.begin.Goals as goal

begun : (here st u v : List ℤ) → length st ≡ state_size → 16 ≤ length here → u ≡ take 16 here
    → v ≡ replicate (length (take 16 (drop 16 (u ++ drop 16 st)))) mark → Begun here (set (put_mid 16 16 (u ++ drop 16 st) v) 32 (pos 0))
unfolding state_of
begun here st u v h k p r =
    let lu : length u ≡ 16 = ap length p ∙ simp length-take (omega arith) in
    let e : length (take 16 (drop 16 (u ++ drop 16 st))) ≡ 16 = simp (length-take, length-drop, length-append) (omega arith) in
    let q : v ≡ replicate 16 mark = rw e at r in
    let lv : length v ≡ 16 = ap length q ∙ length-replicate 16 mark in
    let m : List ℤ = put_mid 16 16 (u ++ drop 16 st) v in
    let front : take 16 (set m 32 (pos 0)) ≡ take 16 here =
    take-set-le 16 m 32 (pos 0) (omega arith) ∙ (take-put_mid_below 16 16 (u ++ drop 16 st) v 16 (omega arith) (omega (arith, length-append u (drop 16 st))) ∙ (take_at u (drop 16 st) 16 lu ∙ p)) in
    let back : take 16 (drop 16 (set m 32 (pos 0))) ≡ replicate 16 mark =
    ap (take 16) (drop-set-add 16 m 16 (pos 0))
    ∙ (take-set-le 16 (drop 16 m) 16 (pos 0) (omega arith) ∙ (between-put_mid 16 16 (u ++ drop 16 st) v 32 (omega (arith, length-append u (drop 16 st))) lv ∙ q)) in
    record { state = rw (front, back); clear = get_or-set_same m 32 (pos 0) (pos 0) (simp (length-append, length-take, length-drop) (omega arith)) }

pub returns : goal.returns
returns c = begun c.args.here.now c.args.st.now _ _ (omega arith) (omega arith) c.copy_from_slice.ensures.after (c.fill.ensures.after (λ y e. e))
