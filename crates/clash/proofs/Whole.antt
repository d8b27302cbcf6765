-- Demand 3, of whole lists.
use mathlib.Core.Path.{◌≡◌, refl, sym, ap, ◌∙◌}
use mathlib.Core.HLevel.{Discrete}
use mathlib.Core.Bool.{Bool, true, false, cond}
use mathlib.Core.List.{List}
use Prim.Native.Nat.{ℕ, ◌*◌, ◌≤◌, ◌<◌}
use native.Mathlib.Omega.{arith}
use lib.Dec.{eqb, leb}
use lib.ListN.{length}
use lib.Seq.{ext_get_or}
use lib.IntN.{ℤ, pos}
use borrow.Author.Tests.{eqb-true, leb-true}
use Rattle.order.specs.Order.{count, place, answers, answer_of}
use Rattle.order.proofs.Alike.{orders-run-alike}
use Rattle.program.specs.Check.{Verdict, main_of}
use Rattle.program.specs.Tree.{Expr}
use Rattle.network.specs.Network.{network_size, soundness}
use Rattle.event.specs.Event.{Entry, event_of}
use Rattle.event.specs.Step.{step}
use Rattle.event.specs.Calls.{answer_width, room, performed}
use Rattle.event.proofs.Passed.{run-performed}
use Rattle.clash.specs.Clash.{entries_clash}
use Rattle.clash.specs.Demand3.{Demand3, answer_at}
use Rattle.clash.proofs.Touched.{Whole, stays}
use Rattle.clash.proofs.Commute.{entries-commute}
use Rattle.clash.proofs.Answers.{or_zeros, stored_at, length-answers, place_inside}

-- a test that leaves no refusal holds, where its other outcome is a refusal
holds : (t : Bool) (v w : Verdict) → 0 < w.0 → cond t v w ≡ (0, 0) → t ≡ true
holds true v w h q = refl
holds false v w h q = absurd (omega (arith, ap (λ (u : Verdict). u.0) q))

whole : (n : List ℤ) → soundness n ≡ (0, 0) → Whole n
unfolding soundness
whole n q = eqb-true (length n) network_size (holds (eqb (length n) network_size) _ (11, 0) (omega arith) q)

fits : (l : List Entry) (space : List ℤ) → room l space ≡ (0, 0) → answer_width * length l ≤ length space
fits l space q = leb-true (answer_width * length l) (length space) (holds (leb (answer_width * length l) (length space)) (0, 0) (13, 0) (omega arith) q)

-- the answer to copy k of e stands in the space after the run
answered : (same : Discrete Entry) (main : Expr) (n : List ℤ) (l : List Entry) (space : List ℤ) → room l space ≡ (0, 0)
    → (e : Entry) (k : ℕ) → k < count same e l
    → answer_at (performed main n l space).space (place same e k l) ≡ or_zeros (answer_of (step main) same n l e k)
unfolding performed
answered same main n l space r e k h =
    stored_at (answers (step main) n l) space (place same e k l) (rw length-answers (fits l space r)) (rw length-answers (place_inside same e k l h))

-- both runs are carried out, from equal networks; `orders-run-alike` does the rest
pub demand-3 : (same : Discrete Entry) → Demand3 same
unfolding performed
demand-3 same program n n' s t x y l m g =
    let main : Expr = main_of program in
    let w : Whole n = whole n g.sound in
    let equal : n ≡ n' = ext_get_or (pos 0) n n' (w ∙ sym (whole n' g.sound')) (λ i _. g.alike i) in
    let alike = orders-run-alike same (step main) Whole (λ n e. stays main n (event_of e)) entries_clash (entries-commute main) l m g.events g.order n w in
    rw (run-performed program n s x l g.accepted g.sound g.read g.fits, run-performed program n' t y m g.accepted g.sound' g.read' g.fits', ← equal)
    (record {
      first = refl;
      second = refl;
      cells = alike.0;
      answers = λ e k h. answered same main n l x g.fits e k h ∙ ap or_zeros (alike.1 e k) ∙ sym (answered same main n m y g.fits' e k (rw g.events at h));
    })
