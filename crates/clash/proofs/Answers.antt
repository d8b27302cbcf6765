-- The answer space holds the answer of the event at each place of a list.
use mathlib.Core.Path.{◌≡◌, refl, ap}
use mathlib.Core.Logic.{ite}
use mathlib.Core.HLevel.{Discrete}
use mathlib.Core.List.{List, [], ◌∷◌}
use mathlib.Core.Option.{Option, none, some}
use Prim.Native.Nat.{ℕ, zero, suc, ◌+◌, ◌*◌, ◌≤◌, ◌<◌, suc-le-suc}
use native.Mathlib.Nat.{le_of_suc-le-suc}
use native.Mathlib.Omega.{arith}
use lib.ListN.{length, get_elem?}
use lib.IntN.{ℤ, pos}
use Rattle.order.specs.Order.{count, place, answers}
use Rattle.network.specs.Cells.{store}
use Rattle.event.specs.Step.{Answer}
use Rattle.event.specs.Calls.{answer_width, flat}
use Rattle.clash.specs.Demand3.{answer_at}

abbrev pub or_zeros : Option Answer → Answer
or_zeros none = (pos 0, pos 0)
or_zeros (some a) = a

-- two cells for each answer, where the space has room for them
pub stored_at : (l : List Answer) (space : List ℤ) (p : ℕ) → answer_width * length l ≤ length space → p < length l
    → answer_at (store space 0 (flat l)) p ≡ or_zeros (get_elem? l p)
stored_at [] space p r h = absurd (omega arith)
stored_at (a ∷ l) [] p r h = absurd (omega arith)
stored_at (a ∷ l) (x ∷ []) p r h = absurd (omega arith)
stored_at (a ∷ l) (x ∷ y ∷ space) zero r h = refl
stored_at (a ∷ l) (x ∷ y ∷ space) (suc p) r h =
    let q : 2 * suc p ≡ suc (suc (2 * p)) = omega arith in
    let k : 2 * suc p + 1 ≡ suc (suc (2 * p + 1)) = omega arith in
    rw (k, q) (stored_at l space p (omega arith) (omega arith))

-- each event is answered
pub length-answers : {Net Event Answer : Type 0} (step : Net → Event → Net × Answer) (n : Net) (l : List Event) → length (answers step n l) ≡ length l
length-answers step n [] = refl
length-answers step n (e ∷ l) = ap suc (length-answers step (step n e).0 l)

-- a copy that there is has a place in the list
pub place_inside : {Event : Type 0} (same : Discrete Event) (e : Event) (k : ℕ) (l : List Event) → k < count same e l → place same e k l < length l
place_inside same e k [] h = absurd (omega arith)
place_inside same e zero (x ∷ l) h = go (same e x) h (place_inside same e zero l)
  where
    go : (d : Dec (e ≡ x)) → 0 < ite d (suc (count same e l)) (count same e l) → (0 < count same e l → place same e 0 l < length l)
        → ite d 0 (suc (place same e 0 l)) < suc (length l)
    go (yes _) h ih = omega arith
    go (no _) h ih = suc-le-suc (ih h)
place_inside same e (suc k) (x ∷ l) h = suc-le-suc (go (same e x) h (place_inside same e k l) (place_inside same e (suc k) l))
  where
    go : (d : Dec (e ≡ x)) → suc k < ite d (suc (count same e l)) (count same e l) → (k < count same e l → place same e k l < length l)
        → (suc k < count same e l → place same e (suc k) l < length l) → ite d (place same e k l) (place same e (suc k) l) < length l
    go (yes _) h ih next = ih (le_of_suc-le-suc h)
    go (no _) h ih next = next h
