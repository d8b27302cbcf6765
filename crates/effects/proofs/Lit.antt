-- What `signal` asks of a sensors' cell: a sound network has it for every device, and every event keeps it. Assumes nothing.
use mathlib.Core.Path.{◌≡◌, refl, ap}
use mathlib.Core.Bool.{Bool, true, false, cond, ◌&&◌}
use mathlib.Core.List.{List, [], ◌∷◌}
use mathlib.Core.Option.{Option, none, some}
use Prim.Native.Nat.{ℕ, zero, suc, ◌+◌, ◌*◌, ◌-◌, ◌≤◌, ◌<◌}
use lib.ListN.{length, get_or, take, drop, length-take, length-drop, get_or-eq_default}
use lib.Seq.{get_or-take, get_or-drop, drop-drop}
use lib.IntN.{ℤ, pos, nat_abs}
use Rattle.program.specs.Tree.{Expr}
use Rattle.network.specs.Cells.{row, store, write}
use Rattle.network.specs.Network.{sensors_at, block_size, network_size, base, no_message, is_distance, cell_sound, first_not, placed, lowest_unsound, unsound_at, soundness}
use Rattle.event.specs.Event.{Event, fire, deliver, lose, link, signal}
use Rattle.event.specs.Step.{sensors_of, heard_from, pending_to, age_of, block, is_device, out_of_range, digit_set, refusal, effect, plan, do_event}
use lib.Dec.{eqb, ltb}
use lib.Signed.{le_z}
use borrow.Author.Tests.{not-false, le-leb, eqb-true, ltb-true, ltb-false}
use native.Mathlib.Nat.{zero-add, add-zero}
use native.Mathlib.Omega.{arith}
use Rattle.network.proofs.Stores.{store-has}
use Rattle.event.proofs.Devices.{pair_of}
use Rattle.decide.proofs.Picks.{both}
use Rattle.effects.proofs.Refusals.{in-range}
use Rattle.round.specs.Round.{fired}
use Rattle.round.proofs.After.{fired-length}
use Rattle.effects.specs.Does.{Lit}
use Rattle.effects.proofs.Variables.{fired-sensors}

-- ---- every event keeps it
abbrev NotBelow : ℤ → Type 0
NotBelow z = le_z (pos 0) z ≡ true

-- a cell of device y at place j, where a sensors' cell is met
inside : (x y j : ℕ) → j < block_size → x * block_size + sensors_at ≡ y * block_size + j → j ≡ sensors_at
inside x y j h e = omega arith

met : (c y : ℕ) → base y ≤ sensors_of c → sensors_of c < base y + block_size → sensors_of c - base y ≡ sensors_at
met c y p q = inside (c - 1) (y - 1) (sensors_of c - base y) (omega arith) (omega arith)

effect-lit : (main : Expr) (n : List ℤ) (e : Event) → out_of_range e ≡ false → length n ≡ network_size → Lit n → Lit (write n (effect main n e).0)
effect-lit main n (fire a) o l h c =
    store-has NotBelow n (base a) (fired main (block n a)).0 (sensors_of c) (pos 0) (h c)
    (λ p q.
    let e : sensors_of c - base a ≡ sensors_at = met c a p (omega (arith, fired-length main (block n a), length-take block_size (drop (base a) n))) in
    let f : base a + sensors_at ≡ sensors_of c = omega arith in
    rw (e, fired-sensors main (block n a), get_or-take block_size (drop (base a) n) sensors_at (pos 0) (omega arith), get_or-drop (base a) n sensors_at (pos 0), f) (h c))
effect-lit main n (deliver a b) o l h c =
    let d = pair_of a b (not-false _ o) in
    let m : List ℤ = store n (heard_from b a + 1) (row n (pending_to a b + 1) 15) in
    store-has NotBelow (store m (age_of b a) (pos 0 ∷ [])) (pending_to a b) no_message (sensors_of c) (pos 0)
    (store-has NotBelow m (age_of b a) (pos 0 ∷ []) (sensors_of c) (pos 0)
    (store-has NotBelow n (heard_from b a + 1) (row n (pending_to a b + 1) 15) (sensors_of c) (pos 0) (h c)
    (λ p q.
    let k : length (row n (pending_to a b + 1) 15) ≤ 15 = omega (arith, length-take 15 (drop (pending_to a b + 1) n)) in
    absurd (omega (arith, met c b (omega arith) (omega arith)))))
    (λ p q. absurd (omega (arith, met c b (omega arith) (omega arith)))))
    (λ p q. absurd (omega (arith, met c a (omega arith) (omega arith))))
effect-lit main n (lose a b) o l h c =
    let d = pair_of a b (not-false _ o) in
    store-has NotBelow n (pending_to a b) no_message (sensors_of c) (pos 0) (h c) (λ p q. absurd (omega (arith, met c a (omega arith) (omega arith))))
effect-lit main n (link a b d) o l h c =
    let t = both (is_device a && is_device b) (is_distance d) (not-false _ o) in
    let k = pair_of a b t.0 in
    store-has NotBelow n (heard_from a b) (d ∷ []) (sensors_of c) (pos 0) (h c) (λ p q. absurd (omega (arith, met c a (omega arith) (omega arith))))
effect-lit main n (signal a s v) o l h c =
    let w : ℕ = digit_set s v (nat_abs (get_or n (sensors_of a) (pos 0))) in
    store-has NotBelow n (sensors_of a) (pos w ∷ []) (sensors_of c) (pos 0) (h c)
    (λ p q. let e : sensors_of c - sensors_of a ≡ 0 = omega arith in rw e (le-leb 0 w (omega arith)))

pub lit-kept : (main : Expr) (n : List ℤ) (e : Event) → length n ≡ network_size → Lit n → Lit (do_event main n e).0
unfolding plan
lit-kept main n e l h = go (eqb (refusal n e) 0) refl
  where
    go : (b : Bool) → eqb (refusal n e) 0 ≡ b → Lit (do_event main n e).0
    go true q = rw q (effect-lit main n e (in-range n e (eqb-true (refusal n e) 0 q)) l h)
    go false q = rw q h

-- ---- a sound network has it
both-none : (b : Bool) (x : Option ℕ) (k : ℕ) → cond b x (some k) ≡ none → (b ≡ true) × (x ≡ none)
both-none true x k q = (refl, q)
both-none false x k q = absurd (cc)

first-none : (ok : ℕ → ℤ → Bool) (j : ℕ) (l : List ℤ) (i : ℕ) (d : ℤ) → first_not ok j l ≡ none → i < length l → ok (j + i) (get_or l i d) ≡ true
unfolding first_not
first-none ok j [] i d q h = absurd (omega arith)
first-none ok j (z ∷ l) zero d q h = rw (add-zero j) (both-none (ok j z) (first_not ok (suc j) l) j q).0
first-none ok j (z ∷ l) (suc i) d q h =
    let e : suc j + i ≡ j + suc i = omega arith in
    rw e at (first-none ok (suc j) l i d (both-none (ok j z) (first_not ok (suc j) l) j q).1 (omega arith))

placed-none : (o : Option ℕ) (at : ℕ) (next : Option ℕ) → placed o at next ≡ none → (o ≡ none) × (next ≡ none)
placed-none none at next q = (refl, q)
placed-none (some j) at next q = absurd (cc)

block_none : (a k : ℕ) (n : List ℤ) (i : ℕ) → lowest_unsound a k n ≡ none → i < k
    → first_not (cell_sound (a + i) (row n (i * block_size) block_size)) 0 (row n (i * block_size) block_size) ≡ none
unfolding lowest_unsound
block_none a zero n i q h = absurd (omega arith)
block_none a (suc k) n zero q h = rw (add-zero a) (placed-none (first_not (cell_sound a (take block_size n)) 0 (take block_size n)) (base a) (lowest_unsound (suc a) k (drop block_size n)) q).0
block_none a (suc k) n (suc i) q h =
    let e : suc a + i ≡ a + suc i = omega arith in
    let f : block_size + i * block_size ≡ suc i * block_size = omega arith in
    let r = (placed-none (first_not (cell_sound a (take block_size n)) 0 (take block_size n)) (base a) (lowest_unsound (suc a) k (drop block_size n)) q).1 in
    rw (e, drop-drop (i * block_size) block_size n, f) at (block_none (suc a) k (drop block_size n) i r (omega arith))

sensors-sound : (a : ℕ) (b : List ℤ) (z : ℤ) → cell_sound a b sensors_at z ≡ true → le_z (pos 0) z ≡ true
unfolding cell_sound
sensors-sound a b z q = (both (le_z (pos 0) z) (le_z z (pos 65535)) q).0

none-unsound : (o : Option ℕ) → unsound_at o ≡ (0, 0) → o ≡ none
none-unsound none q = refl
none-unsound (some k) q = let z : ◌≡◌ {A = ℕ} 11 0 = ap (λ p. p.0) q in absurd (omega arith)

all_sound : (n : List ℤ) (b : Bool) → cond b (unsound_at (lowest_unsound 1 16 n)) (11, 0) ≡ (0, 0) → (b ≡ true) × (lowest_unsound 1 16 n ≡ none)
all_sound n true q = (refl, none-unsound (lowest_unsound 1 16 n) q)
all_sound n false q = let z : ◌≡◌ {A = ℕ} 11 0 = ap (λ p. p.0) q in absurd (omega arith)

-- what a sound network's cell at place j of device 1 + a keeps
pub cell-sound : (n : List ℤ) → soundness n ≡ (0, 0) → (a j : ℕ) → a < 16 → j < block_size → cell_sound (1 + a) (row n (a * block_size) block_size) j (get_or n (a * block_size + j) (pos 0)) ≡ true
unfolding soundness
cell-sound n q a j i h =
    let s = all_sound n (eqb (length n) network_size) q in
    let l : length n ≡ network_size = eqb-true (length n) network_size s.0 in
    let k : j < length (row n (a * block_size) block_size) = simp (length-take, length-drop) (omega arith) in
    rw (get_or-take block_size (drop (a * block_size) n) j (pos 0) h, get_or-drop (a * block_size) n j (pos 0), zero-add j)
    at (first-none (cell_sound (1 + a) (row n (a * block_size) block_size)) 0 (row n (a * block_size) block_size) j (pos 0) (block_none 1 16 n a s.1 i) k)

pub sound-length : (n : List ℤ) → soundness n ≡ (0, 0) → length n ≡ network_size
unfolding soundness
sound-length n q = eqb-true (length n) network_size (all_sound n (eqb (length n) network_size) q).0

pub lit-sound : (n : List ℤ) → soundness n ≡ (0, 0) → Lit n
lit-sound n q a = go (ltb (a - 1) 16) refl
  where
    go : (b : Bool) → ltb (a - 1) 16 ≡ b → le_z (pos 0) (get_or n (sensors_of a) (pos 0)) ≡ true
    go true e = sensors-sound (1 + (a - 1)) (row n (base a) block_size) _ (cell-sound n q (a - 1) sensors_at (ltb-true (a - 1) 16 e) (omega arith))
    go false e = let i : 16 ≤ a - 1 = ltb-false (a - 1) 16 e in rw (get_or-eq_default n (pos 0) {n = sensors_of a} (omega (arith, sound-length n q)))
