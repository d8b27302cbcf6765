-- The lowest unsound cell: all below it are sound, and it is not. Assumes nothing.
use Rattle.std.proofs.Common.{◌≡◌, refl, sym, ap, ◌∙◌, ℕ, zero, suc, ◌+◌, ◌-◌, ◌*◌, ◌/◌, ◌≤◌, ◌<◌, List, [], ◌∷◌, length, get_or, drop, Bool, true, false, ltb, ℤ, pos, Option, Some, length-drop, arith}
use mathlib.Core.Option.{none, some}
use lib.ListN.{length-take}
use lib.Seq.{drop-drop}
use borrow.Author.Tests.{ltb-true, ltb-false, eq-eqb, ne_eqb}
use Rattle.decide.proofs.Picks.{on_true, on_false}
use Rattle.std.specs.Simd.{first_chunks}
use Rattle.cells.proofs.Chunks.{chunk_at}
use Rattle.network.specs.Cells.{row}
use Rattle.network.specs.Network.{sensors_at, block_size, network_size, cell_sound, first_not, lowest_unsound, unsound_at, soundness}
use Rattle.cell_rules.specs.Sound.{sound_at}
use Rattle.cell_rules.proofs.Cell.{variable}
use Rattle.scan.specs.Pass.{SoundBelow, place_of}

-- ---- in a list
module _ (ok : ℕ → ℤ → Bool) where
  first-none : (l : List ℤ) (j : ℕ) → ((i k : ℕ) → k ≡ j + i → i < length l → ok k (get_or l i (pos 0)) ≡ true) → first_not ok j l ≡ none
  unfolding first_not
  first-none [] j h = refl
  first-none (z ∷ l) j h = rw (h 0 j (omega arith) (omega arith)) (first-none l (suc j) (λ i k e g. h (suc i) k (omega arith) (omega arith)))

  first_some : (l : List ℤ) (j r p : ℕ) → p ≡ j + r → r < length l → ((i k : ℕ) → k ≡ j + i → i < r → ok k (get_or l i (pos 0)) ≡ true)
      → ok p (get_or l r (pos 0)) ≡ false → first_not ok j l ≡ some p
  unfolding first_not
  first_some [] j r p e g h f = absurd (omega arith)
  first_some (z ∷ l) j zero p e g h f =
      let q : p ≡ j = omega arith in
      let t : ok j z ≡ false = rw q at f in
      rw t (ap some (sym q))
  first_some (z ∷ l) j (suc r) p e g h f =
      rw (h 0 j (omega arith) (omega arith)) (first_some l (suc j) r p (omega arith) (omega arith) (λ i k d b. h (suc i) k (omega arith) (omega arith)) f)

-- ---- in the devices
-- the cells of the device after a others
abbrev pub block_at : List ℤ → ℕ → List ℤ
block_at n a = row n (a * block_size) block_size

pub block_in_chunks : (n : List ℤ) (blocks : List (List ℤ)) (a : ℕ) → length n ≡ network_size → blocks ≡ first_chunks block_size (length n / block_size) n → a < length blocks → length blocks ≡ length n / block_size
    → get_or blocks a [] ≡ block_at n a
block_in_chunks n blocks a l e h k = rw e (chunk_at block_size (length n / block_size) a n [] (omega arith))

-- all cells of the first a devices are sound, and m of the next
pub record Upto (n : List ℤ) (a m : ℕ) : Type 0 where
  pub before : (e : ℕ) → e < a → SoundBelow (block_at n e) e block_size
  pub here : SoundBelow (block_at n a) a m

module _ (n : List ℤ) where
  cell_at : (a i j : ℕ) (t : Bool) → j ≡ 0 + i → sound_at (block_at n a) a i ≡ t → cell_sound (suc a) (block_at n a) j (get_or (block_at n a) i (pos 0)) ≡ t
  unfolding sound_at
  cell_at a i j t e s = let q : j ≡ i = omega arith in rw q s

  past : (a k : ℕ) → SoundBelow (block_at n a) a block_size → lowest_unsound (suc a) (suc k) (drop (a * block_size) n) ≡ lowest_unsound (suc (suc a)) k (drop (suc a * block_size) n)
  unfolding lowest_unsound
  past a k p =
      let q : a * block_size + block_size ≡ suc a * block_size = omega arith in
      rw (first-none (cell_sound (suc a) (block_at n a)) (block_at n a) 0
      (λ i j e g. cell_at a i j true e (p.cell i (omega (arith, length-take block_size (drop (a * block_size) n))))))
      (rw (drop-drop block_size (a * block_size) n, q))

  found : (a k r : ℕ) → a * block_size + block_size ≤ length n → r < block_size → SoundBelow (block_at n a) a r → sound_at (block_at n a) a r ≡ false
      → lowest_unsound (suc a) (suc k) (drop (a * block_size) n) ≡ some (a * block_size + r)
  unfolding lowest_unsound
  found a k r h g p f =
      rw (first_some (cell_sound (suc a) (block_at n a)) (block_at n a) 0 r r (omega arith)
      (omega (arith, length-take block_size (drop (a * block_size) n), length-drop (a * block_size) n))
      (λ i j e b. cell_at a i j true e (p.cell i b)) (cell_at a r r false (omega arith) f))
      (ap some (omega arith))

  -- past t sound devices
  walk : (t a k m b : ℕ) → m ≡ t + k → b ≡ a + t → ((e : ℕ) → e < b → SoundBelow (block_at n e) e block_size)
      → lowest_unsound (suc a) m (drop (a * block_size) n) ≡ lowest_unsound (suc b) k (drop (b * block_size) n)
  walk zero a k m b e q p =
      let x : m ≡ k = omega arith in
      let y : b ≡ a = omega arith in
      rw (x, y)
  walk (suc t) a k zero b e q p = absurd (omega arith)
  walk (suc t) a k (suc m) b e q p = past a m (p a (omega arith)) ∙ walk t (suc a) k m b (omega arith) (omega arith) p

  pub lowest : (a r k : ℕ) → length n ≡ network_size → a < 16 → r < block_size → k ≡ a * block_size + r → Upto n a r → sound_at (block_at n a) a r ≡ false → lowest_unsound 1 16 n ≡ place_of (Some k)
  lowest a r k l h g e u f =
      walk a 0 (suc (15 - a)) 16 a (omega arith) (omega arith) u.before ∙ found a (15 - a) r (omega arith) g u.here f ∙ ap some (sym e)

  pub all_sound : (a m : ℕ) → 16 ≤ a → Upto n a m → lowest_unsound 1 16 n ≡ none
  unfolding lowest_unsound
  all_sound a m h u = walk 16 0 0 16 16 (omega arith) (omega arith) (λ d l. u.before d (omega arith))

-- ---- further on
pub start : (n : List ℤ) → Upto n 0 0
start n = record { before = λ d l. absurd (omega arith); here = record { cell = λ j l. absurd (omega arith) } }

pub next_device : (n : List ℤ) (a m : ℕ) → Upto n a m → SoundBelow (block_at n a) a block_size → Upto n (a + 1) 0
next_device n a m u p = record { before = λ e l. by e (ltb e a) refl l; here = record { cell = λ j l. absurd (omega arith) } }
  where
    by : (e : ℕ) (t : Bool) → ltb e a ≡ t → e < a + 1 → SoundBelow (block_at n e) e block_size
    by e true s l = u.before e (ltb-true e a s)
    by e false s l =
        let g = ltb-false e a s in
        let z : e ≡ a = omega arith in
        rw z p

-- cells from m up to k are sound too
further : (n : List ℤ) (a m k : ℕ) → Upto n a m → ((j : ℕ) → m ≤ j → j < k → sound_at (block_at n a) a j ≡ true) → Upto n a k
further n a m k u f = record { before = u.before; here = record { cell = λ j l. by j (ltb j m) refl l } }
  where
    by : (j : ℕ) (t : Bool) → ltb j m ≡ t → j < k → sound_at (block_at n a) a j ≡ true
    by j true e l = u.here.cell j (ltb-true j m e)
    by j false e l = f j (ltb-false j m e) l

-- no variable is unsound
pub past_variables : (n : List ℤ) (a : ℕ) → Upto n a 0 → Upto n a sensors_at
past_variables n a u = further n a 0 sensors_at u (λ j g l. variable (block_at n a) a j l)

pub more : (n : List ℤ) (a m k : ℕ) → k ≡ m + 1 → Upto n a m → sound_at (block_at n a) a m ≡ true → Upto n a k
more n a m k e u s = further n a m k u (λ j g l. let q : j ≡ m = omega arith in rw q s)

pub same : (n : List ℤ) (a m k : ℕ) → k ≡ m → Upto n a m → Upto n a k
same n a m k e u = rw e u

-- ---- what the test answers
pub wrong_length : (n : List ℤ) (r : ℕ × ℕ) → (length n ≡ network_size → ⊥) → r ≡ (11, 0) → r ≡ soundness n
unfolding soundness
wrong_length n r h e = on_false _ (ne_eqb (length n) network_size h) e

pub judged : (n m : List ℤ) (p : Option ℕ) (r : ℕ × ℕ) → length n ≡ network_size → m ≡ n → lowest_unsound 1 16 m ≡ place_of p → r ≡ unsound_at (place_of p) → r ≡ soundness n
unfolding soundness
judged n m p r l e f g = on_true _ (eq-eqb (length n) network_size l) (g ∙ sym (ap unsound_at (rw e at f)))
