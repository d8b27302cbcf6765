-- Heard rows and ages stored. Assumes nothing.
use mathlib.Core.Path.{◌≡◌, refl, sym, ap, ◌∙◌}
use mathlib.Core.Bool.{Bool, true, false, cond}
use mathlib.Core.List.{List, [], ◌∷◌, ◌++◌, map}
use Prim.Native.Nat.{ℕ, zero, suc, ◌+◌, ◌-◌, ◌*◌, ◌<◌, ◌≤◌}
use native.Mathlib.Nat.{suc-add}
use native.Mathlib.Omega.{arith}
use native.Mathlib.Numerals.{add-one}
use lib.ListN.{length, get_or, take, drop, set, replicate, length-map}
use lib.Seq.{get_or-take, get_or-drop, drop-cons}
use lib.IntN.{ℤ, pos}
use Rattle.number.specs.Number.{mark}
use Rattle.field.specs.Field.{devices, each}
use Rattle.network.specs.Cells.{row, store}
use Rattle.network.specs.Network.{heard_at, age_at, block_size}
use Rattle.network.proofs.Stores.{store_out, row-row}
use borrow.Rule.Slice.PartMut.{put_mid}
use Rattle.cells.proofs.Stores.{overwritten}
use Rattle.cells.proofs.Rows.{row-length, store-row, row_out, joined_length, joined-rows}
use Rattle.field.proofs.Each.{from-same}
use Rattle.round.specs.Round.{joined, fades, older, ages, faded}
use Rattle.fading.specs.Fading.{row_after, NoneFades, Older}

-- a row by its first cell and the others
row_cons : (n : List ℤ) (at : ℕ) → at + 16 ≤ length n → row n at 16 ≡ get_or n at (pos 0) ∷ row n (at + 1) 15
row_cons n at h = ap (take 16) (drop-cons n at (pos 0) (omega arith)) ∙ ap (λ (k : ℕ). get_or n at (pos 0) ∷ take 15 (drop k n)) (sym (add-one at))

-- a row that does not fade stays, and one that fades has its slots cleared
pub stays : (n : List ℤ) (at : ℕ) (z : ℤ) → at + 16 ≤ length n → fades z ≡ false → n ≡ store n at (row_after n at z)
stays n at z h e = rw (e, ← (row_cons n at h)) (sym (store-row n at 16))

pub cleared : (n : List ℤ) (at : ℕ) (z : ℤ) → at + 16 ≤ length n → fades z ≡ true → store n (at + 1) (replicate 15 mark) ≡ store n at (row_after n at z)
cleared n at z h e = rw e (go n at (omega arith))
  where
    go : (l : List ℤ) (at : ℕ) → at < length l → store l (at + 1) (replicate 15 mark) ≡ store l at (get_or l at (pos 0) ∷ replicate 15 mark)
    go [] at h = absurd (omega arith)
    go (x ∷ l) zero h = refl
    go (x ∷ l) (suc at) h = rw (suc-add at 1) (ap (x ∷◌) (go l at (omega arith)))

-- ---- all rows
module _ (n : List ℤ) (at : ℕ) (z : List ℤ) where
  -- the row heard from b, after the round, by what stood there
  abbrev pub row_of : ℕ → List ℤ
  row_of b = row_after n (at + 16 * (b - 1)) (get_or z (b - 1) (pos 0))

  pub row-length-of : (b : ℕ) → at + 16 * devices ≤ length n → 1 ≤ b → b ≤ devices → length (row_of b) ≡ 16
  row-length-of b h i j = go (fades (get_or z (b - 1) (pos 0)))
    where
      go : (t : Bool) → length (get_or n (at + 16 * (b - 1)) (pos 0) ∷ cond t (replicate 15 mark) (row n (at + 16 * (b - 1) + 1) 15)) ≡ 16
      go true = refl
      go false = ap suc (row-length n (at + 16 * (b - 1) + 1) 15 (omega arith))

  -- a row behind what was stored
  pub row-behind : (vs : List ℤ) (k : ℕ) (y : ℤ) → length vs ≡ k → row_after (store n at vs) (at + k) y ≡ row_after n (at + k) y
  row-behind vs k y e = rw (store_out n at vs (at + k) (pos 0) (λ p q. omega arith), row_out n at vs (at + k + 1) 15 (pos 0) (λ c p q r s. omega arith))

-- ---- all ages
-- one age more of a loop that goes over them
pub age_more : (l m : List ℤ) (i : ℕ) (v : ℤ) → i < length l → m ≡ map older (take i l) ++ drop i l → v ≡ older (get_or m i (pos 0)) → set m i v ≡ map older (take (i + 1) l) ++ drop (i + 1) l
age_more l m i v h e q = rw (q, e, add-one i) (go l i h)
  where
    go : (l : List ℤ) (i : ℕ) → i < length l → set (map older (take i l) ++ drop i l) i (older (get_or (map older (take i l) ++ drop i l) i (pos 0))) ≡ map older (take (suc i) l) ++ drop (suc i) l
    go [] i h = absurd (omega arith)
    go (x ∷ l) zero h = refl
    go (x ∷ l) (suc i) h = ap (older x ∷◌) (go l i (omega arith))

-- the ages from p on, all written
pub renewed : (m ys : List ℤ) (p k : ℕ) → k ≡ devices → p + devices ≤ length m → ys ≡ map older (take k (drop p m)) → put_mid p k m ys ≡ store m p (map older (row m p devices))
renewed m ys p k e h q = rw (q, e) (overwritten p devices m (map older (row m p devices)) (length-map (row m p devices) older ∙ row-length m p devices h) h)

-- ---- the device's heard rows and ages, from its first cell on
module _ (n : List ℤ) (at : ℕ) (h : at + block_size ≤ length n) where
  cell : (j k : ℕ) → j < block_size → k ≡ at + j → get_or (row n at block_size) j (pos 0) ≡ get_or n k (pos 0)
  cell j k l e = get_or-take block_size (drop at n) j (pos 0) l ∙ get_or-drop at n j (pos 0) ∙ ap (λ (c : ℕ). get_or n c (pos 0)) (sym e)

  age-at : (j : ℕ) → j < devices → get_or (row n (at + age_at 1) devices) j (pos 0) ≡ get_or n (at + age_at 1 + j) (pos 0)
  age-at j l = get_or-take devices (drop (at + age_at 1) n) j (pos 0) l ∙ get_or-drop (at + age_at 1) n j (pos 0)

  faded-is : (j : ℕ) → j < devices → faded (row n at block_size) (1 + j) ≡ row_of n (at + heard_at 1) (row n (at + age_at 1) devices) (1 + j)
  unfolding faded
  faded-is j l =
      let i : 1 + j - 1 ≡ j = omega arith in
      let e : at + (heard_at (1 + j) + 1) ≡ at + heard_at 1 + 16 * j + 1 = omega arith in
      rw (
        cell (heard_at (1 + j) + 0) (at + heard_at 1 + 16 * j) (omega arith) (omega arith),
        cell (age_at (1 + j)) (at + age_at 1 + j) (omega arith) (omega arith),
        row-row n at block_size (heard_at (1 + j) + 1) 15 (omega arith),
        e,
        i,
        age-at j l,
      )

  -- where none fades the rows stay
  pub none-faded : (l : List ℤ) → l ≡ row n (at + age_at 1) devices → NoneFades l (length l) → n ≡ store n (at + heard_at 1) (joined (each (faded (row n at block_size))))
  none-faded l e f =
      sym (ap (store n (at + heard_at 1)) (joined-rows n (faded (row n at block_size)) 16 1 16 (at + heard_at 1) (λ j l. faded-is j l ∙ same j l)) ∙ store-row n (at + heard_at 1) (16 * 16))
    where
      long : length l ≡ devices
      long = ap length e ∙ row-length n (at + age_at 1) devices (omega arith)

      same : (j : ℕ) → j < devices → row_of n (at + heard_at 1) (row n (at + age_at 1) devices) (1 + j) ≡ row n (at + heard_at 1 + 16 * j) 16
      same j g =
          let i : 1 + j - 1 ≡ j = omega arith in
          let z : fades (get_or (row n (at + age_at 1) devices) j (pos 0)) ≡ false = rw (← e) (f.each-stays j (omega (arith, long))) in
          rw (i, z) (sym (row_cons n (at + heard_at 1 + 16 * j) (omega arith)))

  -- else each is as its age says
  pub some-faded : (z m : List ℤ) → z ≡ row n (at + age_at 1) devices → m ≡ store n (at + heard_at 1) (joined (each (row_of n (at + heard_at 1) z)))
      → m ≡ store n (at + heard_at 1) (joined (each (faded (row n at block_size))))
  some-faded z m e q =
      let f = from-same (faded (row n at block_size)) (row_of n (at + heard_at 1) (row n (at + age_at 1) devices)) 16 1 faded-is in
      q ∙ rw (e, f)

  pub faded-length : length (joined (each (faded (row n at block_size)))) ≡ 16 * 16
  faded-length =
      joined_length (faded (row n at block_size)) 16 1 16
      (λ j l. ap length (faded-is j l) ∙ row-length-of n (at + heard_at 1) (row n (at + age_at 1) devices) (1 + j) (omega arith) (omega arith) (omega arith))

  pub ages-length : length (map older (ages (row n at block_size))) ≡ devices
  ages-length = length-map (ages (row n at block_size)) older ∙ row-length (row n at block_size) (age_at 1) devices (rw (row-length n at block_size h) (omega arith))

  -- the ages behind them
  pub aged : (m m' : List ℤ) → m ≡ store n (at + heard_at 1) (joined (each (faded (row n at block_size)))) → m' ≡ store m (at + age_at 1) (map older (row m (at + age_at 1) devices)) → Older n at m'
  aged m m' e q =
      let k = faded-length in
      record {
        network =
            q
            ∙ rw (
              e,
              row_out n (at + heard_at 1) (joined (each (faded (row n at block_size)))) (at + age_at 1) devices (pos 0) (λ c x y u v. omega arith),
              row-row n at block_size (age_at 1) devices (omega arith),
            );
      }
