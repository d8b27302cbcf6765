-- Rows stored in a list of cells: one behind another, cell by cell, and what a cell holds after it; a row of a row. Assumes nothing.
use mathlib.Core.Path.{◌≡◌, refl, ap, ◌∙◌}
use mathlib.Core.List.{List, [], ◌∷◌, ◌++◌}
use Prim.Native.Nat.{ℕ, zero, suc, ◌+◌, ◌-◌, ◌<◌, ◌≤◌}
use native.Mathlib.Omega.{arith}
use native.Mathlib.Numerals.{add-one, unary_clauses}
use lib.ListN.{length, get_or, set, take, drop}
use lib.Seq.{take-suc, length-take-le, take-nil, take-take, drop-drop}
use Rattle.network.specs.Cells.{row, store}

module _ {A : Type 0} where
  pub length-store : (l : List A) (lo : ℕ) (vs : List A) → length (store l lo vs) ≡ length l
  length-store [] lo vs = refl
  length-store (x ∷ l) zero [] = refl
  length-store (x ∷ l) zero (v ∷ vs) = ap suc (length-store l zero vs)
  length-store (x ∷ l) (suc lo) vs = ap suc (length-store l lo vs)

  pub nothing_yet : (l : List A) (at : ℕ) → l ≡ store l at []
  nothing_yet [] at = refl
  nothing_yet (x ∷ l) zero = refl
  nothing_yet (x ∷ l) (suc at) = ap (x ∷◌) (nothing_yet l at)

  -- all of l is replaced
  pub store-all : (l v : List A) → length l ≡ length v → store l zero v ≡ v
  store-all [] [] e = refl
  store-all [] (y ∷ v) e = absurd (omega arith)
  store-all (x ∷ l) [] e = absurd (omega arith)
  store-all (x ∷ l) (y ∷ v) e = ap (y ∷◌) (store-all l v (omega arith))

  pub store-one : (l : List A) (at : ℕ) (v : A) → set l at v ≡ store l at (v ∷ [])
  store-one [] at v = refl
  store-one (x ∷ l) zero v = ap (v ∷◌) (nothing_yet l zero)
  store-one (x ∷ l) (suc at) v = ap (x ∷◌) (store-one l at v)

  -- what is stored behind what was stored
  pub store-on : (l : List A) (at k : ℕ) (u v : List A) → k ≡ at + length u → store (store l at u) k v ≡ store l at (u ++ v)
  store-on [] at k u v e = refl
  store-on (x ∷ l) zero k [] v e = let q : k ≡ zero = omega arith in rw q
  store-on (x ∷ l) zero zero (y ∷ u) v e = absurd (omega arith)
  store-on (x ∷ l) zero (suc k) (y ∷ u) v e = ap (y ∷◌) (store-on l zero k u v (omega arith))
  store-on (x ∷ l) (suc at) zero u v e = absurd (omega arith)
  store-on (x ∷ l) (suc at) (suc k) u v e = ap (x ∷◌) (store-on l at k u v (omega arith))

  pub set_on : (l net : List A) (at k : ℕ) (u : List A) (v : A) → net ≡ store l at u → k ≡ at + length u → set net k v ≡ store l at (u ++ v ∷ [])
  set_on l net at k u v e q = rw e (store-one (store l at u) k v ∙ store-on l at k u (v ∷ []) q)

  pub store-cons : (l : List A) (at : ℕ) (v : A) (vs : List A) → store (set l at v) (at + 1) vs ≡ store l at (v ∷ vs)
  store-cons l at v vs = rw (store-one l at v) (store-on l at (at + 1) (v ∷ []) vs (omega arith))

  -- a turn of a loop that stores vs cell by cell
  pub store-more : (l net : List A) (at k : ℕ) (vs : List A) (d v : A) → k < length vs → v ≡ get_or vs k d → net ≡ store l at (take k vs)
      → set net (at + k) v ≡ store l at (take (k + 1) vs)
  store-more l net at k vs d v h e q =
      let n : length (take k vs) ≡ k = length-take-le k vs (omega arith) in
      set_on l net at (at + k) (take k vs) v q (omega arith) ∙ rw (add-one k, take-suc vs k d h, e)

  -- what holds of a cell, and of what is stored there, holds of it after the store
  pub store-has : (P : A → Type 0) (l : List A) (lo : ℕ) (vs : List A) (c : ℕ) (d : A) → P (get_or l c d)
      → (lo ≤ c → c < lo + length vs → P (get_or vs (c - lo) d)) → P (get_or (store l lo vs) c d)
  store-has P [] lo vs c d p h = p
  store-has P (x ∷ l) zero [] c d p h = p
  store-has P (x ∷ l) zero (v ∷ vs) zero d p h = h (omega arith) (omega arith)
  store-has P (x ∷ l) zero (v ∷ vs) (suc c) d p h = store-has P l zero vs c d p (λ a b. simp unary_clauses (simp unary_clauses at (h (omega arith) (omega arith))))
  store-has P (x ∷ l) (suc lo) vs zero d p h = p
  store-has P (x ∷ l) (suc lo) vs (suc c) d p h = store-has P l lo vs c d p (λ a b. simp unary_clauses at (h (omega arith) (omega arith)))

  pub store_out : (l : List A) (lo : ℕ) (vs : List A) (c : ℕ) (d : A) → (lo ≤ c → c < lo + length vs → ⊥) → get_or (store l lo vs) c d ≡ get_or l c d
  store_out l lo vs c d h = store-has (λ x. x ≡ get_or l c d) l lo vs c d refl (λ p q. absurd (h p q))

  -- a row of a row
  pub row-row : (l : List A) (lo m k len : ℕ) → k + len ≤ m → row (row l lo m) k len ≡ row l (lo + k) len
  row-row l lo m k len h = go (drop lo l) m k h ∙ ap (take len) (drop-drop k lo l)
    where
      go : (l : List A) (m k : ℕ) → k + len ≤ m → take len (drop k (take m l)) ≡ take len (drop k l)
      go l m zero h = take-take len m l (omega arith)
      go [] m (suc k) h = rw (take-nil {A = A} m)
      go (x ∷ l) zero (suc k) h = absurd (omega arith)
      go (x ∷ l) (suc m) (suc k) h = go l m k (omega arith)
