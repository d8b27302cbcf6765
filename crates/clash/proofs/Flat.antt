-- Rows read and stored: a cell outside of what is stored stays, and two lists that agree at a cell agree there after the same is stored.
use mathlib.Core.Path.{◌≡◌, refl, ◌∙◌}
use mathlib.Core.List.{List, [], ◌∷◌}
use Prim.Native.Nat.{ℕ, zero, suc, ◌+◌, ◌≤◌, ◌<◌}
use native.Mathlib.Omega.{arith}
use lib.ListN.{length, get_or, length-take, length-drop}
use lib.Seq.{ext_get_or, get_or-take, get_or-drop}
use Rattle.network.specs.Cells.{row, store, write}
use Rattle.network.proofs.Stores.{length-store, store_out}

-- c is one of the len cells from lo on
abbrev pub Within : ℕ → ℕ → ℕ → Type 0
Within lo len c = (lo ≤ c) × (c < lo + len)

module _ {A : Type 0} where
  store-agree : (l m : List A) (lo : ℕ) (vs : List A) (c : ℕ) (d : A) → length l ≡ length m → get_or l c d ≡ get_or m c d
      → get_or (store l lo vs) c d ≡ get_or (store m lo vs) c d
  store-agree [] [] lo vs c d e h = h
  store-agree [] (y ∷ m) lo vs c d e h = absurd (omega arith)
  store-agree (x ∷ l) [] lo vs c d e h = absurd (omega arith)
  store-agree (x ∷ l) (y ∷ m) zero [] c d e h = h
  store-agree (x ∷ l) (y ∷ m) zero (v ∷ vs) zero d e h = refl
  store-agree (x ∷ l) (y ∷ m) zero (v ∷ vs) (suc c) d e h = store-agree l m zero vs c d (omega arith) h
  store-agree (x ∷ l) (y ∷ m) (suc lo) vs zero d e h = h
  store-agree (x ∷ l) (y ∷ m) (suc lo) vs (suc c) d e h = store-agree l m lo vs c d (omega arith) h

  -- the same of several rows
  pub length-write : (ws : List (ℕ × List A)) (l : List A) → length (write l ws) ≡ length l
  length-write [] l = refl
  length-write (w ∷ ws) l = length-write ws (store l w.0 w.1) ∙ length-store l w.0 w.1

  abbrev pub Outside : ℕ → List (ℕ × List A) → Type 0
  Outside c [] = Unit {0}
  Outside c (w ∷ ws) = (¬ Within w.0 (length w.1) c) × Outside c ws

  pub write-out : (ws : List (ℕ × List A)) (l : List A) (c : ℕ) (d : A) → Outside c ws → get_or (write l ws) c d ≡ get_or l c d
  write-out [] l c d h = refl
  write-out (w ∷ ws) l c d h = write-out ws (store l w.0 w.1) c d h.1 ∙ store_out l w.0 w.1 c d (λ p q. h.0 (p, q))

  pub write-agree : (ws : List (ℕ × List A)) (l m : List A) (c : ℕ) (d : A) → length l ≡ length m → get_or l c d ≡ get_or m c d
      → get_or (write l ws) c d ≡ get_or (write m ws) c d
  write-agree [] l m c d e h = h
  write-agree (w ∷ ws) l m c d e h =
      write-agree ws (store l w.0 w.1) (store m w.0 w.1) c d (simp length-store e) (store-agree l m w.0 w.1 c d e h)

  -- two lists that agree on a row have the same row
  pub row-agree : (l m : List A) (lo len : ℕ) (d : A) → length l ≡ length m → ((c : ℕ) → Within lo len c → get_or l c d ≡ get_or m c d)
      → row l lo len ≡ row m lo len
  row-agree l m lo len d e h =
      ext_get_or d (row l lo len) (row m lo len) (simp (length-take, length-drop) (rw e))
      (λ i k. let b : i < len = omega (arith, simp (length-take, length-drop) at k) in
      simp (get_or-take, get_or-drop) (h (lo + i) (omega arith)))

  pub length-row : (l : List A) (lo len : ℕ) → length (row l lo len) ≤ len
  length-row l lo len = simp length-take (omega arith)
