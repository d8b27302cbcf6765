-- A list of cells: rows read, and rows stored. Definitions only: nothing is assumed.
use Rattle.std.specs.Prelude.{List, [], ◌∷◌, ℕ, zero, suc, take, drop}

module _ {A : Type 0} where
  -- the len cells from lo on
  abbrev pub row : List A → ℕ → ℕ → List A
  row l lo len = take len (drop lo l)

  -- l with vs in place of what stood from lo on. What would stand past l's end is dropped, so the length stays
  abbrev pub store : List A → ℕ → List A → List A
  store [] lo vs = []
  store (x ∷ l) zero [] = x ∷ l
  store (x ∷ l) zero (v ∷ vs) = v ∷ store l zero vs
  store (x ∷ l) (suc lo) vs = x ∷ store l lo vs

  -- several rows stored, each from its cell on
  abbrev pub write : List A → List (ℕ × List A) → List A
  write l [] = l
  write l (w ∷ ws) = write (store l w.0 w.1) ws
