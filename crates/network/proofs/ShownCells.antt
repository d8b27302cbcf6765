-- Rows of cells read and stored, at examples, by computation. Assumes nothing.
use mathlib.Core.Path.{◌≡◌, refl}
use mathlib.Core.List.{List, [], ◌∷◌}
use Prim.Native.Nat.{ℕ}
use Rattle.network.specs.Cells.{row, store, write}

abbrev cells : List ℕ
cells = 10 ∷ 11 ∷ 12 ∷ 13 ∷ []

-- the cells from one place on, as many as are asked for and as there are
rows : (row cells 0 2 ≡ 10 ∷ 11 ∷ []) × (row cells 1 2 ≡ 11 ∷ 12 ∷ []) × (row cells 2 2 ≡ 12 ∷ 13 ∷ []) × (row cells 3 2 ≡ 13 ∷ []) × (row cells 4 2 ≡ []) × (row cells 5 2 ≡ [])
    × (row cells 1 0 ≡ []) × (row cells 0 4 ≡ cells) × (row cells 0 5 ≡ cells)
rows = (refl, refl, refl, refl, refl, refl, refl, refl, refl)

-- a row takes the place of as many cells; those before and behind it stay
stored : (store cells 0 (7 ∷ 8 ∷ []) ≡ 7 ∷ 8 ∷ 12 ∷ 13 ∷ []) × (store cells 1 (7 ∷ 8 ∷ []) ≡ 10 ∷ 7 ∷ 8 ∷ 13 ∷ []) × (store cells 2 (7 ∷ 8 ∷ []) ≡ 10 ∷ 11 ∷ 7 ∷ 8 ∷ [])
    × (store cells 3 (7 ∷ []) ≡ 10 ∷ 11 ∷ 12 ∷ 7 ∷ []) × (store cells 0 [] ≡ cells) × (store cells 1 [] ≡ cells)
stored = (refl, refl, refl, refl, refl, refl)

-- what would stand past the end is dropped
past_end : (store cells 3 (7 ∷ 8 ∷ []) ≡ 10 ∷ 11 ∷ 12 ∷ 7 ∷ []) × (store cells 4 (7 ∷ []) ≡ cells) × (store cells 5 (7 ∷ []) ≡ cells) × (store {A = ℕ} [] 0 (7 ∷ []) ≡ [])
    × (store cells 0 (1 ∷ 2 ∷ 3 ∷ 4 ∷ 5 ∷ []) ≡ 1 ∷ 2 ∷ 3 ∷ 4 ∷ [])
past_end = (refl, refl, refl, refl, refl)

-- several rows, in the order of the list: the later one stands where two meet
written : (write cells [] ≡ cells) × (write cells ((0, 7 ∷ 8 ∷ []) ∷ []) ≡ 7 ∷ 8 ∷ 12 ∷ 13 ∷ []) × (write cells ((0, 7 ∷ []) ∷ (3, 8 ∷ []) ∷ []) ≡ 7 ∷ 11 ∷ 12 ∷ 8 ∷ [])
    × (write cells ((0, 7 ∷ 8 ∷ []) ∷ (1, 5 ∷ 6 ∷ []) ∷ []) ≡ 7 ∷ 5 ∷ 6 ∷ 13 ∷ []) × (write cells ((1, 5 ∷ 6 ∷ []) ∷ (0, 7 ∷ 8 ∷ []) ∷ []) ≡ 7 ∷ 8 ∷ 6 ∷ 13 ∷ [])
    × (write cells ((2, 1 ∷ []) ∷ (2, 2 ∷ []) ∷ (2, 3 ∷ []) ∷ []) ≡ 10 ∷ 11 ∷ 3 ∷ 13 ∷ [])
written = (refl, refl, refl, refl, refl, refl)
