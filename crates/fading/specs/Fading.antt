-- What the functions over ages and heard rows promise. Definitions only: nothing is assumed.
use Rattle.std.specs.Prelude.{◌≡◌, false, cond, List, ◌∷◌, map, ℕ, ◌+◌, ◌<◌, get_or, replicate, ℤ, pos}
use Rattle.number.specs.Number.{mark}
use Rattle.field.specs.Field.{each}
use Rattle.network.specs.Cells.{row, store}
use Rattle.network.specs.Network.{heard_at, age_at, block_size}
use Rattle.round.specs.Round.{joined, fades, older, ages, faded}

-- the row at `at`, of the age z, after this round: the round's `faded`, by where the row stands
abbrev pub row_after : List ℤ → ℕ → ℤ → List ℤ
row_after n at z = get_or n at (pos 0) ∷ cond (fades z) (replicate 15 mark) (row n (at + 1) 15)

-- nothing fades that has one of the first k of these ages
pub record NoneFades (l : List ℤ) (k : ℕ) : Type 0 where
  pub each-stays : (b : ℕ) → b < k → fades (get_or l b (pos 0)) ≡ false

-- n' is n after a round of the device whose cells are from `at` on, as to what it heard
pub record Older (n : List ℤ) (at : ℕ) (n' : List ℤ) : Type 0 where
  pub network : n' ≡ store (store n (at + heard_at 1) (joined (each (faded (row n at block_size))))) (at + age_at 1) (map older (ages (row n at block_size)))
