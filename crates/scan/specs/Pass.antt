-- What a pass over a device's cells finds. Definitions only: nothing is assumed.
use Rattle.std.specs.Prelude.{◌≡◌, ◌⊎◌, true, false, cond, List, ℕ, ◌+◌, ◌*◌, ◌%◌, ◌<◌, get_or, eqb, ℤ, pos, Option, Some, None}
use Rattle.std.proofs.Math.Option.{Option as Found, none, some}
use Rattle.number.specs.Number.{mark}
use Rattle.network.specs.Cells.{row}
use Rattle.network.specs.Network.{heard_at, no_message, any_present, is_distance, is_age}
use Rattle.cell_rules.specs.Sound.{sound_at}

-- the cells below place m are sound, of the device after a others whose cells are b
pub record SoundBelow (b : List ℤ) (a m : ℕ) : Type 0 where
  pub cell : (j : ℕ) → j < m → sound_at b a j ≡ true

-- row r of a device's cells
abbrev pub row_at : List ℤ → ℕ → List ℤ
row_at b r = row b (heard_at 1 + r * 16) 16

-- cell i of a row whose first cell is `first` and whose slots are absent
abbrev pub row_cell : ℤ → ℕ → ℤ
row_cell first i = cond (eqb i 0) first mark

-- the first k cells are those of such rows, one behind the other
pub record RowsAre (cells : List ℤ) (first : ℤ) (k : ℕ) : Type 0 where
  pub cell : (i : ℕ) → i < k → get_or cells i (pos 0) ≡ row_cell first (i % 16)

-- a row with nothing pending and no slot, or with one message
pub data Pending (cells : List ℤ) : Type 0 where
  nothing : cells ≡ no_message → Pending cells
  message : get_or cells 0 (pos 0) ≡ pos 1 → Pending cells

-- those to the first k devices
pub record PendingRows (b : List ℤ) (k : ℕ) : Type 0 where
  pub row : (r : ℕ) → r < k → Pending (row_at b (16 + r))

-- a row that was heard with the age z has a distance in range or none; an age in range, or none and no slot
pub record Heard (cells : List ℤ) (z : ℤ) : Type 0 where
  pub distance : is_distance (get_or cells 0 (pos 0)) ≡ true
  pub age : ((z ≡ mark) × (any_present (row cells 1 15) ≡ false)) ⊎ (is_age z ≡ true)

-- those from the first k devices, with their ages
pub record HeardRows (b : List ℤ) (k : ℕ) : Type 0 where
  pub row : (r : ℕ) → r < k → Heard (row_at b r) (get_or (row_at b 32) r (pos 0))

-- device a's rows for itself, and its age: no link, no message, no age
pub record OwnRows (b : List ℤ) (a : ℕ) : Type 0 where
  pub link : get_or (row_at b a) 0 (pos 0) ≡ mark
  pub message : get_or (row_at b (16 + a)) 0 (pos 0) ≡ pos 0
  pub age : get_or (row_at b 32) a (pos 0) ≡ mark

-- the lowest unsound cell, if one is
abbrev pub place_of : Option ℕ → Found ℕ
place_of None = none
place_of (Some k) = some k
