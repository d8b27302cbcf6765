-- The soundness test of a device's cells by row and slot, all counted from 0. Definitions only: nothing is assumed.
use Rattle.std.specs.Prelude.{Bool, not, cond, ◌&&◌, ◌||◌, List, ℕ, suc, get_or, eqb, ℤ, pos}
use Rattle.number.specs.Number.{mark, eq_z}
use Rattle.network.specs.Network.{is_age, cell_sound}

-- the rows of a block: heard, pending, and that of the ages
abbrev pub row_count : ℕ
row_count = 33

-- whether cell j of the device after a others is sound, where its cells are b
unfoldable pub sound_at : List ℤ → ℕ → ℕ → Bool
sound_at b a j = cell_sound (suc a) b j (get_or b j (pos 0))

-- the network's pending_sound, by the first cell of the row
unfoldable pub pending_from : ℕ → ℤ → ℕ → ℕ → ℤ → Bool
pending_from a first r i z =
    cond (eqb i 0)
    (eq_z z (pos 0) || not (eqb r a) && eq_z z (pos 1))
    (eq_z z mark || not (eqb r a || eq_z first (pos 0)))

-- the network's age_sound, by whether a slot 1 to 15 is heard
unfoldable pub age_from : ℕ → Bool → ℕ → ℤ → Bool
age_from a heard r z = (eq_z z mark || is_age z) && (not (eq_z z mark) || not heard) && (eq_z z mark || not (eqb r a))
