-- Which rule each cell of a device's block is held to, by computation. Assumes nothing.
use mathlib.Core.Path.{◌≡◌, refl}
use mathlib.Core.Bool.{Bool, true, false}
use mathlib.Core.List.{List, [], ◌∷◌, map}
use Prim.Native.Nat.{ℕ, ◌+◌}
use lib.ListN.{replicate, set}
use lib.IntN.{ℤ, pos, neg_ℤ}
use Rattle.number.specs.Number.{mark, floor, inf}
use Rattle.field.specs.Field.{from}
use Rattle.network.specs.Network.{sensors_at, heard_at, pending_at, copies, fresh_block, heard_sound, pending_sound, any_present, age_sound, cell_sound}

-- what the examples compute with
unfoldable opened : ℕ → ℕ
unfolding from copies heard_sound pending_sound any_present age_sound cell_sound
opened n = n

abbrev tried : List ℤ
tried = mark ∷ floor ∷ neg_ℤ (pos 1) ∷ pos 0 ∷ pos 1 ∷ pos 2 ∷ pos 65535 ∷ pos 65536 ∷ pos 1000000 ∷ pos 1000001 ∷ inf ∷ []

-- which of these are sound at place j of device a's block, where nothing is pending
abbrev at : ℕ → ℕ → List Bool
at a j = map (cell_sound a fresh_block j) tried

abbrev every : List Bool
every = true ∷ true ∷ true ∷ true ∷ true ∷ true ∷ true ∷ true ∷ true ∷ true ∷ true ∷ []

abbrev absent : List Bool
absent = true ∷ false ∷ false ∷ false ∷ false ∷ false ∷ false ∷ false ∷ false ∷ false ∷ false ∷ []

abbrev sensors : List Bool
sensors = false ∷ false ∷ false ∷ true ∷ true ∷ true ∷ true ∷ false ∷ false ∷ false ∷ false ∷ []

abbrev distance : List Bool
distance = true ∷ false ∷ false ∷ true ∷ true ∷ true ∷ true ∷ true ∷ true ∷ false ∷ false ∷ []

abbrev pending-mark : List Bool
pending-mark = false ∷ false ∷ false ∷ true ∷ true ∷ false ∷ false ∷ false ∷ false ∷ false ∷ false ∷ []

abbrev zero-only : List Bool
zero-only = false ∷ false ∷ false ∷ true ∷ false ∷ false ∷ false ∷ false ∷ false ∷ false ∷ false ∷ []

-- "0–15: its variables, each absent or a number.": the first and the last; "16: its lit sensors", "sensors 0 to 65,535"
variables-sensors : (at 1 0 ≡ every) × (at 1 15 ≡ every) × (at 16 15 ≡ every) × (at 1 sensors_at ≡ sensors) × (at 2 sensors_at ≡ sensors) × (at 16 sensors_at ≡ sensors)
unfolding opened
variables-sensors = (refl, refl, refl, refl, refl, refl)

-- the edges of the rows that device 2 heard: from 1, from itself, from 3, from 16
heard-edges : (at 2 (heard_at 1) ≡ distance) × (at 2 (heard_at 1 + 1) ≡ every) × (at 2 (heard_at 1 + 15) ≡ every) × (at 2 (heard_at 2) ≡ absent) × (at 2 (heard_at 2 + 15) ≡ absent)
    × (at 2 (heard_at 3) ≡ distance) × (at 2 (heard_at 16) ≡ distance) × (at 2 (heard_at 16 + 15) ≡ every)
unfolding opened
heard-edges = (refl, refl, refl, refl, refl, refl, refl, refl)

-- and of the rows that are pending from it
pending-edges : (at 2 (pending_at 1) ≡ pending-mark) × (at 2 (pending_at 1 + 1) ≡ absent) × (at 2 (pending_at 1 + 15) ≡ absent) × (at 2 (pending_at 2) ≡ zero-only)
    × (at 2 (pending_at 2 + 15) ≡ absent)
    × (at 2 (pending_at 3) ≡ pending-mark) × (at 2 (pending_at 16) ≡ pending-mark) × (at 2 (pending_at 16 + 15) ≡ absent)
unfolding opened
pending-edges = (refl, refl, refl, refl, refl, refl, refl, refl)

-- the first and the last device
own-edges : (at 1 (heard_at 1) ≡ absent) × (at 1 (heard_at 2) ≡ distance) × (at 1 (pending_at 1) ≡ zero-only) × (at 1 (pending_at 2) ≡ pending-mark)
    × (at 16 (heard_at 15 + 15) ≡ every) × (at 16 (heard_at 16) ≡ absent) × (at 16 (heard_at 16 + 15) ≡ absent) × (at 16 (pending_at 1) ≡ pending-mark) × (at 16 (pending_at 16) ≡ zero-only)
unfolding opened
own-edges = (refl, refl, refl, refl, refl, refl, refl, refl, refl)

-- "a's rows for itself": in each row heard and pending, for each device
own-rows : (from 1 16 (λ a. cell_sound a fresh_block (heard_at a) (pos 5)) ≡ replicate 16 false) × (from 1 16 (λ a. cell_sound a fresh_block (heard_at a + 15) (pos 5)) ≡ replicate 16 false)
    × (from 1 16 (λ a. cell_sound a fresh_block (pending_at a) (pos 1)) ≡ replicate 16 false)
unfolding opened
own-rows = (refl, refl, refl)

-- and no row of another, for device 5
others-rows : (from 1 16 (λ b. cell_sound 5 fresh_block (heard_at b) (pos 5)) ≡ set (replicate 16 true) 4 false)
    × (from 1 16 (λ b. cell_sound 5 fresh_block (heard_at b) (pos 1000001)) ≡ replicate 16 false)
    × (from 1 16 (λ b. cell_sound 5 fresh_block (heard_at b + 15) (pos 1000001)) ≡ set (replicate 16 true) 4 false)
    × (from 1 16 (λ b. cell_sound 5 fresh_block (pending_at b) (pos 1)) ≡ set (replicate 16 true) 4 false)
unfolding opened
others-rows = (refl, refl, refl, refl)

-- "slots absent where the mark is 0": a message pending to 7 frees its slots, first and last, and those of no other row
pending-to-7 : (from 1 16 (λ b. cell_sound 5 (set fresh_block (pending_at 7) (pos 1)) (pending_at b + 1) (pos 9)) ≡ set (replicate 16 false) 6 true)
    × (from 1 16 (λ b. cell_sound 5 (set fresh_block (pending_at 7) (pos 1)) (pending_at b + 15) (pos 9)) ≡ set (replicate 16 false) 6 true)
unfolding opened
pending-to-7 = (refl, refl)
