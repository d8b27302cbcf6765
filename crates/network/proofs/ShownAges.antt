-- L1: which ages are sound, and which cell is named where one is not, by computation. Assumes nothing.
use mathlib.Core.Path.{◌≡◌, refl}
use mathlib.Core.Bool.{Bool, true, false}
use mathlib.Core.List.{List, [], ◌∷◌, ◌++◌, map}
use mathlib.Core.Option.{none, some}
use Prim.Native.Nat.{ℕ, ◌+◌}
use lib.ListN.{replicate, set}
use lib.IntN.{ℤ, pos, neg_ℤ}
use Rattle.number.specs.Number.{mark, floor, inf}
use Rattle.field.specs.Field.{from}
use Rattle.network.specs.Cells.{write}
use Rattle.network.specs.Network.{heard_at, pending_at, age_at, base, copies, fresh_block, heard_sound, pending_sound, any_present, slots_from, age_sound, cell_sound}
use Rattle.network.specs.Network.{first_not, lowest_unsound}

-- what the examples compute with
unfoldable opened : ℕ → ℕ
unfolding from copies heard_sound pending_sound any_present age_sound cell_sound first_not lowest_unsound
opened n = n

abbrev ages : List ℤ
ages = mark ∷ pos 0 ∷ pos 1 ∷ pos 2 ∷ pos 3 ∷ neg_ℤ (pos 1) ∷ floor ∷ inf ∷ pos 4 ∷ []

-- a device's cells with a slot of what it heard from b
abbrev heard : ℕ → ℕ → List ℤ
heard b i = set fresh_block (heard_at b + i) (pos 0)

-- "A sound age is absent or 0 to 2": an age without a slot is sound, as an empty message leaves it
abbrev free : List Bool
free = true ∷ true ∷ true ∷ true ∷ false ∷ false ∷ false ∷ false ∷ false ∷ []

range : (map (age_sound 1 fresh_block 2) ages ≡ free) × (map (age_sound 2 fresh_block 1) ages ≡ free) × (map (age_sound 16 fresh_block 15) ages ≡ free)
unfolding opened
range = (refl, refl, refl)

-- "and is present where a slot 1–15 is": the first and the last slot, also one that holds 0; the distance is no slot
abbrev asked : List Bool
asked = false ∷ true ∷ true ∷ true ∷ false ∷ false ∷ false ∷ false ∷ false ∷ []

where-a-slot-is : (map (age_sound 1 (heard 2 1) 2) ages ≡ asked) × (map (age_sound 1 (heard 2 15) 2) ages ≡ asked) × (map (age_sound 1 (heard 2 8) 2) ages ≡ asked)
    × (map (age_sound 1 (heard 2 0) 2) ages ≡ free)
unfolding opened
where-a-slot-is = (refl, refl, refl, refl)

-- each of the fifteen slots asks for it, and the slots of no other sender do
each-slot : (from 1 15 (λ i. age_sound 1 (heard 2 i) 2 mark) ≡ replicate 15 false) × (from 1 16 (λ b. age_sound 1 (heard 7 3) b mark) ≡ set (replicate 16 true) 6 false)
    × (from 1 16 (λ b. age_sound 1 (heard b 15) b mark) ≡ replicate 16 false)
unfolding opened
each-slot = (refl, refl, refl)

-- the slots are those 1 to 15 of the sender's row
slots : (slots_from (write fresh_block ((heard_at 3, pos 7 ∷ pos 8 ∷ []) ∷ (heard_at 3 + 15, pos 9 ∷ []) ∷ (heard_at 4, pos 5 ∷ []) ∷ [])) 3 ≡ pos 8 ∷ replicate 13 mark ++ pos 9 ∷ [])
    × (any_present [] ≡ false) × (any_present (mark ∷ mark ∷ []) ≡ false) × (any_present (mark ∷ pos 0 ∷ []) ≡ true) × (any_present (floor ∷ mark ∷ []) ≡ true)
unfolding opened
slots = (refl, refl, refl, refl, refl)

-- "a device's age for itself is absent"
abbrev absent : List Bool
absent = true ∷ false ∷ false ∷ false ∷ false ∷ false ∷ false ∷ false ∷ false ∷ []

own : (map (age_sound 1 fresh_block 1) ages ≡ absent) × (map (age_sound 16 fresh_block 16) ages ≡ absent) × (from 1 16 (λ a. age_sound a fresh_block a (pos 0)) ≡ replicate 16 false)
    × (from 1 16 (λ b. age_sound 5 fresh_block b (pos 0)) ≡ set (replicate 16 true) 4 false)
unfolding opened
own = (refl, refl, refl, refl)

-- in a device's block the cells 529 to 544 are the ages, of the senders in their order
places : (from 1 16 (λ b. cell_sound 1 (heard 7 3) (age_at b) mark) ≡ set (replicate 16 true) 6 false) × (from 1 16 (λ b. cell_sound 3 fresh_block (age_at b) (pos 3)) ≡ replicate 16 false)
    × (from 1 16 (λ b. cell_sound 3 fresh_block (age_at b) (pos 2)) ≡ set (replicate 16 true) 2 false)
unfolding opened
places = (refl, refl, refl)

-- "else the age's cell offends": not the slot's
named : (lowest_unsound 1 1 (heard 2 1) ≡ some (age_at 2)) × (lowest_unsound 1 1 (heard 16 15) ≡ some (age_at 16)) × (lowest_unsound 1 1 (set (heard 2 1) (age_at 2) (pos 2)) ≡ none)
    × (lowest_unsound 1 1 (set (heard 2 1) (age_at 2) (pos 3)) ≡ some (age_at 2)) × (lowest_unsound 1 1 (set fresh_block (age_at 2) (pos 0)) ≡ none)
    × (lowest_unsound 1 1 (set fresh_block (age_at 2) (neg_ℤ (pos 1))) ≡ some (age_at 2)) × (lowest_unsound 1 1 (set fresh_block (age_at 1) (pos 0)) ≡ some (age_at 1))
unfolding opened
named = (refl, refl, refl, refl, refl, refl, refl)

-- in the order of the cells: a bad pending mark of the same device, behind the slot and before the age, is named first; so is its own row; of two ages the lower sender's;
-- the age of the first device before the sensors of the second
in_order : (lowest_unsound 1 1 (set (heard 2 1) (pending_at 16) (pos 2)) ≡ some (pending_at 16)) × (lowest_unsound 1 1 (set (heard 2 1) (heard_at 1 + 1) (pos 5)) ≡ some (heard_at 1 + 1))
    × (lowest_unsound 1 1 (set (heard 5 1) (heard_at 3 + 1) (pos 5)) ≡ some (age_at 3)) × (lowest_unsound 1 2 (heard 2 1 ++ set fresh_block 16 mark) ≡ some (age_at 2))
    × (lowest_unsound 1 2 (fresh_block ++ heard 1 1) ≡ some (base 2 + age_at 1))
unfolding opened
in_order = (refl, refl, refl, refl, refl)

-- a slot in the first device's block asks for no age in the second's
own_block : (lowest_unsound 1 2 (heard 3 1 ++ set fresh_block (age_at 3) (pos 0)) ≡ some (age_at 3)) × (lowest_unsound 1 2 (set (heard 3 1) (age_at 3) (pos 0) ++ fresh_block) ≡ none)
unfolding opened
own_block = (refl, refl)
