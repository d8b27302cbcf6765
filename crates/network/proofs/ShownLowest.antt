-- The lowest cell that breaks a rule, at examples, by computation. Assumes nothing.
use mathlib.Core.Path.{◌≡◌, refl}
use mathlib.Core.Bool.{Bool}
use mathlib.Core.List.{List, [], ◌∷◌, ◌++◌}
use mathlib.Core.Option.{none, some}
use Prim.Native.Nat.{ℕ, ◌+◌, ◌-◌}
use lib.ListN.{take, set}
use lib.IntN.{ℤ, pos, neg_ℤ}
use Rattle.number.specs.Number.{mark, eq_z}
use Rattle.network.specs.Network.{sensors_at, heard_at, pending_at, block_size, network_size, base, copies, fresh_block, heard_sound, pending_sound, any_present, age_sound, cell_sound}
use Rattle.network.specs.Network.{first_not, placed, lowest_unsound}

-- what the examples compute with
unfoldable opened : ℕ → ℕ
unfolding copies heard_sound pending_sound any_present age_sound cell_sound first_not lowest_unsound
opened n = n

abbrev is-0 : ℕ → ℤ → Bool
is-0 j z = eq_z z (pos 0)

abbrev is-own-place : ℕ → ℤ → Bool
is-own-place j z = eq_z z (pos j)

-- the first place whose cell is not so, counted from the place given; the test is told the place
first-not : (first_not is-0 0 (pos 0 ∷ pos 1 ∷ pos 2 ∷ []) ≡ some 1) × (first_not is-0 0 (pos 1 ∷ pos 0 ∷ pos 2 ∷ []) ≡ some 0) × (first_not is-0 0 (pos 0 ∷ pos 0 ∷ pos 2 ∷ []) ≡ some 2)
    × (first_not is-0 5 (pos 0 ∷ pos 1 ∷ []) ≡ some 6) × (first_not is-0 0 (pos 0 ∷ pos 0 ∷ []) ≡ none) × (first_not is-0 0 [] ≡ none)
    × (first_not is-own-place 0 (pos 0 ∷ pos 1 ∷ pos 2 ∷ pos 2 ∷ []) ≡ some 3) × (first_not is-own-place 4 (pos 4 ∷ pos 5 ∷ []) ≡ none)
unfolding opened
first-not = (refl, refl, refl, refl, refl, refl, refl, refl)

-- a device's own comes before what follows it, counted from its first cell
own-before-next : (placed (some 3) 10 (some 20) ≡ some 13) × (placed (some 0) 10 none ≡ some 10) × (placed none 10 (some 20) ≡ some 20) × (placed none 10 none ≡ none)
own-before-next = (refl, refl, refl, refl)

-- a fresh block with one cell changed
abbrev changed : ℕ → ℤ → List ℤ
changed j z = set fresh_block j z

-- "names the lowest cell that breaks it": the cell itself, at the edges of the rules in the first device
itself : (lowest_unsound 1 1 fresh_block ≡ none) × (lowest_unsound 1 1 (changed sensors_at (pos 65536)) ≡ some sensors_at) × (lowest_unsound 1 1 (changed (heard_at 1) (pos 0)) ≡ some (heard_at 1))
    × (lowest_unsound 1 1 (changed (heard_at 2) (pos 1000001)) ≡ some (heard_at 2)) × (lowest_unsound 1 1 (changed (pending_at 1) (pos 1)) ≡ some (pending_at 1))
    × (lowest_unsound 1 1 (changed (pending_at 2 + 15) (pos 0)) ≡ some (pending_at 2 + 15))
    × (lowest_unsound 1 1 (changed (pending_at 16 + 15) (pos 0)) ≡ some (pending_at 16 + 15))
unfolding opened
itself = (refl, refl, refl, refl, refl, refl, refl)

-- "the lowest": of several in one block, and in two
lowest-of-several : (lowest_unsound 1 1 (set (changed (pending_at 2) (pos 2)) (heard_at 3) (neg_ℤ (pos 1))) ≡ some (heard_at 3))
    × (lowest_unsound 1 1 (set (changed sensors_at mark) (heard_at 1) (pos 0)) ≡ some sensors_at)
    × (lowest_unsound 1 2 (changed (pending_at 16) (pos 2) ++ changed sensors_at mark) ≡ some (pending_at 16))
unfolding opened
lowest-of-several = (refl, refl, refl)

-- a slot present where the mark is 0: the slot is named, not the mark; where the message is pending none is
slot-named : (lowest_unsound 1 1 (changed (pending_at 2 + 3) (pos 5)) ≡ some (pending_at 2 + 3)) × (lowest_unsound 1 1 (set (changed (pending_at 2 + 3) (pos 5)) (pending_at 2) (pos 1)) ≡ none)
    × (lowest_unsound 1 1 (set (changed (pending_at 2 + 3) (pos 5)) (pending_at 2) (pos 2)) ≡ some (pending_at 2))
    × (lowest_unsound 1 1 (set (changed (pending_at 1 + 3) (pos 5)) (pending_at 1) (pos 1)) ≡ some (pending_at 1))
unfolding opened
slot-named = (refl, refl, refl, refl)

-- in the second device the cells count on from its first, and the rows for itself are the second ones
second-device : (lowest_unsound 1 2 (fresh_block ++ fresh_block) ≡ none) × (lowest_unsound 1 2 (fresh_block ++ changed sensors_at mark) ≡ some (base 2 + sensors_at))
    × (lowest_unsound 1 2 (fresh_block ++ changed (heard_at 2) (pos 5)) ≡ some (base 2 + heard_at 2))
    × (lowest_unsound 1 2 (fresh_block ++ changed (heard_at 1) (pos 5)) ≡ none) × (lowest_unsound 1 2 (changed (heard_at 2) (pos 5) ++ fresh_block) ≡ none)
unfolding opened
second-device = (refl, refl, refl, refl, refl)

-- a mark in the first device's block frees no slot in the second's
marks-of-own-block : (lowest_unsound 1 2 (changed (pending_at 3) (pos 1) ++ changed (pending_at 3 + 1) (pos 5)) ≡ some (base 2 + pending_at 3 + 1))
    × (lowest_unsound 1 2 (changed (pending_at 3 + 1) (pos 5) ++ changed (pending_at 3) (pos 1)) ≡ some (pending_at 3 + 1))
unfolding opened
marks-of-own-block = (refl, refl)

-- as many devices as are asked for, from the one given on; cells that are not there break no rule
asked-for : (lowest_unsound 1 0 (changed sensors_at mark) ≡ none) × (lowest_unsound 1 1 (fresh_block ++ changed sensors_at mark) ≡ none)
    × (lowest_unsound 3 1 (changed sensors_at mark) ≡ some (base 3 + sensors_at))
    × (lowest_unsound 1 2 (fresh_block ++ take sensors_at fresh_block) ≡ none) × (lowest_unsound 1 2 (fresh_block ++ take (sensors_at + 1) (changed sensors_at mark)) ≡ some (base 2 + sensors_at))
unfolding opened
asked-for = (refl, refl, refl, refl, refl)

-- the last cell of the network: the age of what device 16 heard from itself
last-cell : (lowest_unsound 16 1 fresh_block ≡ none) × (lowest_unsound 16 1 (changed (block_size - 1) (pos 0)) ≡ some 8719)
    × (lowest_unsound 16 1 (changed (block_size - 1) (pos 0)) ≡ some (network_size - 1))
unfolding opened
last-cell = (refl, refl, refl)
