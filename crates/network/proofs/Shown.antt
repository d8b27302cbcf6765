-- The rules of one cell on both sides of their edges, by computation. Assumes nothing.
use mathlib.Core.Path.{◌≡◌, refl}
use mathlib.Core.Bool.{Bool, true, false}
use mathlib.Core.List.{List, [], ◌∷◌, map}
use Prim.Native.Nat.{ℕ, ◌+◌}
use lib.ListN.{set}
use lib.IntN.{ℤ, pos, neg_ℤ}
use Rattle.number.specs.Number.{mark, floor, inf}
use Rattle.network.specs.Network.{pending_at, copies, fresh_block, within, is_distance, heard_sound, pending_sound, any_present, age_sound, cell_sound}

-- what the examples compute with
unfoldable opened : ℕ → ℕ
unfolding copies heard_sound pending_sound any_present age_sound cell_sound
opened n = n

abbrev neg : ℕ → ℤ
neg n = neg_ℤ (pos n)

-- both ends belong to a range, the numbers beside them do not
ranges : map (within (neg 2) (pos 3)) (neg 3 ∷ neg 2 ∷ pos 0 ∷ pos 3 ∷ pos 4 ∷ []) ≡ false ∷ true ∷ true ∷ true ∷ false ∷ []
ranges = refl

-- "i = 0 is the distance of the link a to b, 0 to 1,000,000, absent where there is no link"
abbrev distances : List ℤ
distances = mark ∷ pos 0 ∷ pos 1 ∷ pos 1000000 ∷ neg 1 ∷ pos 1000001 ∷ floor ∷ inf ∷ []

abbrev first-four : List Bool
first-four = true ∷ true ∷ true ∷ true ∷ false ∷ false ∷ false ∷ false ∷ []

distance-range : (map is_distance distances ≡ first-four) × (map (heard_sound 1 2 0) distances ≡ first-four) × (map (heard_sound 2 1 0) distances ≡ first-four)
unfolding opened
distance-range = (refl, refl, refl)

-- any number, and none, may be heard in slots 1 to 15 of another device
abbrev any : List ℤ
any = mark ∷ floor ∷ neg 1 ∷ pos 0 ∷ pos 5 ∷ pos 1000001 ∷ inf ∷ []

abbrev all_true : List Bool
all_true = true ∷ true ∷ true ∷ true ∷ true ∷ true ∷ true ∷ []

-- the mark alone
abbrev absent-only : List Bool
absent-only = true ∷ false ∷ false ∷ false ∷ false ∷ false ∷ false ∷ []

heard-slots-free : (map (heard_sound 1 2 1) any ≡ all_true) × (map (heard_sound 1 2 15) any ≡ all_true) × (map (heard_sound 2 1 1) any ≡ all_true)
unfolding opened
heard-slots-free = (refl, refl, refl)

-- "a's rows for itself as when fresh": what a heard from itself is absent, distance and slots
own-heard : (map (heard_sound 1 1 0) any ≡ absent-only) × (map (heard_sound 1 1 1) any ≡ absent-only) × (map (heard_sound 1 1 15) any ≡ absent-only) × (map (heard_sound 16 16 0) any ≡ absent-only)
unfolding opened
own-heard = (refl, refl, refl, refl)

-- "i = 0 is 1 when one is pending, else 0"; whatever the block holds
abbrev marks : List ℤ
marks = pos 0 ∷ pos 1 ∷ pos 2 ∷ neg 1 ∷ mark ∷ inf ∷ []

-- a fresh block in which the message to b has the mark m
abbrev marked : ℕ → ℤ → List ℤ
marked b m = set fresh_block (pending_at b) m

marks-range : (map (pending_sound 1 fresh_block 2 0) marks ≡ true ∷ true ∷ false ∷ false ∷ false ∷ false ∷ [])
    × (map (pending_sound 2 (marked 1 (pos 1)) 1 0) marks ≡ true ∷ true ∷ false ∷ false ∷ false ∷ false ∷ [])
unfolding opened
marks-range = (refl, refl)

-- "slots absent where the mark is 0": the slot offends, and the mark does not; where it is 1 they are free
beside-0 : (map (pending_sound 1 fresh_block 2 1) any ≡ absent-only) × (map (pending_sound 1 fresh_block 2 15) any ≡ absent-only)
    × (pending_sound 1 (set fresh_block (pending_at 2 + 1) (pos 5)) 2 0 (pos 0) ≡ true)
unfolding opened
beside-0 = (refl, refl, refl)

beside-1 : (map (pending_sound 1 (marked 2 (pos 1)) 2 1) any ≡ all_true) × (map (pending_sound 1 (marked 2 (pos 1)) 2 15) any ≡ all_true)
    × (map (pending_sound 16 (marked 1 (pos 1)) 1 3) any ≡ all_true)
unfolding opened
beside-1 = (refl, refl, refl)

-- beside a mark that is out of range the mark alone offends
beside-others : (map (pending_sound 1 (marked 2 (pos 2)) 2 1) any ≡ all_true) × (map (pending_sound 1 (marked 2 (neg 1)) 2 1) any ≡ all_true)
    × (map (pending_sound 1 (marked 2 mark) 2 1) any ≡ all_true)
unfolding opened
beside-others = (refl, refl, refl)

-- the mark of the row itself counts, and no other
other-rows : (map (pending_sound 1 (marked 3 (pos 1)) 2 1) any ≡ absent-only) × (map (pending_sound 1 (marked 2 (pos 1)) 3 1) any ≡ absent-only)
    × (map (pending_sound 1 (marked 16 (pos 1)) 16 1) any ≡ all_true)
unfolding opened
other-rows = (refl, refl, refl)

-- "a's rows for itself as when fresh": the mark is 0, its slots absent whatever the mark says
own-pending : (map (pending_sound 2 fresh_block 2 0) marks ≡ true ∷ false ∷ false ∷ false ∷ false ∷ false ∷ []) × (map (pending_sound 2 fresh_block 2 1) any ≡ absent-only)
    × (map (pending_sound 2 (marked 2 (pos 1)) 2 1) any ≡ absent-only) × (map (pending_sound 16 (marked 16 (pos 1)) 16 15) any ≡ absent-only)
unfolding opened
own-pending = (refl, refl, refl, refl)
