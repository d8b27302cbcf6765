-- Where each cell stands, and what it holds when fresh, at examples, by computation. Assumes nothing.
use mathlib.Core.Path.{◌≡◌, refl}
use mathlib.Core.List.{List, [], ◌∷◌, map}
use Prim.Native.Nat.{ℕ, ◌+◌, ◌-◌}
use lib.ListN.{length, get_or, replicate}
use lib.IntN.{ℤ, pos}
use Rattle.number.specs.Number.{mark}
use Rattle.field.specs.Field.{from}
use Rattle.network.specs.Cells.{row}
use Rattle.network.specs.Network.{sensors_at, heard_at, pending_at, age_at, block_size, network_size, base, no_message, copies, fresh_block, fresh, heard_sound, cell_sound}
use Rattle.network.specs.Network.{first_not, lowest_unsound, soundness, fresh_call}

-- what the examples compute with
unfoldable opened : ℕ → ℕ
unfolding from copies
opened n = n

-- the numbers of the cells, here only; elsewhere they are named
-- L1: "a block is 545 cells and a network 8,720", "from (a - 1) × [545]": the last device's end with the network
blocks : (network_size ≡ 8720) × (block_size ≡ 545) × (base 1 ≡ 0) × (base 2 ≡ 545) × (base 3 ≡ 1090) × (base 16 ≡ 8175) × (base 16 + block_size ≡ network_size)
blocks = (refl, refl, refl, refl, refl, refl, refl)

-- "16: its lit sensors", behind "0–15: its variables"
sensors-place : sensors_at ≡ 16
sensors-place = refl

-- "17 + 16 × (b - 1) + i: slot i last heard from b"
heard-places : (heard_at 1 ≡ 17) × (heard_at 2 ≡ 33) × (heard_at 3 ≡ 49) × (heard_at 16 ≡ 257) × (heard_at 16 + 16 ≡ pending_at 1)
heard-places = (refl, refl, refl, refl, refl)

-- "273 + 16 × (b - 1) + i: the message pending from a to b"
pending-places : (pending_at 1 ≡ 273) × (pending_at 2 ≡ 289) × (pending_at 3 ≡ 305) × (pending_at 16 ≡ 513) × (pending_at 16 + 16 ≡ age_at 1)
pending-places = (refl, refl, refl, refl, refl)

-- L1: "sixteen more cells, 529–544", of each sender, the last cells of a block
age-places : (age_at 1 ≡ 529) × (age_at 2 ≡ 530) × (age_at 3 ≡ 531) × (age_at 16 ≡ 544) × (age_at 16 + 1 ≡ block_size)
age-places = (refl, refl, refl, refl, refl)

-- "Fresh: sensors and pending marks 0, all else absent.": a message's row
no-message : no_message ≡ pos 0 ∷ mark ∷ mark ∷ mark ∷ mark ∷ mark ∷ mark ∷ mark ∷ mark ∷ mark ∷ mark ∷ mark ∷ mark ∷ mark ∷ mark ∷ mark ∷ []
no-message = refl

-- a list of rows, one behind the other
rows-copied : (copies 0 (pos 1 ∷ pos 2 ∷ []) ≡ []) × (copies 1 (pos 1 ∷ pos 2 ∷ []) ≡ pos 1 ∷ pos 2 ∷ []) × (copies 3 (pos 1 ∷ pos 2 ∷ []) ≡ pos 1 ∷ pos 2 ∷ pos 1 ∷ pos 2 ∷ pos 1 ∷ pos 2 ∷ [])
unfolding opened
rows-copied = (refl, refl, refl)

-- a device's cells: variables absent, sensors 0, what it heard from each absent, no message to each, no age, nothing behind
abbrev absent-row : List ℤ
absent-row = mark ∷ mark ∷ mark ∷ mark ∷ mark ∷ mark ∷ mark ∷ mark ∷ mark ∷ mark ∷ mark ∷ mark ∷ mark ∷ mark ∷ mark ∷ mark ∷ []

block-fresh : (row fresh_block 0 16 ≡ absent-row) × (get_or fresh_block sensors_at mark ≡ pos 0) × (from 1 16 (λ b. row fresh_block (heard_at b) 16) ≡ replicate 16 absent-row)
    × (from 1 16 (λ b. row fresh_block (pending_at b) 16) ≡ replicate 16 no_message) × (from 1 16 (λ b. get_or fresh_block (age_at b) (pos 99)) ≡ replicate 16 mark) × (length fresh_block ≡ block_size)
unfolding opened
block-fresh = (refl, refl, refl, refl, refl, refl)

-- and each of the sixteen devices has such cells
network-fresh : (from 1 16 (λ a. row fresh (base a) block_size) ≡ replicate 16 fresh_block) × (length fresh ≡ network_size)
unfolding opened fresh
network-fresh = (refl, refl)

-- some of these cells by their numbers: the first device's, the second's, the last's
fresh_cells : map (λ k. get_or fresh k (pos 99)) (0 ∷ 15 ∷ 16 ∷ 17 ∷ 272 ∷ 273 ∷ 274 ∷ 288 ∷ 289 ∷ 528 ∷ 529 ∷ 544 ∷ 545 ∷ 561 ∷ 818 ∷ 8191 ∷ 8448 ∷ 8688 ∷ 8689 ∷ 8704 ∷ 8719 ∷ 8720 ∷ [])
    ≡ mark ∷ mark ∷ pos 0 ∷ mark ∷ mark ∷ pos 0 ∷ mark ∷ mark ∷ pos 0 ∷ mark ∷ mark ∷ mark ∷ mark ∷ pos 0 ∷ pos 0 ∷ pos 0 ∷ pos 0 ∷ pos 0 ∷ mark ∷ mark ∷ mark ∷ pos 99 ∷ []
unfolding opened fresh
fresh_cells = refl

-- "make a network fresh": "0 and 0 when it did its work", whatever the cells held; "Fresh refuses only a wrong length": these cells are not sound
abbrev sevens : ℕ → List ℤ
sevens n = replicate n (pos 7)

made-fresh : fresh_call (sevens network_size) ≡ ((0, 0), fresh)
unfolding fresh_call heard_sound cell_sound first_not lowest_unsound soundness
made-fresh = refl

-- and "(place 0: wrong length)"; "Numbers 1–13 change no buffer": one cell less, one more, none
fresh-refused : (fresh_call (sevens (network_size - 1)) ≡ ((11, 0), sevens (network_size - 1))) × (fresh_call (sevens (network_size + 1)) ≡ ((11, 0), sevens (network_size + 1)))
    × (fresh_call [] ≡ ((11, 0), []))
unfolding fresh_call
fresh-refused = (refl, refl, refl)
