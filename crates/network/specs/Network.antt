-- The network's cells, fresh and sound. Definitions only: nothing is assumed.
use Rattle.std.specs.Prelude.{Bool, true, false, not, cond, ◌&&◌, ◌||◌, List, [], ◌∷◌, ◌++◌, ℕ, zero, suc, ◌+◌, ◌-◌, ◌*◌, ◌/◌, ◌%◌, length, get_or, take, drop, replicate, eqb, ltb, ℤ, pos}
use Rattle.std.proofs.Math.Option.{Option, none, some}
use Rattle.std.specs.Int.Signed.{le_z}
use Rattle.number.specs.Number.{mark, eq_z}
use Rattle.field.specs.Field.{devices}
use Rattle.network.specs.Cells.{row}

-- the places in a device's cells: its sensors, what it heard from b, what is pending to b, the age of what it heard from b, the end
abbrev pub sensors_at : ℕ
sensors_at = 16

abbrev pub heard_at : ℕ → ℕ
heard_at b = 17 + 16 * (b - 1)

abbrev pub pending_at : ℕ → ℕ
pending_at b = 273 + 16 * (b - 1)

-- L1: "sixteen more cells, 529–544: the age of what it last heard from each sender, so a block is 545 cells and a network 8,720"
abbrev pub age_at : ℕ → ℕ
age_at b = 529 + (b - 1)

abbrev pub block_size : ℕ
block_size = 545

abbrev pub network_size : ℕ
network_size = 8720

-- "Device a owns [545] cells from (a - 1) × [545]"
abbrev pub base : ℕ → ℕ
base a = (a - 1) * block_size

-- "Fresh: sensors and pending marks 0, all else absent."
abbrev pub no_message : List ℤ
no_message = pos 0 ∷ replicate 15 mark

unfoldable pub copies : {A : Type 0} → ℕ → List A → List A
copies zero l = []
copies (suc k) l = l ++ copies k l

abbrev pub fresh_block : List ℤ
fresh_block = replicate 16 mark ++ (pos 0 ∷ replicate (pending_at 1 - heard_at 1) mark ++ (copies devices no_message ++ replicate devices mark))

unfoldable pub fresh : List ℤ
unfolding copies
fresh = copies devices fresh_block

abbrev pub within : ℤ → ℤ → ℤ → Bool
within lo hi z = le_z lo z && le_z z hi

-- "the distance of the link a to b, 0 to 1,000,000, absent where there is no link"
abbrev pub is_distance : ℤ → Bool
is_distance z = eq_z z mark || within (pos 0) (pos 1000000) z

-- whether z keeps the rules as cell i of device a's row heard from r
unfoldable pub heard_sound : ℕ → ℕ → ℕ → ℤ → Bool
heard_sound a r i z = cond (eqb r a) (eq_z z mark) (not (eqb i 0) || is_distance z)

-- and as cell i of its row pending to r: "i = 0 is 1 when one is pending, else 0", "slots absent where the mark is 0"
unfoldable pub pending_sound : ℕ → List ℤ → ℕ → ℕ → ℤ → Bool
pending_sound a block r i z =
    cond (eqb i 0)
    (eq_z z (pos 0) || not (eqb r a) && eq_z z (pos 1))
    (eq_z z mark || not (eqb r a || eq_z (get_or block (pending_at r) (pos 0)) (pos 0)))

-- whether one of these cells holds a number
unfoldable pub any_present : List ℤ → Bool
any_present [] = false
any_present (z ∷ l) = not (eq_z z mark) || any_present l

-- the slots 1 to 15 that it heard from b
abbrev pub slots_from : List ℤ → ℕ → List ℤ
slots_from block b = row block (heard_at b + 1) 15

-- L1: ".. 0 to 2", of an age that is not absent
abbrev pub is_age : ℤ → Bool
is_age z = within (pos 0) (pos 2) z

-- and as the age of what it heard from r. L1: "A sound age is absent or 0 to 2, and is present where a slot 1–15 is, else the age's cell offends; a device's
-- age for itself is absent."
unfoldable pub age_sound : ℕ → List ℤ → ℕ → ℤ → Bool
age_sound a block r z =
    (eq_z z mark || is_age z)
    && (not (eq_z z mark) || not (any_present (slots_from block r)))
    && (eq_z z mark || not (eqb r a))

-- and at place j of its block. "Sound: sensors 0 to 65,535; distances and marks in range; slots absent where the mark is 0; a's rows for itself as when
-- fresh."
unfoldable pub cell_sound : ℕ → List ℤ → ℕ → ℤ → Bool
cell_sound a block j z =
    cond (ltb j sensors_at) true
    (cond (eqb j sensors_at) (within (pos 0) (pos 65535) z)
    (cond (ltb j (pending_at 1)) (heard_sound a ((j - heard_at 1) / 16 + 1) ((j - heard_at 1) % 16) z)
    (cond (ltb j (age_at 1)) (pending_sound a block ((j - pending_at 1) / 16 + 1) ((j - pending_at 1) % 16) z)
    (age_sound a block (j - age_at 1 + 1) z))))

-- the first place, counted from j, whose cell is not ok
unfoldable pub first_not : (ℕ → ℤ → Bool) → ℕ → List ℤ → Option ℕ
first_not ok j [] = none
first_not ok j (z ∷ l) = cond (ok j z) (first_not ok (suc j) l) (some j)

abbrev pub placed : Option ℕ → ℕ → Option ℕ → Option ℕ
placed none at next = next
placed (some j) at next = some (at + j)

-- "the lowest cell that breaks it", among the cells n of the k devices from a on
unfoldable pub lowest_unsound : ℕ → ℕ → List ℤ → Option ℕ
lowest_unsound a zero n = none
lowest_unsound a (suc k) n =
    let block : List ℤ = take block_size n in
    placed (first_not (cell_sound a block) 0 block) (base a) (lowest_unsound (suc a) k (drop block_size n))

abbrev pub unsound_at : Option ℕ → ℕ × ℕ
unsound_at none = (0, 0)
unsound_at (some k) = (11, k)

-- "Otherwise refusal 11 names the lowest cell that breaks it (place 0: wrong length)."
unfoldable pub soundness : List ℤ → ℕ × ℕ
soundness n = cond (eqb (length n) network_size) (unsound_at (lowest_unsound 1 devices n)) (11, 0)

-- "Fresh refuses only a wrong length": the refusal, and the network after it
unfoldable pub fresh_call : List ℤ → (ℕ × ℕ) × List ℤ
fresh_call n = cond (eqb (length n) network_size) ((0, 0), fresh) ((11, 0), n)
