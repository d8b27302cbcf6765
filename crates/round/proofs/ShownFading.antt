-- L1: what a device heard, one round on, by computation. Assumes nothing.
use mathlib.Core.Path.{◌≡◌, refl}
use mathlib.Core.Bool.{true, false}
use mathlib.Core.List.{List, [], ◌∷◌, ◌++◌, map}
use Prim.Native.Nat.{ℕ, zero, suc, ◌+◌}
use lib.ListN.{replicate}
use lib.IntN.{ℤ, pos}
use Rattle.number.specs.Number.{mark, floor, inf, add}
use Rattle.program.specs.Tree.{Expr, fold_op, nbr}
use Rattle.network.specs.Cells.{row, write}
use Rattle.network.specs.Network.{heard_at, age_at, fresh_block}
use Rattle.round.specs.Round.{fades, older, ages, age, faded, fired}
use Rattle.round.proofs.ShownCells.{opened, neg, number_of, divides}

-- "Each completed round of the hearer then adds 1 .. On reaching 3 .. become absent": absent stays absent, 0 and 1 go on, 2 is the last
each-age : (map older (mark ∷ pos 0 ∷ pos 1 ∷ pos 2 ∷ []) ≡ mark ∷ pos 1 ∷ pos 2 ∷ mark ∷ []) × (map fades (mark ∷ pos 0 ∷ pos 1 ∷ pos 2 ∷ []) ≡ false ∷ false ∷ false ∷ true ∷ [])
unfolding opened
each-age = (refl, refl)

-- outside 0 to 2, where no sound network is, the same sum decides
other-ages : (map older (pos 3 ∷ inf ∷ neg 1 ∷ neg 5 ∷ floor ∷ []) ≡ mark ∷ mark ∷ pos 0 ∷ neg 4 ∷ neg 2147483646 ∷ [])
    × (map fades (pos 3 ∷ inf ∷ neg 1 ∷ floor ∷ []) ≡ true ∷ true ∷ false ∷ false ∷ [])
unfolding opened
other-ages = (refl, refl)

-- A device that heard from 2, 3, 5 and 16 with the ages 0, 1, 2 and 2, from 5 without a link and in slot 15 too, from 16 an empty message; from 7 nothing, over a link
abbrev cells : List ℤ
cells =
    write fresh_block (
    (heard_at 2, pos 10 ∷ pos 1 ∷ [])
    ∷ (heard_at 3, pos 20 ∷ pos 2 ∷ [])
    ∷ (heard_at 5, mark ∷ pos 4 ∷ [])
    ∷ (heard_at 5 + 15, pos 9 ∷ [])
    ∷ (heard_at 7, pos 30 ∷ [])
    ∷ (heard_at 16, pos 40 ∷ [])
    ∷ (age_at 2, pos 0 ∷ pos 1 ∷ mark ∷ pos 2 ∷ [])
    ∷ (age_at 16, pos 2 ∷ [])
    ∷ [])

ages-read : (ages cells ≡ mark ∷ pos 0 ∷ pos 1 ∷ mark ∷ pos 2 ∷ replicate 10 mark ++ pos 2 ∷ []) × (age cells 2 ≡ pos 0) × (age cells 3 ≡ pos 1) × (age cells 5 ≡ pos 2) × (age cells 16 ≡ pos 2)
    × (age cells 1 ≡ mark)
unfolding opened
ages-read = (refl, refl, refl, refl, refl, refl)

-- "the sender's slots 1–15 .. become absent", the distance stays; the others' rows stay whole
rows : (faded cells 2 ≡ pos 10 ∷ pos 1 ∷ replicate 14 mark) × (faded cells 3 ≡ pos 20 ∷ pos 2 ∷ replicate 14 mark) × (faded cells 5 ≡ replicate 16 mark)
    × (faded cells 7 ≡ pos 30 ∷ replicate 15 mark) × (faded cells 16 ≡ pos 40 ∷ replicate 15 mark) × (faded cells 1 ≡ replicate 16 mark)
unfolding opened
rows = (refl, refl, refl, refl, refl, refl)

-- a round that sums what it heard in slot 1
abbrev sums : Expr
sums = fold_op 9 add (number_of 0) (nbr 1 (number_of 3))

-- the device's cells and the answer after k + 1 rounds of e
rounds : ℕ → Expr → List ℤ → List ℤ × (ℤ × ℤ)
rounds zero e block = fired e block
rounds (suc k) e block = rounds k e (fired e block).0

-- "after its reading": the first round reads all three, 1 + 2 + 4; the second 1 + 2, the third 1, the fourth nothing
read_by : map (λ k. (rounds k sums cells).1) (0 ∷ 1 ∷ 2 ∷ 3 ∷ []) ≡ (pos 0, pos 7) ∷ (pos 0, pos 3) ∷ (pos 0, pos 1) ∷ (pos 0, pos 0) ∷ []
unfolding opened rounds
read_by = refl

-- every age present is 1 more, and each sender's goes its own way
abbrev ages-after : ℕ → Expr → List ℤ
ages-after k e = row (rounds k e cells).0 (age_at 1) 16

ages-then : (ages-after 0 sums ≡ mark ∷ pos 1 ∷ pos 2 ∷ replicate 13 mark) × (ages-after 1 sums ≡ mark ∷ pos 2 ∷ replicate 14 mark) × (ages-after 2 sums ≡ replicate 16 mark)
    × (ages-after 3 sums ≡ replicate 16 mark)
unfolding opened rounds
ages-then = (refl, refl, refl, refl)

-- whether the program reads them or not
unread-too : (ages-after 0 (number_of 5) ≡ mark ∷ pos 1 ∷ pos 2 ∷ replicate 13 mark) × (ages-after 2 (number_of 5) ≡ replicate 16 mark)
unfolding opened rounds
unread-too = (refl, refl)

-- after three rounds what was heard is gone and the distances stand: rows of 16 from the first sender on
gone : row (rounds 2 sums cells).0 (heard_at 1) 256
    ≡ replicate 16 mark ++ (pos 10 ∷ replicate 15 mark ++ (pos 20 ∷ replicate 15 mark ++ (replicate 48 mark ++ (pos 30 ∷ replicate 15 mark ++ (replicate 128 mark ++ pos 40 ∷ replicate 15 mark)))))
unfolding opened rounds
gone = refl

-- "A faulted round ages nothing."
fault-ages-nothing : fired (divides 4) cells ≡ (cells, (pos 17, pos 4))
unfolding opened
fault-ages-nothing = refl
