-- L2: nbr-lag beside nbr-range, by computation. Assumes nothing.
use mathlib.Core.Path.{◌≡◌, refl}
use mathlib.Core.List.{List, [], ◌∷◌, ◌++◌, map}
use mathlib.Core.Option.{none, some}
use Prim.Native.Nat.{ℕ, zero, suc, ◌+◌, ◌-◌, ◌*◌, ◌%◌}
use lib.ListN.{take, replicate}
use lib.IntN.{ℤ, pos}
use Rattle.number.specs.Number.{mark, add, sub, mul}
use Rattle.field.specs.Field.{from, each, Field}
use Rattle.program.specs.Tree.{Expr, operator, branch, nbr, range, lag, fold_op}
use Rattle.network.specs.Cells.{row, write}
use Rattle.network.specs.Network.{heard_at, pending_at, age_at, fresh_block}
use Rattle.round.specs.Round.{field, done, own, lag_of, heard_in, lag_in, range_in, joined, fired}
use Rattle.round.proofs.ShownCells.{opened, neg, number_of, nowhere, unsent, state, full, in-state, outcome}
use Rattle.round.proofs.ShownNeighbours.{sent}

-- "a field of ages for devices heard with 0 in that slot, link or none": devices 1, 5 and 16 with age 0, and device 3, which has no link, with age 1; not device 6, heard
-- with 5, nor device 7, not heard. "sends 0"
lag-slot-2 : outcome (lag 2)
    ≡ done (field (some (pos 0) ∷ none ∷ some (pos 1) ∷ none ∷ some (pos 0) ∷ replicate 10 none ++ some (pos 0) ∷ [])) (sent (mark ∷ mark ∷ pos 0 ∷ replicate 13 mark))
unfolding opened
lag-slot-2 = refl

-- heard with 7, -1 and 0; heard with 6; heard from nobody: it sends 0 all the same
lag-other-slots : (outcome (lag 1) ≡ done (field (replicate 15 none ++ some (pos 0) ∷ [])) (sent (mark ∷ pos 0 ∷ replicate 14 mark)))
    × (outcome (lag 15) ≡ done (field nowhere) (sent (replicate 15 mark ++ pos 0 ∷ [])))
    × (outcome (lag 4) ≡ done (field nowhere) (sent (replicate 4 mark ++ pos 0 ∷ replicate 11 mark)))
unfolding opened
lag-other-slots = (refl, refl, refl)

-- the device's variables stay, and so they do with nbr-range
variables-stay : (in-state (state full unsent) (lag 4) ≡ done (field nowhere) (state full (replicate 4 mark ++ pos 0 ∷ replicate 11 mark)))
    × (in-state (state full unsent) (range 4) ≡ done (field nowhere) (state full (replicate 4 mark ++ pos 0 ∷ replicate 11 mark)))
unfolding opened
variables-stay = (refl, refl)

-- beside an nbr-range of another slot, on shared devices only; what was sent before stays
lag-and-range : outcome (operator 5 add (range 1) (lag 2)) ≡ done (field (replicate 15 none ++ some (pos 1000000) ∷ [])) (sent (mark ∷ pos 0 ∷ pos 0 ∷ replicate 13 mark))
unfolding opened
lag-and-range = refl

-- one branch of an if: the other sends nothing
one-branch : (outcome (branch (number_of 1) (lag 2) (lag 1)) ≡ outcome (lag 2)) × (outcome (branch (number_of 0) (lag 2) (lag 1)) ≡ outcome (lag 1))
unfolding opened
one-branch = (refl, refl)

-- A device that heard 0 in slot 1 from 2, 3, 5 and 16 with the ages 0, 1, 2 and 2, from 3 and 5 without a link, with 100, 200, 400 and 0 in slot 2; from 6, age 1, 5 in slot 1;
-- from 7, age 2, nothing in slot 1; from 8 and from 10 to 15 empty messages, of the ages 0 to 2. A message to 2 pends
abbrev cells : List ℤ
cells =
    write fresh_block (
    (heard_at 2, pos 10 ∷ pos 0 ∷ pos 100 ∷ [])
    ∷ (heard_at 3, mark ∷ pos 0 ∷ pos 200 ∷ [])
    ∷ (heard_at 5, mark ∷ pos 0 ∷ pos 400 ∷ [])
    ∷ (heard_at 6, pos 20 ∷ pos 5 ∷ pos 0 ∷ [])
    ∷ (heard_at 7, pos 30 ∷ mark ∷ pos 0 ∷ [])
    ∷ (heard_at 8, pos 40 ∷ [])
    ∷ (heard_at 16, pos 50 ∷ pos 0 ∷ pos 0 ∷ [])
    ∷ (pending_at 2, pos 1 ∷ pos 7 ∷ [])
    ∷ (age_at 2, pos 0 ∷ pos 1 ∷ mark ∷ pos 2 ∷ pos 1 ∷ pos 2 ∷ pos 0 ∷ [])
    ∷ (age_at 10, pos 1 ∷ pos 2 ∷ pos 0 ∷ pos 1 ∷ pos 2 ∷ pos 0 ∷ pos 2 ∷ [])
    ∷ [])

-- the ages stand behind what was heard, where the messages begin in the block
lags : each (lag_of (own cells))
    ≡ mark ∷ pos 0 ∷ pos 1 ∷ mark ∷ pos 2 ∷ pos 1 ∷ pos 2 ∷ pos 0 ∷ mark ∷ pos 1 ∷ pos 2 ∷ pos 0 ∷ pos 1 ∷ pos 2 ∷ pos 0 ∷ pos 2 ∷ []
unfolding opened
lags = refl

-- each age there is; in for lag and out for range where there is no link
both-measures : (lag_in (own cells) 1 ≡ none ∷ some (pos 0) ∷ some (pos 1) ∷ none ∷ some (pos 2) ∷ replicate 10 none ++ some (pos 2) ∷ [])
    × (range_in (own cells) 1 ≡ none ∷ some (pos 10) ∷ replicate 13 none ++ some (pos 50) ∷ [])
unfolding opened
both-measures = (refl, refl)

-- a device heard with 0 whose age is absent, as in no sound network, is out (L2.3)
ageless : lag_in (own (write fresh_block ((heard_at 2 + 1, pos 0 ∷ []) ∷ []))) 1 ≡ nowhere
unfolding opened
ageless = refl

-- Every slot, every device: b is heard with 0 in slot b and with -1 in all others, 16 with -1 in all, at 10 b, and the ages are 1, 2 and 0 in turn
abbrev diagonal : List ℤ
diagonal =
    replicate 17 mark
    ++ (joined (each (λ b. take 16 (pos (10 * b) ∷ replicate (b - 1) (neg 1) ++ pos 0 ∷ replicate (15 - b) (neg 1))))
    ++ each (λ b. pos (b % 3)))

-- device b alone, with k
abbrev only : ℕ → ℕ → Field
only b k = replicate (b - 1) none ++ some (pos k) ∷ replicate (16 - b) none

-- so in slot i just device i is in, with its own age and its own distance; nbr has all of them, with what each was heard with
each-slot : (from 1 15 (lag_in diagonal) ≡ from 1 15 (λ i. only i (i % 3))) × (from 1 15 (range_in diagonal) ≡ from 1 15 (λ i. only i (10 * i)))
    × (from 1 15 (heard_in diagonal) ≡ from 1 15 (λ i. replicate (i - 1) (some (neg 1)) ++ some (pos 0) ∷ replicate (16 - i) (some (neg 1))))
unfolding opened
each-slot = (refl, refl, refl)

-- the device's cells and the answer after k + 1 rounds of e
rounds : ℕ → Expr → List ℤ × (ℤ × ℤ)
rounds zero e = fired e cells
rounds (suc k) e = fired e (rounds k e).0

-- the sum over slot 1's field of 10 and the lag: four devices with 0, 1, 2 and 2; a round on two with 1 and 2, then one with 2, then none. "after its reading"
abbrev counts : Expr
counts = fold_op 9 add (number_of 0) (operator 8 add (number_of 10) (lag 1))

lag-grows : map (λ k. (rounds k counts).1) (0 ∷ 1 ∷ 2 ∷ 3 ∷ []) ≡ (pos 0, pos 45) ∷ (pos 0, pos 23) ∷ (pos 0, pos 12) ∷ (pos 0, pos 0) ∷ []
unfolding opened rounds
lag-grows = refl

-- "to weight a neighbour by how stale it is": what is heard in slot 2, times 3 less the lag: 300 + 400 + 400 + 0; then 200 + 200; then 100
abbrev weighted : Expr
weighted = fold_op 9 add (number_of 0) (operator 8 mul (nbr 2 (number_of 60)) (operator 7 sub (number_of 3) (lag 1)))

weights : map (λ k. (rounds k weighted).1) (0 ∷ 1 ∷ 2 ∷ 3 ∷ []) ≡ (pos 0, pos 1100) ∷ (pos 0, pos 400) ∷ (pos 0, pos 100) ∷ (pos 0, pos 0) ∷ []
unfolding opened rounds
weights = refl

-- its message, to device 2: 0 in the lag's slot, 60 in the other
sends-0 : row (rounds 0 weighted).0 (pending_at 2) 16 ≡ pos 1 ∷ pos 0 ∷ pos 60 ∷ replicate 13 mark
unfolding opened rounds
sends-0 = refl
