-- A device's cells after a round, its messages and its answer, by computation. Assumes nothing.
use mathlib.Core.Path.{◌≡◌, refl}
use mathlib.Core.List.{List, [], ◌∷◌, ◌++◌, map}
use Prim.Native.Nat.{◌+◌}
use lib.ListN.{replicate, drop}
use lib.IntN.{ℤ, pos}
use Rattle.number.specs.Number.{mark, add, div}
use Rattle.field.specs.Field.{each}
use Rattle.program.specs.Tree.{Expr, constant, parameter, variable, operator, sense, rep, mux, nbr, range, fold_op}
use Rattle.network.specs.Cells.{row, write}
use Rattle.network.specs.Network.{heard_at, pending_at, fresh_block, no_message}
use Rattle.round.specs.Round.{number, done, round, message, after, fired}
use Rattle.round.proofs.ShownCells.{opened, neg, number_of, divides, keeps, unsent, state, full, cells}

-- the cells have links to the devices 1, 5, 6, 7 and 16: each of them gets m, the others nothing
abbrev to-linked : List ℤ → List (List ℤ)
to-linked m = m ∷ no_message ∷ no_message ∷ no_message ∷ m ∷ m ∷ m ∷ no_message ∷ no_message ∷ no_message ∷ no_message ∷ no_message ∷ no_message ∷ no_message ∷ no_message ∷ m ∷ []

-- "each b with a link from a gets one message with exactly the slots sent, even none": also over the distance 0, and not by having been heard
abbrev slots : List ℤ
slots = mark ∷ pos 5 ∷ mark ∷ neg 1 ∷ replicate 11 mark ++ pos 0 ∷ []

messages : each (message cells (state full slots)) ≡ to-linked (pos 1 ∷ pos 5 ∷ mark ∷ neg 1 ∷ replicate 11 mark ++ pos 0 ∷ [])
unfolding opened
messages = refl

empty-messages : each (message cells (state full unsent)) ≡ to-linked (pos 1 ∷ replicate 15 mark)
unfolding opened
empty-messages = refl

-- after a round: the variables, sensors and heard rows as they stood, the messages; "all that is pending from a goes", also to device 3, to which there is no link; the ages
-- one more (those that fade: ShownFading)
abbrev joined-rows : List (List ℤ) → List ℤ
joined-rows [] = []
joined-rows (l ∷ ls) = l ++ joined-rows ls

abbrev left : List ℤ → List ℤ → List ℤ
left variables m = variables ++ (row cells 16 257 ++ (joined-rows (to-linked m) ++ pos 1 ∷ mark ∷ pos 2 ∷ mark ∷ pos 1 ∷ pos 2 ∷ replicate 9 mark ++ pos 1 ∷ []))

cells-after : (after cells (state full slots) ≡ left full (pos 1 ∷ drop 1 slots)) × (after cells (state full unsent) ≡ left full (pos 1 ∷ replicate 15 mark))
unfolding opened
cells-after = (refl, refl)

nothing-linked : after (write fresh_block ((heard_at 2 + 1, pos 3 ∷ []) ∷ (pending_at 16, pos 1 ∷ pos 2 ∷ []) ∷ [])) (state full slots)
    ≡ full ++ drop 16 (write fresh_block ((heard_at 2 + 1, pos 3 ∷ []) ∷ []))
unfolding opened
nothing-linked = refl

-- "0 and the value": variable 1 held 40 and holds 41, variable 0 is kept for the first time, slots 4 and 5 are sent
abbrev counts : Expr
counts = rep 1 (number_of 0) (operator 5 add (variable 4 1) (number_of 1))

abbrev sends : Expr
sends = fold_op 9 add (fold_op 8 add (number_of 0) (range 4)) (nbr 5 (keeps 0))

fire : fired (mux (sense (number_of 15)) counts sends) cells
    ≡ (left (pos 50 ∷ pos 41 ∷ replicate 14 mark) (pos 1 ∷ replicate 3 mark ++ pos 0 ∷ pos 50 ∷ replicate 10 mark), (pos 0, pos 41))
unfolding opened
fire = refl

-- a round that stores nothing and sends nothing
fire-constant : fired (constant (neg 3)) cells ≡ (left (mark ∷ pos 40 ∷ replicate 14 mark) (pos 1 ∷ replicate 15 mark), (pos 0, neg 3))
unfolding opened
fire-constant = refl

-- "17: the node that divided"; "A fault changes nothing.": not the variables stored before it, not the messages
fire-fault : (fired (operator 5 div counts (number_of 0)) cells ≡ (cells, (pos 17, pos 5)))
    × (fired (mux (divides 200) counts sends) cells ≡ (cells, (pos 17, pos 200)))
    × (fired (divides 0) cells ≡ (cells, (pos 17, pos 0)))
unfolding opened
fire-fault = (refl, refl, refl)

-- a round reads its device's variables, and starts with nothing sent and with parameters that are 0
round-starts : (round counts cells ≡ done (number (pos 41)) (state (mark ∷ pos 41 ∷ replicate 14 mark) unsent))
    × (map (λ p. round (parameter 5 p) cells) (0 ∷ 1 ∷ 2 ∷ 3 ∷ []) ≡ replicate 4 (done (number (pos 0)) (state (mark ∷ pos 40 ∷ replicate 14 mark) unsent)))
unfolding opened
round-starts = (refl, refl)

-- a round reads all that its device heard, slot 15 of device 16 too: 6
last-slot-read : (fired (fold_op 9 add (number_of 0) (nbr 15 (number_of 1))) cells).1 ≡ (pos 0, pos 6)
unfolding opened
last-slot-read = refl
