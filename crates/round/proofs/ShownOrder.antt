-- The order in which operands are evaluated, by computation: the first that divides by 0 is the node that is named. Assumes nothing.
use mathlib.Core.Path.{◌≡◌, refl}
use mathlib.Core.List.{List, ◌∷◌}
use lib.ListN.{replicate}
use lib.IntN.{ℤ, pos}
use Rattle.number.specs.Number.{mark, add, sub, div, eq}
use Rattle.program.specs.Tree.{nothing, parameter, variable, operator, sense, rep, branch, mux, nbr, fold_op, fold_def, call}
use Rattle.round.specs.Round.{State, done, fault, number}
use Rattle.round.proofs.ShownCells.{opened, number_of, divides, keeps, unsent, state, full, in-state, outcome}

-- "Evaluation walks operands left to right": the left side, the right side, the operator itself
operands : (outcome (operator 5 div (divides 1) (divides 2)) ≡ fault 1) × (outcome (operator 5 div (number_of 1) (divides 2)) ≡ fault 2) × (outcome (divides 5) ≡ fault 5)
unfolding opened
operands = (refl, refl, refl)

-- "except mux: then, else, condition"
mux-last-its-condition : (outcome (mux (divides 1) (divides 2) (divides 3)) ≡ fault 2)
    × (outcome (mux (divides 1) (number_of 7) (divides 3)) ≡ fault 3)
    × (outcome (mux (divides 1) (number_of 7) (number_of 8)) ≡ fault 1)
unfolding opened
mux-last-its-condition = (refl, refl, refl)

-- an if's condition comes first, a rep's initial part before its update
first-of-all : (outcome (branch (divides 1) (divides 2) (divides 3)) ≡ fault 1)
    × (outcome (rep 1 (divides 1) (divides 2)) ≡ fault 1)
    × (in-state (state full unsent) (rep 1 (divides 1) (divides 2)) ≡ fault 1)
    × (in-state (state full unsent) (rep 1 (number_of 1) (divides 2)) ≡ fault 2)
unfolding opened
first-of-all = (refl, refl, refl, refl)

one-operand : (outcome (sense (divides 1)) ≡ fault 1) × (outcome (nbr 1 (divides 1)) ≡ fault 1)
unfolding opened
one-operand = (refl, refl)

-- a fold: the initial part, the field, the steps
folds : (outcome (fold_op 5 div (divides 1) (nbr 1 (divides 2))) ≡ fault 1)
    × (outcome (fold_op 5 div (number_of 1) (nbr 1 (divides 2))) ≡ fault 2)
    × (outcome (fold_op 5 div (number_of 1) (nbr 1 (number_of 2))) ≡ fault 5)
unfolding opened
folds = (refl, refl, refl)

folds-by-definition : (outcome (fold_def (divides 3) (divides 1) (nbr 1 (divides 2))) ≡ fault 1)
    × (outcome (fold_def (divides 3) (number_of 1) (nbr 1 (divides 2))) ≡ fault 2)
    × (outcome (fold_def (divides 3) (number_of 1) (nbr 1 (number_of 2))) ≡ fault 3)
unfolding opened
folds-by-definition = (refl, refl, refl)

-- a call: its arguments in their order, then the definition's body
calls : (outcome (call (divides 5) (divides 1) (divides 2) (divides 3) (divides 4)) ≡ fault 1)
    × (outcome (call (divides 5) (number_of 0) (divides 2) (divides 3) (divides 4)) ≡ fault 2)
    × (outcome (call (divides 5) (number_of 0) (number_of 0) (divides 3) (divides 4)) ≡ fault 3)
    × (outcome (call (divides 5) (number_of 0) (number_of 0) (number_of 0) (divides 4)) ≡ fault 4)
    × (outcome (call (divides 5) (number_of 0) (number_of 0) (number_of 0) (number_of 0)) ≡ fault 5)
unfolding opened
calls = (refl, refl, refl, refl, refl)

-- what an operand stored stays when the next is evaluated: the first variables hold 50 then, and no other is stored
abbrev holding : List ℤ → State
holding variables = state variables unsent

both_stored : outcome (operator 5 add (keeps 0) (keeps 1)) ≡ done (number (pos 100)) (holding (pos 50 ∷ pos 50 ∷ replicate 14 mark))
unfolding opened
both_stored = refl

three-stored : outcome (mux (keeps 0) (keeps 1) (keeps 2)) ≡ done (number (pos 50)) (holding (pos 50 ∷ pos 50 ∷ pos 50 ∷ replicate 13 mark))
unfolding opened
three-stored = refl

five-stored : outcome (call (keeps 4) (keeps 0) (keeps 1) (keeps 2) (keeps 3)) ≡ done (number (pos 50)) (holding (pos 50 ∷ pos 50 ∷ pos 50 ∷ pos 50 ∷ pos 50 ∷ replicate 11 mark))
unfolding opened
five-stored = refl

-- and the next finds it (the check lets no program read a variable there): the right side, a mux's condition, the last argument, a definition's body,
-- a rep behind its initial part
next-finds : (outcome (operator 5 sub (keeps 0) (variable 5 0)) ≡ done (number (pos 0)) (holding (pos 50 ∷ replicate 15 mark)))
    × (outcome (mux (operator 5 eq (variable 5 0) (number_of 50)) (keeps 0) (number_of 8)) ≡ done (number (pos 50)) (holding (pos 50 ∷ replicate 15 mark)))
    × (outcome (mux (operator 5 eq (variable 5 0) (number_of 50)) (number_of 7) (keeps 0)) ≡ done (number (pos 7)) (holding (pos 50 ∷ replicate 15 mark)))
    × (outcome (call (parameter 6 3) (keeps 0) nothing nothing (variable 5 0)) ≡ done (number (pos 50)) (holding (pos 50 ∷ replicate 15 mark)))
    × (outcome (call (variable 5 0) nothing nothing nothing (keeps 0)) ≡ done (number (pos 50)) (holding (pos 50 ∷ replicate 15 mark)))
    × (outcome (rep 0 (keeps 0) (number_of 7)) ≡ done (number (pos 7)) (holding (pos 7 ∷ replicate 15 mark)))
unfolding opened
next-finds = (refl, refl, refl, refl, refl, refl)
