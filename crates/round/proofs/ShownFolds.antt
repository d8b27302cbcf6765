-- Folds and calls, by computation. Assumes nothing.
use mathlib.Core.Path.{◌≡◌, refl}
use mathlib.Core.List.{[], ◌∷◌, ◌++◌}
use mathlib.Core.Option.{none, some}
use Prim.Native.Nat.{ℕ}
use lib.ListN.{replicate}
use lib.IntN.{ℤ, pos}
use Rattle.number.specs.Number.{mark, inf, add, sub, mul, gt, div, Operator}
use Rattle.field.specs.Field.{Field, everywhere}
use Rattle.program.specs.Tree.{Expr, nothing, parameter, operator, sense, nbr, fold_op, fold_def, call}
use Rattle.round.specs.Round.{State, Outcome, then_number, on_numbers, number, done, fault, stored, folded}
use Rattle.round.proofs.ShownCells.{opened, number_of, divides, keeps, reads, unsent, state, start, outcome}

-- the field of slot 1, by the cells: device 1 with 7, device 3 with -1, device 16 with 0. It sends 5, and a fold of it gives n
abbrev heard : Expr
heard = nbr 1 (number_of 5)

abbrev gives : ℤ → Outcome
gives z = done (number z) (state (replicate 16 mark) (mark ∷ pos 5 ∷ replicate 14 mark))

abbrev by : Operator → ℕ → Outcome
by o n = outcome (fold_op 5 o (number_of n) heard)

-- "fold: f(so far, next), lowest device first": ((100 - 7) - -1) - 0; ((100 > 7) > -1) > 0, where the highest device first would give 0
by-operator : (by sub 100 ≡ gives (pos 94)) × (by gt 100 ≡ gives (pos 1))
unfolding opened
by-operator = (refl, refl)

-- 2 × (so far) - next: 193, 387, 774
abbrev twice : Expr
twice = operator 8 sub (operator 7 mul (number_of 2) (parameter 6 0)) (parameter 6 1)

by-definition : outcome (fold_def twice (number_of 100) heard) ≡ gives (pos 774)
unfolding opened
by-definition = refl

-- (so far) - 2 × next: 86, 88, 88
by-definition-too : outcome (fold_def (operator 8 sub (parameter 6 0) (operator 7 mul (number_of 2) (parameter 6 1))) (number_of 100) heard) ≡ gives (pos 88)
unfolding opened
by-definition-too = refl

-- a definition that is folded by finds the device's cells, and 0 in the parameters that it has not: 100 + 1 + 0 + 0 at each of three devices
definition-reads : outcome (fold_def (operator 8 add (operator 8 add (parameter 6 0) (sense (number_of 1))) (operator 8 add (parameter 6 2) (parameter 6 3))) (number_of 100) heard)
    ≡ gives (pos 103)
unfolding opened
definition-reads = refl

-- over no device a fold is its initial part: slot 4 was heard from nobody
over_none : (outcome (fold_op 5 div (number_of 100) (nbr 4 (number_of 5))) ≡ done (number (pos 100)) (state (replicate 16 mark) (replicate 4 mark ++ pos 5 ∷ replicate 11 mark)))
    × (outcome (fold_def (divides 3) (number_of 100) (nbr 4 (number_of 5))) ≡ done (number (pos 100)) (state (replicate 16 mark) (replicate 4 mark ++ pos 5 ∷ replicate 11 mark)))
unfolding opened
over_none = (refl, refl)

-- over one device: slot 15, heard from device 16 with 6
over-one : outcome (fold_op 5 sub (number_of 100) (nbr 15 (number_of 5))) ≡ done (number (pos 94)) (state (replicate 16 mark) (replicate 15 mark ++ pos 5 ∷ []))
unfolding opened
over-one = refl

abbrev sum : Expr
sum = operator 8 add (parameter 6 0) (parameter 6 1)

-- initial part and field are evaluated in the same cells, with the same parameters, and keep what they store and send: 11 + 7 - 1 + 0
operands : (outcome (fold_op 5 add (reads 0) (nbr 1 (reads 1))) ≡ done (number (pos 17)) (state (replicate 16 mark) (mark ∷ pos 21 ∷ replicate 14 mark)))
    × (outcome (fold_def sum (reads 0) (nbr 1 (reads 1))) ≡ done (number (pos 17)) (state (replicate 16 mark) (mark ∷ pos 21 ∷ replicate 14 mark)))
    × (outcome (fold_op 5 add (keeps 0) (nbr 1 (keeps 1))) ≡ done (number (pos 56)) (state (pos 50 ∷ pos 50 ∷ replicate 14 mark) (mark ∷ pos 50 ∷ replicate 14 mark)))
    × (outcome (fold_def sum (keeps 0) (nbr 1 (keeps 1))) ≡ done (number (pos 56)) (state (pos 50 ∷ pos 50 ∷ replicate 14 mark) (mark ∷ pos 50 ∷ replicate 14 mark)))
unfolding opened
operands = (refl, refl, refl, refl)

-- "17: the node that divided": in the third step, by operator the fold's node and in a definition the node there; in the first step, where so far - next is 0
divided : (by div 100 ≡ fault 5)
    × (outcome (fold_def (operator 8 div (parameter 6 0) (parameter 6 1)) (number_of 100) heard) ≡ fault 8)
    × (outcome (fold_def (operator 8 div (number_of 1) (operator 7 sub (parameter 6 0) (parameter 6 1))) (number_of 7) heard) ≡ fault 8)
unfolding opened
divided = (refl, refl, refl)

-- each step finds what the step before it stored (the check lets no fold store: kind 11 by a spatial definition is refused with 9)
steps-by-definition : outcome (fold_def (keeps 0) (number_of 100) heard) ≡ done (number (pos 60)) (state (pos 60 ∷ replicate 15 mark) (mark ∷ pos 5 ∷ replicate 14 mark))
unfolding opened
steps-by-definition = refl

steps : folded (λ x y s. done (number (pos 3)) (stored 0 y (stored 1 x s))) (none ∷ some (pos 7) ∷ some (pos 9) ∷ none ∷ []) (pos 5) start
    ≡ done (number (pos 3)) (state (pos 9 ∷ pos 3 ∷ replicate 14 mark) unsent)
unfolding opened
steps = refl

steps-faulted : folded (λ x y s. fault 3) (none ∷ some (pos 7) ∷ []) (pos 5) start ≡ fault 3
unfolding opened
steps-faulted = refl

-- "12 call: d, arguments": all four in their order, read as parameters 0 to 3: 1, 2, 3, 4 and 4, 3, 2, 1; 0 where there are fewer
abbrev ten-times : Expr → Expr → Expr
ten-times e f = operator 5 add (operator 5 mul (number_of 10) e) f

abbrev digits : Expr
digits = ten-times (ten-times (ten-times (parameter 6 0) (parameter 6 1)) (parameter 6 2)) (parameter 6 3)

arguments-in-order : (outcome (call digits (number_of 1) (number_of 2) (number_of 3) (number_of 4)) ≡ done (number (pos 1234)) start)
    × (outcome (call digits (number_of 1) (number_of 2) nothing nothing) ≡ done (number (pos 1200)) start)
    × (outcome (call digits nothing nothing nothing nothing) ≡ done (number (pos 0)) start)
unfolding opened
arguments-in-order = (refl, refl, refl)

-- a parameter is that of the innermost call around it: within a called definition its own, in an argument and behind the call the caller's
nested : (outcome (call (call digits (parameter 6 3) (parameter 6 2) (parameter 6 1) (parameter 6 0)) (number_of 1) (number_of 2) (number_of 3) (number_of 4)) ≡ done (number (pos 4321)) start)
    × (outcome (call (operator 5 sub (call digits (number_of 9) (parameter 6 0) nothing nothing) (parameter 6 0)) (number_of 1) nothing nothing nothing) ≡ done (number (pos 9099)) start)
    × (outcome (operator 5 add (call digits (number_of 1) nothing nothing nothing) (parameter 6 1)) ≡ done (number (pos 1020)) start)
unfolding opened
nested = (refl, refl, refl)

-- the arguments are evaluated in the same cells, with the caller's parameters; so is the body, with the arguments: 11, 21, 31, 41; 1 + 3
arguments-read : (outcome (call digits (reads 0) (reads 1) (reads 2) (reads 3)) ≡ done (number (pos 13451)) start)
    × (outcome (call (reads 2) (number_of 1) (number_of 2) (number_of 3) (number_of 4)) ≡ done (number (pos 4)) start)
unfolding opened
arguments-read = (refl, refl)

-- 17 names the node in the definition, and not the call
fault-in-definition : outcome (call (operator 8 div (number_of 1) (parameter 6 0)) (number_of 0) nothing nothing nothing) ≡ fault 8
unfolding opened
fault-in-definition = refl

-- as many steps as there are devices, all sixteen, and whatever the function, the number and the rest; also where inf comes on the way: 1 × inf × 0, 3 + inf
abbrev folding : Operator → Field → ℕ → Outcome
folding o f n = folded (λ x y s. on_numbers 5 o x y s) f (pos n) start

sixteen-steps : folding sub (everywhere (pos 1)) 100 ≡ done (number (pos 84)) start
unfolding opened
sixteen-steps = refl

any_step : (f : ℤ → ℤ → State → Outcome) (y x : ℤ) (g : Field) (s : State)
    → (folded f (some y ∷ g) x s ≡ then_number (f x y s) (λ z u. folded f g z u)) × (folded f (none ∷ g) x s ≡ folded f g x s)
unfolding opened
any_step f y x g s = (refl, refl)

steps-with-inf : (folding mul (some inf ∷ some (pos 0) ∷ []) 1 ≡ done (number (pos 0)) start) × (folding add (some inf ∷ []) 3 ≡ done (number inf) start)
unfolding opened
steps-with-inf = (refl, refl)
