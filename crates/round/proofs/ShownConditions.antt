-- If, mux and rep, by computation. Assumes nothing.
use mathlib.Core.Path.{◌≡◌, refl}
use mathlib.Core.List.{List, [], ◌∷◌, ◌++◌, map}
use Prim.Native.Nat.{ℕ}
use lib.ListN.{replicate}
use lib.IntN.{ℤ, pos}
use Rattle.number.specs.Number.{mark, floor, inf, add, eq}
use Rattle.program.specs.Tree.{Expr, constant, variable, operator, rep, branch, mux, nbr, range, fold_op}
use Rattle.round.specs.Round.{State, Outcome, number, done, fault}
use Rattle.round.proofs.ShownCells.{opened, neg, number_of, divides, keeps, reads, unsent, state, start, full, in-state, outcome}

abbrev gives : ℕ → Outcome
gives n = done (number (pos n)) start

-- "if, mux: condition 1 takes then, all else takes else": 1, then 0, 2, -1, inf
abbrev conditions : List ℤ
conditions = pos 1 ∷ pos 0 ∷ pos 2 ∷ neg 1 ∷ inf ∷ []

if-takes : map (λ z. outcome (branch (constant z) (number_of 7) (number_of 8))) conditions ≡ map gives (7 ∷ 8 ∷ 8 ∷ 8 ∷ 8 ∷ [])
unfolding opened
if-takes = refl

mux-takes : map (λ z. outcome (mux (constant z) (number_of 7) (number_of 8))) conditions ≡ map gives (7 ∷ 8 ∷ 8 ∷ 8 ∷ 8 ∷ [])
unfolding opened
mux-takes = refl

-- all three operands are evaluated in the same cells, with the same parameters: the condition is 11 = 11, then 11 = 12
abbrev is : ℕ → Expr
is n = operator 5 eq (reads 0) (number_of n)

operands : (outcome (branch (is 11) (reads 1) (reads 2)) ≡ gives 21)
    × (outcome (branch (is 12) (reads 1) (reads 2)) ≡ gives 31)
    × (outcome (mux (is 11) (reads 1) (reads 2)) ≡ gives 21)
    × (outcome (mux (is 12) (reads 1) (reads 2)) ≡ gives 31)
unfolding opened
operands = (refl, refl, refl, refl)

-- sends z in slot i and gives 0: nothing was heard in slot 9 or above but for slot 15
abbrev sends : ℕ → ℕ → Expr
sends i z = fold_op 0 add (number_of 0) (nbr i (number_of z))

abbrev sent-in-9 : ℕ → State
sent-in-9 z = state (replicate 16 mark) (replicate 9 mark ++ pos z ∷ replicate 6 mark)

-- "An if evaluates its condition and one branch.": a division by 0 or an nbr in the other does nothing
one-branch : (outcome (branch (number_of 1) (number_of 7) (divides 3)) ≡ gives 7) × (outcome (branch (number_of 0) (divides 3) (number_of 8)) ≡ gives 8)
    × (outcome (branch (number_of 1) (number_of 7) (sends 9 3)) ≡ gives 7)
    × (outcome (branch (number_of 0) (sends 9 3) (number_of 8)) ≡ gives 8)
unfolding opened
one-branch = (refl, refl, refl, refl)

-- the branch that is taken does: it divides, it sends
taken-branch : (outcome (branch (number_of 1) (divides 2) (number_of 8)) ≡ fault 2)
    × (outcome (branch (number_of 0) (number_of 7) (divides 3)) ≡ fault 3)
    × (outcome (branch (number_of 1) (sends 9 3) (number_of 8)) ≡ done (number (pos 0)) (sent-in-9 3))
    × (outcome (branch (number_of 0) (number_of 7) (sends 9 4)) ≡ done (number (pos 0)) (sent-in-9 4))
unfolding opened
taken-branch = (refl, refl, refl, refl)

-- a mux evaluates all three, whatever it takes
mux-evaluates-all : (outcome (mux (number_of 1) (number_of 7) (divides 3)) ≡ fault 3)
    × (outcome (mux (number_of 0) (divides 2) (number_of 8)) ≡ fault 2)
    × (outcome (mux (number_of 1) (number_of 7) (sends 9 3)) ≡ done (number (pos 7)) (sent-in-9 3))
    × (outcome (mux (number_of 0) (sends 9 3) (number_of 8)) ≡ done (number (pos 8)) (sent-in-9 3))
unfolding opened
mux-evaluates-all = (refl, refl, refl, refl)

abbrev storing : ℕ → ℤ → Outcome
storing n three = done (number (pos n)) (state (replicate 3 mark ++ three ∷ replicate 12 mark) unsent)

abbrev one_more : Expr
one_more = operator 5 add (variable 5 3) (number_of 1)

-- "with its variable absent it stores and answers that and skips the update"
first_round : (outcome (rep 3 (number_of 20) one_more) ≡ storing 20 (pos 20)) × (outcome (rep 3 (number_of 20) (divides 2)) ≡ storing 20 (pos 20))
    × (outcome (rep 3 (reads 0) one_more) ≡ storing 11 (pos 11))
unfolding opened
first_round = (refl, refl, refl)

-- "else it evaluates and stores the update": variable 3 held 5, or 0
abbrev later : ℤ → Expr → Outcome
later z e = in-state (state (replicate 3 mark ++ z ∷ replicate 12 mark) unsent) e

later-rounds : (later (pos 5) (rep 3 (number_of 20) one_more) ≡ storing 6 (pos 6)) × (later (pos 6) (rep 3 (number_of 20) one_more) ≡ storing 7 (pos 7))
    × (later (pos 0) (rep 3 (number_of 20) one_more) ≡ storing 1 (pos 1))
    × (later (pos 5) (rep 3 (number_of 20) (reads 1)) ≡ storing 21 (pos 21))
unfolding opened
later-rounds = (refl, refl, refl, refl)

-- "A rep evaluates its initial part every round": it sends and divides in the first round and later
initial-part : (outcome (rep 3 (sends 9 4) (divides 2)) ≡ done (number (pos 0)) (state (replicate 3 mark ++ pos 0 ∷ replicate 12 mark) (replicate 9 mark ++ pos 4 ∷ replicate 6 mark)))
    × (later (pos 5) (rep 3 (sends 9 4) one_more) ≡ done (number (pos 6)) (state (replicate 3 mark ++ pos 6 ∷ replicate 12 mark) (replicate 9 mark ++ pos 4 ∷ replicate 6 mark)))
    × (outcome (rep 3 (divides 1) one_more) ≡ fault 1)
    × (later (pos 5) (rep 3 (divides 1) one_more) ≡ fault 1)
unfolding opened
initial-part = (refl, refl, refl, refl)

-- the update sends too, and reps within it keep their variables
update-part : (later (pos 5) (rep 3 (sends 8 4) (sends 9 6)) ≡ done (number (pos 0)) (state (replicate 3 mark ++ pos 0 ∷ replicate 12 mark) (replicate 8 mark ++ pos 4 ∷ pos 6 ∷ replicate 6 mark)))
    × (later (pos 5) (rep 3 (number_of 20) (keeps 2)) ≡ done (number (pos 50)) (state (mark ∷ mark ∷ pos 50 ∷ pos 50 ∷ replicate 12 mark) unsent))
unfolding opened
update-part = (refl, refl)

-- a variable's value is what is stored
variables-read : map (λ v. in-state (state full unsent) (variable 5 v)) (0 ∷ 1 ∷ 14 ∷ 15 ∷ []) ≡ map (λ n. done (number (pos n)) (state full unsent)) (0 ∷ 1 ∷ 14 ∷ 15 ∷ [])
unfolding opened
variables-read = refl

-- "an if has its branches' one sort": an if of two fields is the field that is taken, and sends what that sends
if-of-fields : (outcome (branch (number_of 1) (nbr 1 (number_of 5)) (range 2)) ≡ outcome (nbr 1 (number_of 5)))
    × (outcome (branch (number_of 0) (nbr 1 (number_of 5)) (range 2)) ≡ outcome (range 2))
unfolding opened
if-of-fields = (refl, refl)

-- a variable that holds -1, floor or inf is not absent, and these are stored as they are
any-number-held : map (λ z. in-state (state (z ∷ replicate 15 mark) unsent) (rep 0 (number_of 20) (number_of 7))) (neg 1 ∷ floor ∷ inf ∷ [])
    ≡ replicate 3 (done (number (pos 7)) (state (pos 7 ∷ replicate 15 mark) unsent))
unfolding opened
any-number-held = refl

any-number-stored : map (λ z. outcome (rep 0 (constant z) (number_of 7))) (neg 1 ∷ floor ∷ inf ∷ []) ≡ map (λ z. done (number z) (state (z ∷ replicate 15 mark) unsent)) (neg 1 ∷ floor ∷ inf ∷ [])
unfolding opened
any-number-stored = refl
