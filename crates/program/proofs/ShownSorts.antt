-- Which nodes are fields and which have a wrong operand, for every kind and operand, by computation. Assumes nothing.
use mathlib.Core.Path.{◌≡◌, refl}
use mathlib.Core.Bool.{true, false}
use mathlib.Core.List.{[], ◌∷◌, map}
use lib.ListN.{replicate}
use lib.IntN.{pos}
use Rattle.number.specs.Number.{add}
use Rattle.program.specs.Tree.{Expr, nothing, constant, parameter, variable, operator, sense, rep, branch, mux, nbr, range, fold_op, fold_def, call, is_field, sort_broken}
use Rattle.program.proofs.Shown.{opened}

-- a number and a field
abbrev n : Expr
n = constant (pos 3)

abbrev f : Expr
f = nbr 1 n

-- "nbr and nbr-range are fields; an operator is a field if a side is; an if has its branches' one sort"
fields : map is_field (nbr 1 n ∷ range 1 ∷ operator 0 add n f ∷ operator 0 add f n ∷ operator 0 add f f ∷ branch n f f ∷ operator 0 add n (operator 1 add f n) ∷ []) ≡ replicate 7 true
unfolding opened
fields = refl

-- "all else is a number", whatever its operands are
numbers : map is_field (
    nothing ∷ n ∷ parameter 0 1 ∷ variable 0 1 ∷ operator 0 add n n ∷ sense f ∷ rep 0 f f ∷ branch n n n ∷ branch f n n ∷ mux f f f ∷ fold_op 0 add f f ∷ fold_def f f f ∷ call f f f f f ∷ [])
    ≡ replicate 13 false
unfolding opened
numbers = refl

-- "Operands are numbers except operator sides, if branches and a fold's third, which is a field."
unbroken : map sort_broken (
    nothing ∷ n ∷ parameter 0 1 ∷ variable 0 1 ∷ operator 0 add n n ∷ operator 0 add f n ∷ operator 0 add n f ∷ operator 0 add f f ∷ sense n ∷ rep 0 n n ∷ branch n n n ∷ branch n f f
    ∷ mux n n n ∷ nbr 1 n ∷ range 1 ∷ fold_op 0 add n f ∷ fold_def n n f ∷ fold_def f n f ∷ call n n n n n ∷ call f n n n n ∷ call n nothing nothing nothing nothing ∷ [])
    ≡ replicate 21 false
unfolding opened
unbroken = refl

-- each operand that may not be a field; branches of two sorts; a fold's third that is a number
broken : map sort_broken (
    sense f ∷ rep 0 f n ∷ rep 0 n f ∷ branch f n n ∷ branch f f f ∷ branch n f n ∷ branch n n f ∷ mux f n n ∷ mux n f n ∷ mux n n f ∷ nbr 1 f
    ∷ fold_op 0 add f f ∷ fold_op 0 add n n ∷ fold_op 0 add f n ∷ fold_def n f f ∷ fold_def n n n ∷ fold_def n f n ∷ call n f n n n ∷ call n n f n n ∷ call n n n f n ∷ call n n n n f ∷ [])
    ≡ replicate 21 true
unfolding opened
broken = refl

-- "The node that offends is the one whose operand is wrong": not one above it
only-there : map sort_broken (sense (sense f) ∷ operator 0 add (sense f) n ∷ rep 0 n (mux f n n) ∷ []) ≡ replicate 3 false
unfolding opened
only-there = refl
