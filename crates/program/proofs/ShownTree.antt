-- The tree of each kind of node, from the bytes of a program, by computation. Assumes nothing.
use mathlib.Core.Path.{◌≡◌, refl}
use mathlib.Core.List.{[], ◌∷◌, ◌++◌, map}
use Prim.Native.Nat.{ℕ}
use lib.IntN.{pos, neg_ℤ}
use Rattle.number.specs.Number.{inf, floor, mark, add, sub, mul, div, lt, gt, ge, eq, ne}
use Rattle.program.specs.Table.{Table}
use Rattle.program.specs.Tree.{Expr, nothing, constant, parameter, variable, operator, sense, rep, branch, mux, nbr, range, fold_op, fold_def, call, signed, trees, tree}
use Rattle.program.specs.Check.{main_of}
use Rattle.program.proofs.Shown.{opened, node, define, main, number}

abbrev n : ℕ → Expr
n k = constant (pos k)

-- "A number is a signed 32-bit whole number from -2,147,483,647 (called floor) to 2,147,483,647 (called inf). The mark -2,147,483,648 means absent."
signed-at-edges : map signed (0 ∷ 1 ∷ 0x7ffffffe ∷ 0x7fffffff ∷ 0x80000000 ∷ 0x80000001 ∷ 0xfffffffe ∷ 0xffffffff ∷ [])
    ≡ pos 0 ∷ pos 1 ∷ pos 2147483646 ∷ inf ∷ mark ∷ floor ∷ neg_ℤ (pos 2) ∷ neg_ℤ (pos 1) ∷ []
signed-at-edges = refl

-- "0 constant (4 bytes, high first, not the mark)"
constants : (main_of (node (0 ∷ 0x12 ∷ 0x34 ∷ 0x56 ∷ 0x78 ∷ []) ++ main 0) ≡ constant (pos 0x12345678)) × (main_of (node (0 ∷ 0xff ∷ 0xff ∷ 0xff ∷ 0xfb ∷ []) ++ main 0) ≡ constant (neg_ℤ (pos 5)))
    × (main_of (node (0 ∷ 0x80 ∷ 0 ∷ 0 ∷ 1 ∷ []) ++ main 0) ≡ constant floor) × (main_of (node (0 ∷ 0x7f ∷ 0xff ∷ 0xff ∷ 0xff ∷ []) ++ main 0) ≡ constant inf)
unfolding opened
constants = (refl, refl, refl, refl)

-- "1 parameter p (0–3) · 2 variable v (0–15)": they hold their node's number
leaves : (main_of (node (1 ∷ 3 ∷ []) ++ main 0) ≡ parameter 0 3) × (main_of (node (2 ∷ 15 ∷ []) ++ main 0) ≡ variable 0 15) × (main_of (node (9 ∷ 7 ∷ []) ++ main 0) ≡ range 7)
unfolding opened
leaves = (refl, refl, refl)

-- "3 operator o, left, right": node 2, whose right operand is the lower node
operators : main_of (number 10 ++ number 11 ++ node (3 ∷ 1 ∷ 1 ∷ 0 ∷ []) ++ main 2) ≡ operator 2 sub (n 11) (n 10)
unfolding opened
operators = refl

-- "Operators 0–8: + - × / < > >= == !=", of kinds 3 and 10
abbrev with-operator : ℕ → ℕ → Expr
with-operator kind o = main_of (number 10 ++ node (9 ∷ 1 ∷ []) ++ node (kind ∷ o ∷ 0 ∷ 1 ∷ []) ++ main 2)

operators-numbered : map (with-operator 3) (0 ∷ 1 ∷ 2 ∷ 3 ∷ 4 ∷ 5 ∷ 6 ∷ 7 ∷ 8 ∷ []) ≡ map (λ o. operator 2 o (n 10) (range 1)) (add ∷ sub ∷ mul ∷ div ∷ lt ∷ gt ∷ ge ∷ eq ∷ ne ∷ [])
unfolding opened
operators-numbered = refl

folds-numbered : map (with-operator 10) (0 ∷ 1 ∷ 2 ∷ 3 ∷ 4 ∷ 5 ∷ 6 ∷ 7 ∷ 8 ∷ []) ≡ map (λ o. fold_op 2 o (n 10) (range 1)) (add ∷ sub ∷ mul ∷ div ∷ lt ∷ gt ∷ ge ∷ eq ∷ ne ∷ [])
unfolding opened
folds-numbered = refl

-- "4 sense, child · 5 rep: v, initial, update · 6 if and 7 mux: condition, then, else · 8 nbr: slot 1–15, child · 10 fold by operator: o, initial, field"
others : (main_of (number 10 ++ define 0 0 ++ number 11 ++ node (4 ∷ 1 ∷ []) ++ main 2) ≡ sense (n 11))
    × (main_of (number 10 ++ number 11 ++ node (5 ∷ 9 ∷ 0 ∷ 1 ∷ []) ++ main 2) ≡ rep 9 (n 10) (n 11))
    × (main_of (number 10 ++ number 11 ++ number 12 ++ node (6 ∷ 1 ∷ 0 ∷ 2 ∷ []) ++ main 3) ≡ branch (n 11) (n 10) (n 12))
    × (main_of (number 10 ++ number 11 ++ number 12 ++ node (7 ∷ 1 ∷ 0 ∷ 2 ∷ []) ++ main 3) ≡ mux (n 11) (n 10) (n 12))
    × (main_of (number 10 ++ define 0 0 ++ number 11 ++ node (8 ∷ 9 ∷ 1 ∷ []) ++ main 2) ≡ nbr 9 (n 11))
    × (main_of (node (9 ∷ 1 ∷ []) ++ number 11 ++ node (10 ∷ 2 ∷ 1 ∷ 0 ∷ []) ++ main 2) ≡ fold_op 2 mul (n 11) (range 1))
unfolding opened
others = (refl, refl, refl, refl, refl, refl)

-- "11 fold by definition: d, initial, field · 12 call: d, arguments": two definitions, with the bodies 1 and 0; a call has no to four arguments
by-definition : (main_of (number 10 ++ number 11 ++ define 2 1 ++ define 2 0 ++ number 12 ++ node (9 ∷ 1 ∷ []) ++ node (11 ∷ 1 ∷ 2 ∷ 3 ∷ []) ++ main 4) ≡ fold_def (n 10) (n 12) (range 1))
    × (main_of (number 10 ++ number 11 ++ define 2 1 ++ define 2 0 ++ node (9 ∷ 1 ∷ []) ++ number 12 ++ node (11 ∷ 0 ∷ 3 ∷ 2 ∷ []) ++ main 4) ≡ fold_def (n 11) (n 12) (range 1))
unfolding opened
by-definition = (refl, refl)

calls : (main_of (number 10 ++ number 11 ++ define 0 1 ++ define 0 0 ++ node (12 ∷ 1 ∷ []) ++ main 2) ≡ call (n 10) nothing nothing nothing nothing)
    × (main_of (number 10 ++ number 11 ++ define 1 1 ++ define 0 0 ++ number 12 ++ node (12 ∷ 0 ∷ 2 ∷ []) ++ main 3) ≡ call (n 11) (n 12) nothing nothing nothing)
    × (main_of (number 10 ++ number 11 ++ define 1 1 ++ define 2 0 ++ number 12 ++ number 13 ++ node (12 ∷ 1 ∷ 3 ∷ 2 ∷ []) ++ main 4) ≡ call (n 10) (n 13) (n 12) nothing nothing)
    × (main_of (number 10 ++ define 3 0 ++ number 12 ++ number 13 ++ number 14 ++ node (12 ∷ 0 ∷ 3 ∷ 1 ∷ 2 ∷ []) ++ main 4) ≡ call (n 10) (n 14) (n 12) (n 13) nothing)
    × (main_of (number 10 ++ define 4 0 ++ number 12 ++ number 13 ++ number 14 ++ number 15 ++ node (12 ∷ 0 ∷ 4 ∷ 3 ∷ 2 ∷ 1 ∷ []) ++ main 5) ≡ call (n 10) (n 15) (n 14) (n 13) (n 12))
unfolding opened
calls = (refl, refl, refl, refl, refl)

-- "numbered from 0 by appearance": the trees of all nodes, in their order; definitions have numbers of their own
abbrev table : Table
table = record {
  nodes = record { kind = 1; values = 1 ∷ [] } ∷ record { kind = 2; values = 4 ∷ [] } ∷ record { kind = 3; values = 0 ∷ 0 ∷ 1 ∷ [] }
      ∷ record { kind = 12; values = 0 ∷ [] } ∷ record { kind = 10; values = 8 ∷ 3 ∷ 2 ∷ [] } ∷ [];
  definitions = record { count = 0; body = 2 } ∷ [];
}

all-trees : trees table
    ≡ parameter 0 1 ∷ variable 1 4 ∷ operator 2 add (parameter 0 1) (variable 1 4) ∷ call (operator 2 add (parameter 0 1) (variable 1 4)) nothing nothing nothing nothing
    ∷ fold_op 4 ne (call (operator 2 add (parameter 0 1) (variable 1 4)) nothing nothing nothing nothing) (operator 2 add (parameter 0 1) (variable 1 4)) ∷ []
unfolding opened
all-trees = refl

-- what a number that no node has stands for
no-tree : tree table 5 ≡ nothing
unfolding opened
no-tree = refl
