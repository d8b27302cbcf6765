-- What holds of one definition, slot, variable, node or operator holds of the second, the third and each of them, by computation. Assumes nothing.
use mathlib.Core.Path.{◌≡◌, refl}
use mathlib.Core.Bool.{true, false}
use mathlib.Core.List.Memᴰ
use mathlib.Core.List.{List, [], ◌∷◌, ◌++◌, map}
use Prim.Native.Nat.{ℕ}
use lib.ListN.{replicate}
use lib.IntN.{pos}
use Rattle.number.specs.Number.{Operator, add, sub, mul, div, lt, gt, ge, eq, ne}
use Rattle.program.specs.Tree.{Expr, constant, parameter, variable, operator, sense, rep, branch, mux, nbr, range, fold_op, fold_def, call, is_field, sort_broken, misread, spatial, cost}
use Rattle.program.specs.Sorts.{a_field, HasSort, T-constant, T-fieldLeft, T-nbr, T-range}
use Rattle.program.specs.Spatial.{Spatial, X-rep, X-left, X-range}
use Rattle.program.specs.Scope.{Scoped, S-variable, S-operator}
use Rattle.program.specs.Check.{check}
use Rattle.program.proofs.Shown.{opened, field, node, define, main, number, behind}

abbrev var : List ℕ
var = node (2 ∷ 0 ∷ [])

abbrev par : ℕ → List ℕ
par p = node (1 ∷ p ∷ [])

abbrev plus : ℕ → ℕ → List ℕ
plus l r = node (3 ∷ 0 ∷ l ∷ r ∷ [])

abbrev ranged : ℕ → List ℕ
ranged i = node (9 ∷ i ∷ [])

abbrev keeping : ℕ → ℕ → ℕ → List ℕ
keeping v i u = node (5 ∷ v ∷ i ∷ u ∷ [])

-- "parameter not below its tree's count (main 0)": each tree by its own definition's count, main by none
counts : map check (
    (number 0 ++ define 0 0 ++ par 0 ++ define 1 1 ++ number 0 ++ main 2) ∷ (number 0 ++ define 2 0 ++ par 1 ++ define 1 1 ++ number 0 ++ main 2) ∷ (number 0 ++ define 2 0 ++ par 0 ++ main 1) ∷ [])
    ≡ (0, 0) ∷ (8, 1) ∷ (8, 1) ∷ []
unfolding opened
counts = refl

abbrev n : Expr
n = constant (pos 3)

abbrev p : ℕ → Expr
p k = parameter k 1

-- at each operand of each kind
everywhere : map (misread 1 []) (
    operator 0 add (p 1) (p 2) ∷ sense (p 1) ∷ rep 1 (p 1) (p 2) ∷ branch (p 1) (p 2) (p 3) ∷ mux (p 1) (p 2) (p 3) ∷ nbr 1 (p 1) ∷ fold_op 0 add (p 1) (p 2) ∷ fold_def n (p 1) (p 2)
    ∷ call n (p 1) (p 2) (p 3) (p 4) ∷ [])
    ≡ (1 ∷ 2 ∷ []) ∷ (1 ∷ []) ∷ (1 ∷ 2 ∷ []) ∷ (1 ∷ 2 ∷ 3 ∷ []) ∷ (1 ∷ 2 ∷ 3 ∷ []) ∷ (1 ∷ []) ∷ (1 ∷ 2 ∷ []) ∷ (1 ∷ 2 ∷ []) ∷ (1 ∷ 2 ∷ 3 ∷ 4 ∷ []) ∷ []
unfolding opened
everywhere = refl

-- "only under the update of its rep": three reps deep; the last variable
deep : map (misread 0 []) (rep 0 n (rep 1 n (rep 2 n (variable 9 0))) ∷ rep 15 n (variable 9 15) ∷ []) ≡ replicate 2 []
unfolding opened
deep = refl

-- "Each node is named exactly once, each slot by one nbr or nbr-range, each variable by one rep": by any node before, by any definition, twice in one call
taken : map behind (
    (node (4 ∷ 3 ∷ []) ++ node (4 ∷ 4 ∷ []) ++ node (4 ∷ 3 ∷ [])) ∷ (ranged 1 ++ ranged 2 ++ ranged 1) ∷ (ranged 1 ++ ranged 2 ++ ranged 2)
    ∷ (keeping 1 3 4 ++ keeping 2 5 6 ++ keeping 1 7 8) ∷ (keeping 1 3 4 ++ keeping 2 5 6 ++ keeping 2 7 8) ∷ [])
    ≡ replicate 5 (5, 12)
unfolding opened
taken = refl

taken-at-once : map behind (node (4 ∷ 1 ∷ []) ∷ node (4 ∷ 2 ∷ []) ∷ define 0 1 ∷ define 0 2 ∷ main 1 ∷ main 2 ∷ node (12 ∷ 0 ∷ 3 ∷ 3 ∷ []) ∷ []) ≡ replicate 7 (5, 10)
unfolding opened
taken-at-once = refl

-- "a byte .. out of its range": far beyond it, and where the low bits are in range
far-out : map (λ s. behind (node s)) (
    (1 ∷ 255 ∷ []) ∷ (2 ∷ 32 ∷ []) ∷ (2 ∷ 255 ∷ []) ∷ (3 ∷ 10 ∷ 3 ∷ 4 ∷ []) ∷ (3 ∷ 255 ∷ 3 ∷ 4 ∷ []) ∷ (5 ∷ 32 ∷ 3 ∷ 4 ∷ []) ∷ (8 ∷ 17 ∷ 3 ∷ []) ∷ (9 ∷ 17 ∷ []) ∷ (9 ∷ 255 ∷ []) ∷
    (10 ∷ 10 ∷ 3 ∷ 4 ∷ []) ∷ [])
    ≡ replicate 10 (3, 10)
unfolding opened
far-out = refl

-- "wrong length": by both bytes of it
length-258 : behind (1 ∷ 1 ∷ 2 ∷ 4 ∷ 3 ∷ replicate 256 0) ≡ (1, 10)
unfolding opened
length-258 = refl

-- "It may be called from one node": a call of another definition whose argument is node 0; a definition that is not spatial called twice with spatial arguments
calls : map check (
    (number 0 ++ number 0 ++ number 1 ++ keeping 0 1 2 ++ define 0 3 ++ par 0 ++ define 1 4 ++ node (12 ∷ 1 ∷ 0 ∷ []) ++ node (12 ∷ 0 ∷ []) ++ plus 5 6 ++ main 7)
    ∷ (par 0 ++ define 1 0 ++ number 0 ++ number 0 ++ keeping 0 1 2 ++ number 0 ++ number 0 ++ keeping 1 4 5 ++ node (12 ∷ 0 ∷ 3 ∷ []) ++ node (12 ∷ 0 ∷ 6 ∷ []) ++ plus 7 8 ++ main 9) ∷ [])
    ≡ replicate 2 (0, 0)
unfolding opened
calls = refl

-- "each row over all nodes", "lowest offending node": a fold below a call, a call below a fold; an operand below a body; a parameter and a variable, either lower
one-row : map check (
    (number 0 ++ define 3 0 ++ number 1 ++ ranged 1 ++ node (11 ∷ 0 ∷ 1 ∷ 2 ∷ []) ++ number 0 ++ number 0 ++ keeping 0 4 5 ++ define 0 6 ++ node (12 ∷ 1 ∷ []) ++ node (12 ∷ 1 ∷ []) ++
    plus 7 8 ++ plus 3 9 ++ main 10)
    ∷ (number 0 ++ number 0 ++ keeping 0 0 1 ++ define 0 2 ++ node (12 ∷ 0 ∷ []) ++ node (12 ∷ 0 ∷ []) ++ number 0 ++ define 3 5 ++ number 0 ++ ranged 1 ++ node (11 ∷ 1 ∷ 6 ∷ 7 ∷ []) ++
    plus 3 4 ++ plus 8 9 ++ main 10)
    ∷ (ranged 1 ++ node (4 ∷ 0 ∷ []) ++ ranged 2 ++ plus 1 2 ++ main 3) ∷ (par 0 ++ var ++ plus 0 1 ++ main 2) ∷ (var ++ par 0 ++ plus 0 1 ++ main 2) ∷ [])
    ≡ (9, 3) ∷ (9, 4) ∷ (7, 1) ∷ (8, 0) ∷ (8, 0) ∷ []
unfolding opened
one-row = refl

-- "Place, in order": a node unnamed before the trees; the first field that is refused, whatever stands behind it
in_order : (check (ranged 1 ++ number 0 ++ main 0) ≡ (6, 0)) × (behind (node (3 ∷ 0 ∷ 3 ∷ 3 ∷ []) ++ field 4 []) ≡ (5, 10)) × (behind (define 4 7 ++ 1 ∷ []) ≡ (4, 10))
unfolding opened
in_order = (refl, refl, refl)

abbrev operators : List Operator
operators = add ∷ sub ∷ mul ∷ div ∷ lt ∷ gt ∷ ge ∷ eq ∷ ne ∷ []

abbrev f : Expr
f = range 1

-- sorts, cost and spatial of every operator, and the rules for any operator, slot and variable
each-operator : (map (λ o. is_field (operator 0 o n f)) operators ≡ replicate 9 true) × (map (λ o. sort_broken (operator 0 o n f)) operators ≡ replicate 9 false)
    × (map (λ o. cost (operator 0 o n f)) operators ≡ replicate 9 3) × (map (λ o. spatial (operator 0 o n f)) operators ≡ replicate 9 true)
    × (map (λ o. sort_broken (fold_op 0 o n n)) operators ≡ replicate 9 true)
unfolding opened
each-operator = (refl, refl, refl, refl, refl)

left-field : {m : ℕ} {o : Operator} → HasSort (operator m o f n) a_field
left-field = T-fieldLeft T-range T-constant

each-slot : {i : ℕ} → HasSort (nbr i n) a_field
each-slot = T-nbr T-constant

each-rep : {v : ℕ} → Spatial (rep v n n)
each-rep = X-rep

spatial-left : {m : ℕ} {o : Operator} → Spatial (operator m o f n)
spatial-left = X-left X-range

scoped-sides : {m : ℕ} {o : Operator} → Scoped 0 (0 ∷ []) (operator m o (variable 9 0) (variable 9 0))
scoped-sides = S-operator (S-variable (Memᴰ.head refl)) (S-variable (Memᴰ.head refl))
