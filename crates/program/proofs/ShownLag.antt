-- L2: "Node kind 13 carries a slot, sends 0, and gives a field of ages .. It counts as spatial.": the refusal rows of a node of kind 13, its tree, its sort and its cost, by
-- computation. Assumes nothing.
use mathlib.Core.Path.{◌≡◌, refl}
use mathlib.Core.Bool.{true, false}
use mathlib.Core.List.{List, [], ◌∷◌, ◌++◌, map}
use Prim.Native.Nat.{ℕ, ◌+◌, ◌≤◌}
use native.Mathlib.Omega.{arith}
use lib.ListN.{replicate}
use lib.IntN.{pos}
use Rattle.number.specs.Number.{add}
use Rattle.program.specs.Table.{first_of, node_rows}
use Rattle.program.specs.Tree.{constant, operator, sense, lag, fold_op, call, is_field, sort_broken, misread, spatial, cost}
use Rattle.program.specs.Sorts.{Sort, a_number, a_field, HasSort, T-constant, T-lag, T-sense, T-fold_op}
use Rattle.program.specs.Scope.{Scoped, S-lag}
use Rattle.program.specs.Spatial.{Spatial, X-lag, X-left}
use Rattle.program.specs.Conditions.{node as a_node, Meets}
use Rattle.program.specs.Check.{check, main_of}
use Rattle.program.proofs.Shown.{opened, node, define, main, number, behind, pass}
use Rattle.program.proofs.ShownLimits.{holding}

-- nodes of the kinds that have a slot, nbr with its child
abbrev near : ℕ → ℕ → List ℕ
near i k = node (8 ∷ i ∷ k ∷ [])

abbrev ranged : ℕ → List ℕ
ranged i = node (9 ∷ i ∷ [])

abbrev lagged : ℕ → List ℕ
lagged i = node (13 ∷ i ∷ [])

-- "carries a slot", 1 to 15, and nothing else
each-slot : map (λ i. behind (lagged i)) (1 ∷ 2 ∷ 3 ∷ 4 ∷ 5 ∷ 6 ∷ 7 ∷ 8 ∷ 9 ∷ 10 ∷ 11 ∷ 12 ∷ 13 ∷ 14 ∷ 15 ∷ []) ≡ replicate 15 pass
unfolding opened
each-slot = refl

-- 1: "wrong length", whatever the bytes would be refused with
wrong-length : map (λ s. behind (node s)) ((13 ∷ []) ∷ (13 ∷ 1 ∷ 3 ∷ []) ∷ (13 ∷ 0 ∷ 3 ∷ []) ∷ (13 ∷ 16 ∷ 7 ∷ []) ∷ (13 ∷ 1 ∷ 0 ∷ 0 ∷ 0 ∷ []) ∷ []) ≡ replicate 5 (1, 10)
unfolding opened
wrong-length = refl

-- 2: "257th node", before length and range
node-257 : (map (λ s. first_of (node_rows (holding 256) 13 s)) ((1 ∷ []) ∷ (0 ∷ []) ∷ [] ∷ []) ≡ replicate 3 2) × (map (λ s. first_of (node_rows (holding 255) 13 s)) ((1 ∷ []) ∷ (0 ∷ []) ∷ [] ∷ [])
    ≡ 0 ∷ 3 ∷ 1 ∷ [])
unfolding opened holding
node-257 = (refl, refl)

-- 3: "a byte .. out of its range": beside it, far beyond it, and where the low bits are in range. "unknown kind": the next one
out_of_range : (map (λ i. behind (lagged i)) (0 ∷ 16 ∷ 17 ∷ 32 ∷ 128 ∷ 255 ∷ []) ≡ replicate 6 (3, 10)) × (behind (node (14 ∷ 1 ∷ [])) ≡ (3, 10))
unfolding opened
out_of_range = (refl, refl)

-- 4: "names what is not yet given": its slot is no node's number, and its own number is given from the field behind it on
given : map behind (
    lagged 7 ∷ (lagged 15 ++ define 0 7) ∷ (lagged 1 ++ node (4 ∷ 7 ∷ [])) ∷ define 0 7 ∷ (define 0 8 ++ lagged 1) ∷ (lagged 1 ++ define 0 8) ∷ [])
    ≡ pass ∷ pass ∷ pass ∷ (4, 10) ∷ (4, 10) ∷ (4, 11) ∷ []
unfolding opened
given = refl

-- 5: "node, slot or variable taken already": its slot by an nbr, an nbr-range or an nbr-lag before it, theirs by it, with others between
slot-taken : map behind (
    (near 1 3 ++ lagged 1) ∷ (lagged 1 ++ near 1 3) ∷ (ranged 1 ++ lagged 1) ∷ (lagged 1 ++ ranged 1) ∷ (lagged 1 ++ lagged 1) ∷ (lagged 15 ++ lagged 15) ∷ [])
    ≡ replicate 6 (5, 11)
unfolding opened
slot-taken = refl

slot-taken-further : map behind (
    (near 1 3 ++ ranged 2 ++ lagged 1) ∷ (lagged 1 ++ lagged 2 ++ ranged 1) ∷ (lagged 1 ++ lagged 2 ++ near 2 3) ∷ (ranged 1 ++ lagged 2 ++ lagged 1) ∷ [])
    ≡ replicate 4 (5, 12)
unfolding opened
slot-taken-further = refl

-- another slot is free, and so is the slot with the number of a variable, of a parameter or of a node that is taken
slot-free : map behind (
    (near 1 3 ++ ranged 2 ++ lagged 3) ∷ (lagged 1 ++ ranged 2 ++ near 3 3) ∷ (lagged 1 ++ node (5 ∷ 1 ∷ 3 ∷ 4 ∷ [])) ∷ (node (5 ∷ 1 ∷ 3 ∷ 4 ∷ []) ++ lagged 1) ∷ (node (4 ∷ 3 ∷ []) ++ lagged 3)
    ∷ (lagged 3 ++ node (4 ∷ 3 ∷ [])) ∷ [])
    ≡ replicate 6 pass
unfolding opened
slot-free = refl

-- and the node itself is named once
node-taken : behind (lagged 1 ++ node (10 ∷ 0 ∷ 3 ∷ 7 ∷ []) ++ node (10 ∷ 0 ∷ 4 ∷ 7 ∷ [])) ≡ (5, 12)
unfolding opened
node-taken = refl

-- the sum, from 0, over the field of the node before, of which this is node k + 2
abbrev summed : ℕ → List ℕ
summed k = number 0 ++ node (10 ∷ 0 ∷ (1 + k) ∷ k ∷ [])

-- accepted, by itself, beside an nbr-range in an operator, and as a branch beside it
accepted : map check (
    (lagged 1 ++ summed 0 ++ main 2) ∷ (lagged 15 ++ ranged 2 ++ node (3 ∷ 0 ∷ 0 ∷ 1 ∷ []) ++ summed 2 ++ main 4)
    ∷ (number 1 ++ lagged 7 ++ ranged 2 ++ node (6 ∷ 0 ∷ 1 ∷ 2 ∷ []) ++ summed 3 ++ main 5) ∷ [])
    ≡ replicate 3 (0, 0)
unfolding opened
accepted = refl

-- 6: "node unnamed"
unnamed : check (lagged 1 ++ number 0 ++ main 1) ≡ (6, 0)
unfolding opened
unnamed = refl

-- 7: it is a field: not main, no definition's body
no_body : map check ((lagged 7 ++ main 0) ∷ (number 0 ++ lagged 15 ++ define 0 1 ++ main 0) ∷ []) ≡ (7, 0) ∷ (7, 1) ∷ []
unfolding opened
no_body = refl

-- nor an operand that must be a number: of a sense, an nbr, a fold, a fold by definition (the initial part, beside a field) and a call
no-operand-alone : map check (
    (lagged 7 ++ node (4 ∷ 0 ∷ []) ++ main 1) ∷ (lagged 1 ++ near 2 0 ++ summed 1 ++ main 3) ∷ (lagged 15 ++ ranged 2 ++ node (10 ∷ 0 ∷ 0 ∷ 1 ∷ []) ++ main 2)
    ∷ (number 0 ++ define 2 0 ++ lagged 7 ++ ranged 1 ++ node (11 ∷ 0 ∷ 1 ∷ 2 ∷ []) ++ main 3) ∷ (number 0 ++ define 1 0 ++ lagged 7 ++ node (12 ∷ 0 ∷ 1 ∷ []) ++ main 2) ∷ [])
    ≡ (7, 1) ∷ (7, 1) ∷ (7, 2) ∷ (7, 3) ∷ (7, 2) ∷ []
unfolding opened
no-operand-alone = refl

-- a node of kind 6 or 7 as node 3, with the lag of slot 7, node 0, as one of its operands
abbrev beside : ℕ → ℕ → ℕ → ℕ → List ℕ
beside kind a b c = lagged 7 ++ number 0 ++ number 1 ++ node (kind ∷ a ∷ b ∷ c ∷ []) ++ main 3

-- nor of a rep, as either part, of an if, as its condition or as one branch beside a number, nor of a mux
no_operand : map check (
    (lagged 7 ++ number 0 ++ node (5 ∷ 0 ∷ 0 ∷ 1 ∷ []) ++ main 2) ∷ (lagged 7 ++ number 0 ++ node (5 ∷ 0 ∷ 1 ∷ 0 ∷ []) ++ main 2) ∷ beside 6 0 1 2 ∷ beside 6 1 0 2 ∷ beside 6 1 2 0
    ∷ beside 7 0 1 2 ∷ beside 7 1 0 2 ∷ beside 7 1 2 0 ∷ [])
    ≡ (7, 2) ∷ (7, 2) ∷ replicate 6 (7, 3)
unfolding opened
no_operand = refl

-- 8: it reads no parameter and no variable, whatever its slot, also where a variable has that number: under a rep's update, in a definition
nothing-misread : (map (misread 0 []) (lag 1 ∷ lag 15 ∷ []) ≡ replicate 2 []) × (map (misread 0 (1 ∷ 15 ∷ [])) (lag 1 ∷ lag 15 ∷ []) ≡ replicate 2 [])
    × (check (number 0 ++ lagged 1 ++ summed 1 ++ node (5 ∷ 1 ∷ 0 ∷ 3 ∷ []) ++ main 4) ≡ (0, 0)) × (check (lagged 3 ++ summed 0 ++ define 0 2 ++ node (12 ∷ 0 ∷ []) ++ main 3) ≡ (0, 0))
unfolding opened
nothing-misread = (refl, refl, refl, refl)

-- 9: "It counts as spatial.": a definition that sums lags may be called from one node and may not fold; nor may one be called twice that calls it
spatial-use : map check (
    (lagged 7 ++ summed 0 ++ define 0 2 ++ node (12 ∷ 0 ∷ []) ++ main 3)
    ∷ (lagged 7 ++ summed 0 ++ define 0 2 ++ node (12 ∷ 0 ∷ []) ++ node (12 ∷ 0 ∷ []) ++ node (3 ∷ 0 ∷ 3 ∷ 4 ∷ []) ++ main 5)
    ∷ (lagged 15 ++ summed 0 ++ define 2 2 ++ number 0 ++ ranged 2 ++ node (11 ∷ 0 ∷ 3 ∷ 4 ∷ []) ++ main 5)
    ∷ (lagged 7 ++ summed 0 ++ define 0 2 ++ node (12 ∷ 0 ∷ []) ++ define 0 3 ++ node (12 ∷ 1 ∷ []) ++ node (12 ∷ 1 ∷ []) ++ node (3 ∷ 0 ∷ 4 ∷ 5 ∷ []) ++ main 6) ∷ [])
    ≡ (0, 0) ∷ (9, 4) ∷ (9, 5) ∷ (9, 5) ∷ []
unfolding opened
spatial-use = refl

-- 10: it costs 1, whatever its slot
costs : map cost (lag 1 ∷ lag 15 ∷ fold_op 0 add (constant (pos 0)) (lag 7) ∷ []) ≡ 1 ∷ 1 ∷ 3 ∷ []
unfolding opened
costs = refl

-- its tree
trees : (main_of (lagged 7 ++ main 0) ≡ lag 7) × (main_of (lagged 7 ++ summed 0 ++ main 2) ≡ fold_op 2 add (constant (pos 0)) (lag 7))
unfolding opened
trees = (refl, refl)

-- the tests of trees and the rules, side by side
tests : (map is_field (lag 1 ∷ lag 15 ∷ []) ≡ replicate 2 true) × (map sort_broken (lag 1 ∷ lag 15 ∷ []) ≡ replicate 2 false) × (map spatial (lag 1 ∷ lag 15 ∷ []) ≡ replicate 2 true)
    × (spatial (call (fold_op 0 add (constant (pos 0)) (lag 1)) (constant (pos 1)) (constant (pos 2)) (constant (pos 3)) (constant (pos 4))) ≡ true)
unfolding opened
tests = (refl, refl, refl, refl)

rules : {i count : ℕ} {kept : List ℕ} → HasSort (lag i) a_field × Scoped count kept (lag i) × Spatial (lag i) × Spatial (operator 0 add (lag i) (constant (pos 0)))
    × HasSort (fold_op 0 add (constant (pos 0)) (lag i)) a_number
rules = (T-lag, S-lag, X-lag, X-left X-lag, T-fold_op T-constant T-lag)

alone : {k : Sort} → HasSort (lag 1) k → (k ≡ a_field)
alone T-lag = refl

no-sense : {k : Sort} → HasSort (sense (lag 1)) k → ⊥
no-sense (T-sense h) = elim h [ ]

-- "each slot by one nbr or nbr-range", or nbr-lag; main is no field: as conditions
slot_twice : Meets (a_node (record { kind = 13; values = 1 ∷ [] }) ∷ a_node (record { kind = 9; values = 1 ∷ [] }) ∷ []) 1 → ⊥
unfolding opened
slot_twice m = let h : 2 ≤ 1 = m.slot_once 1 in absurd (omega arith)

main-a-field : Meets (a_node (record { kind = 13; values = 1 ∷ [] }) ∷ []) 0 → ⊥
unfolding opened
main-a-field m = let h : HasSort (lag 1) a_number = m.main_sort in elim h [ ]
