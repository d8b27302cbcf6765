-- Which parameters and variables are misread, in every kind of node, by computation. Assumes nothing.
use mathlib.Core.Path.{◌≡◌, refl}
use mathlib.Core.List.{List, [], ◌∷◌, map}
use Prim.Native.Nat.{ℕ}
use lib.ListN.{replicate}
use lib.IntN.{pos}
use Rattle.number.specs.Number.{add}
use Rattle.program.specs.Tree.{Expr, nothing, constant, parameter, variable, operator, sense, rep, branch, mux, nbr, range, fold_op, fold_def, call, misread}
use Rattle.program.proofs.Shown.{opened}

-- in main: no parameter, under no update
abbrev in-main : Expr → List ℕ
in-main e = misread 0 [] e

-- variable 0, read at node k
abbrev x : ℕ → Expr
x k = variable k 0

abbrev n : Expr
n = constant (pos 3)

-- "parameter not below its tree's count (main 0)"
parameters : (map (misread 2 []) (parameter 9 0 ∷ parameter 9 1 ∷ parameter 9 2 ∷ parameter 9 3 ∷ []) ≡ [] ∷ [] ∷ (9 ∷ []) ∷ (9 ∷ []) ∷ [])
    × (in-main (parameter 9 0) ≡ 9 ∷ []) × (misread 4 [] (parameter 9 3) ≡ [])
unfolding opened
parameters = (refl, refl, refl)

-- "A variable is read only under the update of its rep, in the same tree.": its root is under the update (D5)
under-the-update : map in-main (rep 0 n (x 9) ∷ rep 0 n (operator 1 add (x 9) n) ∷ rep 0 n (rep 1 (x 9) n) ∷ rep 0 n (rep 1 n (x 9))
    ∷ rep 1 n (rep 0 n (operator 1 add (x 9) (variable 8 1))) ∷ []) ≡ replicate 5 []
unfolding opened
under-the-update = refl

-- not its own initial part, beside the rep, under another's update, or in a definition called under the update: there its definition's tree is looked at by itself
not-under-it : map in-main (x 9 ∷ rep 0 (x 9) n ∷ operator 1 add (rep 0 n n) (x 9) ∷ operator 1 add (x 9) (rep 0 n n) ∷ rep 1 n (x 9) ∷ rep 1 (rep 0 n n) (x 9)
    ∷ rep 1 n (operator 1 add (rep 0 n n) (x 9)) ∷ []) ≡ replicate 7 (9 ∷ [])
unfolding opened
not-under-it = refl

definitions-by-themselves : map in-main (call (x 9) n n n n ∷ call (parameter 9 0) n n n n ∷ fold_def (x 9) n (range 1) ∷ rep 0 n (call (x 9) n n n n) ∷ []) ≡ replicate 4 []
unfolding opened
definitions-by-themselves = refl

-- leaves that read nothing
nothing_read : map in-main (nothing ∷ n ∷ range 1 ∷ []) ≡ replicate 3 []
unfolding opened
nothing_read = refl

-- each operand of each kind
everywhere : map in-main (
    operator 0 add (x 1) (x 2) ∷ sense (x 1) ∷ rep 1 (x 1) (x 2) ∷ branch (x 1) (x 2) (x 3) ∷ mux (x 1) (x 2) (x 3) ∷ nbr 1 (x 1) ∷ fold_op 0 add (x 1) (x 2) ∷ fold_def n (x 1) (x 2)
    ∷ call n (x 1) (x 2) (x 3) (x 4) ∷ [])
    ≡ (1 ∷ 2 ∷ []) ∷ (1 ∷ []) ∷ (1 ∷ 2 ∷ []) ∷ (1 ∷ 2 ∷ 3 ∷ []) ∷ (1 ∷ 2 ∷ 3 ∷ []) ∷ (1 ∷ []) ∷ (1 ∷ 2 ∷ []) ∷ (1 ∷ 2 ∷ []) ∷ (1 ∷ 2 ∷ 3 ∷ 4 ∷ []) ∷ []
unfolding opened
everywhere = refl

-- the tree's count and the update's variable reach each operand of each kind
abbrev p : Expr
p = operator 1 add (parameter 8 1) (x 9)

reached : map (λ e. misread 2 [] (rep 0 n e)) (
    p ∷ operator 0 add p p ∷ sense p ∷ rep 1 p p ∷ branch p p p ∷ mux p p p ∷ nbr 1 p ∷ fold_op 0 add p p ∷ fold_def n p p ∷ call n p p p p ∷ [])
    ≡ replicate 10 []
unfolding opened
reached = refl
