-- Which trees are spatial and what a tree costs, for every kind and operand, by computation. Assumes nothing.
use mathlib.Core.Path.{◌≡◌, refl}
use mathlib.Core.Bool.{true, false}
use mathlib.Core.List.{[], ◌∷◌, map}
use lib.ListN.{replicate}
use lib.IntN.{pos}
use Rattle.number.specs.Number.{add}
use Rattle.program.specs.Tree.{Expr, nothing, constant, parameter, variable, operator, sense, rep, branch, mux, nbr, range, fold_op, fold_def, call, spatial, cost}
use Rattle.program.proofs.Shown.{opened}

abbrev n : Expr
n = constant (pos 3)

-- spatial
abbrev s : Expr
s = range 1

-- "A definition is spatial if its tree holds rep, nbr, nbr-range or a call to a spatial one."
holds-one : map spatial (rep 0 n n ∷ nbr 1 n ∷ range 1 ∷ call (rep 0 n n) n n n n ∷ call (call s n n n n) n n n n ∷ []) ≡ replicate 5 true
unfolding opened
holds-one = refl

-- further down: each operand of each kind
further-down : map spatial (
    operator 0 add s n ∷ operator 0 add n s ∷ sense s ∷ branch s n n ∷ branch n s n ∷ branch n n s ∷ mux s n n ∷ mux n s n ∷ mux n n s ∷ fold_op 0 add s n ∷ fold_op 0 add n s
    ∷ fold_def n s n ∷ fold_def n n s ∷ call n s n n n ∷ call n n s n n ∷ call n n n s n ∷ call n n n n s ∷ [])
    ≡ replicate 17 true
unfolding opened
further-down = refl

-- all else is not; a fold by a spatial definition is no call (D17)
holds-none : map spatial (
    nothing ∷ n ∷ parameter 0 1 ∷ variable 0 1 ∷ operator 0 add n n ∷ sense n ∷ branch n n n ∷ mux n n n ∷ fold_op 0 add n n ∷ fold_def n n n ∷ fold_def s n n ∷ call n n n n n
    ∷ call n nothing nothing nothing nothing ∷ [])
    ≡ replicate 13 false
unfolding opened
holds-none = refl

-- costs 1, 2, 4, 8, 16
abbrev c2 : Expr
c2 = sense n

abbrev c4 : Expr
c4 = sense (sense c2)

abbrev c8 : Expr
c8 = mux c2 c4 n

abbrev c16 : Expr
c16 = operator 0 add c8 (sense (mux c2 n c2))

-- "Cost of a node: 1 plus its children's, plus the body's for a call, plus 15 times the body's for kind 11."
leaves-cost : map cost (n ∷ parameter 0 1 ∷ variable 0 1 ∷ range 1 ∷ []) ≡ replicate 4 1
unfolding opened
leaves-cost = refl

operands-cost : map cost (c2 ∷ c4 ∷ c8 ∷ c16 ∷ operator 0 add c2 c4 ∷ sense c4 ∷ rep 0 c2 c4 ∷ branch c2 c4 c8 ∷ mux c2 c4 c8 ∷ nbr 1 c4 ∷ fold_op 0 add c2 c4 ∷ [])
    ≡ 2 ∷ 4 ∷ 8 ∷ 16 ∷ 7 ∷ 5 ∷ 7 ∷ 15 ∷ 15 ∷ 5 ∷ 7 ∷ []
unfolding opened
operands-cost = refl

-- a definition's body counts once for a call and 15 times for kind 11; a call has no cost for arguments that it does not have
body-costs : map cost (call c16 n c2 c4 c8 ∷ call c16 nothing nothing nothing nothing ∷ fold_def n c2 c4 ∷ fold_def c16 c2 c4 ∷ []) ≡ 32 ∷ 17 ∷ 22 ∷ 247 ∷ []
unfolding opened
body-costs = refl
