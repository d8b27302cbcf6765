-- The rules of spatial trees and of scope at examples: what they derive, and what they do not. Assumes nothing.
use mathlib.Core.Path.{refl}
use mathlib.Core.Logic.{◌⊎◌, ⊎_elim}
use mathlib.Core.List.Memᴰ
use mathlib.Core.List.{List, [], ◌∷◌}
use Prim.Native.Nat.{ℕ}
use native.Mathlib.Omega.{arith}
use lib.IntN.{pos}
use Rattle.number.specs.Number.{add}
use Rattle.program.specs.Tree.{Expr, nothing, constant, parameter, variable, operator, sense, rep, branch, mux, nbr, range, fold_op, fold_def, call}
use Rattle.program.specs.Spatial.{Spatial, X-rep, X-nbr, X-range, X-called, X-left, X-right, X-sense, X-ifCondition, X-if_then, X-ifElse, X-muxCondition, X-muxThen}
use Rattle.program.specs.Spatial.{X-muxElse, X-foldInitial, X-foldField, X-foldByInitial, X-foldByField, X-first, X-second, X-third, X-fourth}
use Rattle.program.specs.Scope.{Scoped, S-nothing, S-constant, S-parameter, S-variable, S-operator, S-sense, S-rep, S-branch, S-mux, S-nbr, S-range, S-fold_op, S-fold_def, S-call}

abbrev n : Expr
n = constant (pos 3)

-- spatial
abbrev s : Expr
s = range 1

-- "A definition is spatial if its tree holds rep, nbr, nbr-range or a call to a spatial one."
holds-one : Spatial (rep 0 n n) × Spatial (nbr 1 n) × Spatial (range 1) × Spatial (call s n n n n)
holds-one = (X-rep, X-nbr, X-range, X-called X-range)

further-down : Spatial (operator 0 add s n) × Spatial (operator 0 add n s) × Spatial (sense s) × Spatial (branch s n n) × Spatial (branch n s n) × Spatial (branch n n s)
    × Spatial (mux s n n) × Spatial (mux n s n) × Spatial (mux n n s)
further-down = (X-left X-range, X-right X-range, X-sense X-range, X-ifCondition X-range, X-if_then X-range, X-ifElse X-range, X-muxCondition X-range, X-muxThen X-range, X-muxElse X-range)

in-folds-and-calls : Spatial (fold_op 0 add s n) × Spatial (fold_op 0 add n s) × Spatial (fold_def n s n) × Spatial (fold_def n n s) × Spatial (call n s n n n)
    × Spatial (call n n s n n) × Spatial (call n n n s n) × Spatial (call n n n n s)
in-folds-and-calls = (X-foldInitial X-range, X-foldField X-range, X-foldByInitial X-range, X-foldByField X-range, X-first X-range, X-second X-range, X-third X-range, X-fourth X-range)

-- all else is not
plain : Spatial n → ⊥
plain h = elim h [ ]

plain-leaves : (Spatial nothing → ⊥) × (Spatial (parameter 0 1) → ⊥) × (Spatial (variable 0 1) → ⊥)
plain-leaves = ((λ h. elim h [ ]), (λ h. elim h [ ]), (λ h. elim h [ ]))

plain-operator : Spatial (operator 0 add n n) → ⊥
plain-operator (X-left h) = plain h
plain-operator (X-right h) = plain h

plain-sense : Spatial (sense n) → ⊥
plain-sense (X-sense h) = plain h

plain-if : Spatial (branch n n n) → ⊥
plain-if (X-ifCondition h) = plain h
plain-if (X-if_then h) = plain h
plain-if (X-ifElse h) = plain h

plain-mux : Spatial (mux n n n) → ⊥
plain-mux (X-muxCondition h) = plain h
plain-mux (X-muxThen h) = plain h
plain-mux (X-muxElse h) = plain h

plain-fold : Spatial (fold_op 0 add n n) → ⊥
plain-fold (X-foldInitial h) = plain h
plain-fold (X-foldField h) = plain h

plain-call : Spatial (call n n n n n) → ⊥
plain-call (X-called h) = plain h
plain-call (X-first h) = plain h
plain-call (X-second h) = plain h
plain-call (X-third h) = plain h
plain-call (X-fourth h) = plain h

-- a fold by a spatial definition is no call (D17)
plain-fold-by : Spatial (fold_def s n n) → ⊥
plain-fold-by (X-foldByInitial h) = plain h
plain-fold-by (X-foldByField h) = plain h

-- "parameter not below its tree's count"
parameter-below : Scoped 2 [] (parameter 0 1) × Scoped 4 [] (parameter 0 3)
parameter-below = (S-parameter {p = 1} (omega arith), S-parameter {p = 3} (omega arith))

parameter-at-count : Scoped 2 [] (parameter 0 2) → ⊥
parameter-at-count (S-parameter h) = absurd (omega arith)

-- "A variable is read only under the update of its rep, in the same tree"
abbrev x : Expr
x = variable 9 0

abbrev kept : List ℕ
kept = 0 ∷ []

x-kept : Scoped 0 kept x
x-kept = S-variable (Memᴰ.head refl)

under-the-update : Scoped 0 [] (rep 0 n x) × Scoped 0 [] (rep 0 n (rep 1 x x)) × Scoped 0 [] (rep 1 n (rep 0 n (variable 8 1)))
under-the-update = (
  S-rep S-constant x-kept,
  S-rep S-constant (S-rep x-kept (S-variable (Memᴰ.tail (Memᴰ.head refl)))),
  S-rep S-constant (S-rep S-constant (S-variable (Memᴰ.tail (Memᴰ.head refl)))),
)

misread : Scoped 4 [] x → ⊥
misread (S-variable m) = Memᴰ.not-nil m

own-initial : Scoped 4 [] (rep 0 x n) → ⊥
own-initial (S-rep h k) = misread h

another-update : Scoped 4 [] (rep 1 n x) → ⊥
another-update (S-rep h (S-variable m)) = ⊎_elim (λ e. absurd (omega arith)) Memᴰ.not-nil (Memᴰ.cases_cons m)

-- each operand of each kind is under the update
reached : Scoped 0 kept (operator 0 add x x) × Scoped 0 kept (sense x) × Scoped 0 kept (branch x x x) × Scoped 0 kept (mux x x x) × Scoped 0 kept (nbr 1 x)
    × Scoped 0 kept (fold_op 0 add x x) × Scoped 0 kept (fold_def (variable 1 7) x x) × Scoped 0 kept (call (variable 1 7) x x x x)
reached = (
  S-operator x-kept x-kept,
  S-sense x-kept,
  S-branch x-kept x-kept x-kept,
  S-mux x-kept x-kept x-kept,
  S-nbr x-kept,
  S-fold_op x-kept x-kept,
  S-fold_def x-kept x-kept,
  S-call x-kept x-kept x-kept x-kept,
)

nothing_read : Scoped 0 [] nothing × Scoped 0 [] n × Scoped 0 [] (range 1)
nothing_read = (S-nothing, S-constant, S-range)

-- what a node of each kind asks of each operand: the same count and the same variables; a definition's tree is not looked at
operator-sides : {l r : Expr} → Scoped 4 [] (operator 0 add l r) → Scoped 4 [] l × Scoped 4 [] r
operator-sides (S-operator h j) = (h, j)

sense-operand : {e : Expr} → Scoped 4 [] (sense e) → Scoped 4 [] e
sense-operand (S-sense h) = h

if-operands : {c a b : Expr} → Scoped 4 [] (branch c a b) → Scoped 4 [] c × Scoped 4 [] a × Scoped 4 [] b
if-operands (S-branch h i j) = (h, i, j)

mux-operands : {c a b : Expr} → Scoped 4 [] (mux c a b) → Scoped 4 [] c × Scoped 4 [] a × Scoped 4 [] b
mux-operands (S-mux h i j) = (h, i, j)

nbr-operand : {e : Expr} → Scoped 4 [] (nbr 1 e) → Scoped 4 [] e
nbr-operand (S-nbr h) = h

fold-operands : {i g : Expr} → Scoped 4 [] (fold_op 0 add i g) → Scoped 4 [] i × Scoped 4 [] g
fold-operands (S-fold_op h j) = (h, j)

fold-by-operands : {d i g : Expr} → Scoped 4 [] (fold_def d i g) → Scoped 4 [] i × Scoped 4 [] g
fold-by-operands (S-fold_def h j) = (h, j)

arguments : {d a b c e : Expr} → Scoped 4 [] (call d a b c e) → Scoped 4 [] a × Scoped 4 [] b × Scoped 4 [] c × Scoped 4 [] e
arguments (S-call h i j l) = (h, i, j, l)
