-- Where parameters and variables may stand, as rules. Definitions only: nothing is assumed.
use mathlib.Core.List.{List, ◌∷◌, Memᴰ}
use Rattle.std.specs.Prelude.{ℕ, ◌<◌, ℤ}
use Rattle.number.specs.Number.{Operator}
use Rattle.program.specs.Tree.{Expr, nothing, constant, parameter, variable, operator, sense, rep, branch, mux, nbr, range, lag, fold_op, fold_def, call}

-- "A variable is read only under the update of its rep, in the same tree", and a parameter is below the tree's count, as rules: kept are the variables
-- of the reps whose updates the expression stands under
pub data Scoped (count : ℕ) : List ℕ → Expr → Type 0 where
  S-nothing : {kept : List ℕ} → Scoped count kept nothing
  S-constant : {kept : List ℕ} {z : ℤ} → Scoped count kept (constant z)
  S-parameter : {kept : List ℕ} {n p : ℕ} → p < count → Scoped count kept (parameter n p)
  S-variable : {kept : List ℕ} {n v : ℕ} → Memᴰ v kept → Scoped count kept (variable n v)
  S-operator : {kept : List ℕ} {n : ℕ} {o : Operator} {l r : Expr} → Scoped count kept l → Scoped count kept r → Scoped count kept (operator n o l r)
  S-sense : {kept : List ℕ} {e : Expr} → Scoped count kept e → Scoped count kept (sense e)
  S-rep : {kept : List ℕ} {v : ℕ} {i u : Expr} → Scoped count kept i → Scoped count (v ∷ kept) u → Scoped count kept (rep v i u)
  S-branch : {kept : List ℕ} {c a b : Expr} → Scoped count kept c → Scoped count kept a → Scoped count kept b → Scoped count kept (branch c a b)
  S-mux : {kept : List ℕ} {c a b : Expr} → Scoped count kept c → Scoped count kept a → Scoped count kept b → Scoped count kept (mux c a b)
  S-nbr : {kept : List ℕ} {i : ℕ} {e : Expr} → Scoped count kept e → Scoped count kept (nbr i e)
  S-range : {kept : List ℕ} {i : ℕ} → Scoped count kept (range i)
  S-lag : {kept : List ℕ} {i : ℕ} → Scoped count kept (lag i)
  S-fold_op : {kept : List ℕ} {n : ℕ} {o : Operator} {i f : Expr} → Scoped count kept i → Scoped count kept f → Scoped count kept (fold_op n o i f)
  S-fold_def : {kept : List ℕ} {d i f : Expr} → Scoped count kept i → Scoped count kept f → Scoped count kept (fold_def d i f)
  S-call : {kept : List ℕ} {d a b c e : Expr} → Scoped count kept a → Scoped count kept b → Scoped count kept c → Scoped count kept e
      → Scoped count kept (call d a b c e)
