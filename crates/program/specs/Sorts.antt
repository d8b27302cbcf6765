-- Which expressions are numbers and which are fields, as rules. Definitions only: nothing is assumed.
use Rattle.std.specs.Prelude.{ℕ, ℤ}
use Rattle.number.specs.Number.{Operator}
use Rattle.program.specs.Tree.{Expr, nothing, constant, parameter, variable, operator, sense, rep, branch, mux, nbr, range, lag, fold_op, fold_def, call}

-- "Sorts: .." and "Operands are numbers except ..", as rules
pub data Sort : Type 0 where
  a_number a_field : Sort

pub data HasSort : Expr → Sort → Type 0 where
  T-nothing : HasSort nothing a_number
  T-constant : {z : ℤ} → HasSort (constant z) a_number
  T-parameter : {n p : ℕ} → HasSort (parameter n p) a_number
  T-variable : {n v : ℕ} → HasSort (variable n v) a_number
  T-numbers : {n : ℕ} {o : Operator} {l r : Expr} → HasSort l a_number → HasSort r a_number → HasSort (operator n o l r) a_number
  T-fieldLeft : {n : ℕ} {o : Operator} {l r : Expr} {k : Sort} → HasSort l a_field → HasSort r k → HasSort (operator n o l r) a_field
  T-fieldRight : {n : ℕ} {o : Operator} {l r : Expr} {k : Sort} → HasSort l k → HasSort r a_field → HasSort (operator n o l r) a_field
  T-sense : {e : Expr} → HasSort e a_number → HasSort (sense e) a_number
  T-rep : {v : ℕ} {i u : Expr} → HasSort i a_number → HasSort u a_number → HasSort (rep v i u) a_number
  T-branch : {c a b : Expr} {k : Sort} → HasSort c a_number → HasSort a k → HasSort b k → HasSort (branch c a b) k
  T-mux : {c a b : Expr} → HasSort c a_number → HasSort a a_number → HasSort b a_number → HasSort (mux c a b) a_number
  T-nbr : {i : ℕ} {e : Expr} → HasSort e a_number → HasSort (nbr i e) a_field
  T-range : {i : ℕ} → HasSort (range i) a_field
  T-lag : {i : ℕ} → HasSort (lag i) a_field
  T-fold_op : {n : ℕ} {o : Operator} {i f : Expr} → HasSort i a_number → HasSort f a_field → HasSort (fold_op n o i f) a_number
  T-fold_def : {d i f : Expr} → HasSort d a_number → HasSort i a_number → HasSort f a_field → HasSort (fold_def d i f) a_number
  T-call : {d a b c e : Expr} → HasSort d a_number → HasSort a a_number → HasSort b a_number → HasSort c a_number → HasSort e a_number
      → HasSort (call d a b c e) a_number
