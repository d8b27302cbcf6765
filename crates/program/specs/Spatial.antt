-- Which trees are spatial, as rules. Definitions only: nothing is assumed.
use Rattle.std.specs.Prelude.{ℕ}
use Rattle.number.specs.Number.{Operator}
use Rattle.program.specs.Tree.{Expr, operator, sense, rep, branch, mux, nbr, range, lag, fold_op, fold_def, call}

-- "A definition is spatial if its tree holds rep, nbr, nbr-range or a call to a spatial one." L2, of nbr-lag: "It counts as spatial."
pub data Spatial : Expr → Type 0 where
  X-rep : {v : ℕ} {i u : Expr} → Spatial (rep v i u)
  X-nbr : {i : ℕ} {e : Expr} → Spatial (nbr i e)
  X-range : {i : ℕ} → Spatial (range i)
  X-lag : {i : ℕ} → Spatial (lag i)
  X-called : {d a b c e : Expr} → Spatial d → Spatial (call d a b c e)
  -- or holds one further down
  X-left : {n : ℕ} {o : Operator} {l r : Expr} → Spatial l → Spatial (operator n o l r)
  X-right : {n : ℕ} {o : Operator} {l r : Expr} → Spatial r → Spatial (operator n o l r)
  X-sense : {e : Expr} → Spatial e → Spatial (sense e)
  X-ifCondition : {c a b : Expr} → Spatial c → Spatial (branch c a b)
  X-if_then : {c a b : Expr} → Spatial a → Spatial (branch c a b)
  X-ifElse : {c a b : Expr} → Spatial b → Spatial (branch c a b)
  X-muxCondition : {c a b : Expr} → Spatial c → Spatial (mux c a b)
  X-muxThen : {c a b : Expr} → Spatial a → Spatial (mux c a b)
  X-muxElse : {c a b : Expr} → Spatial b → Spatial (mux c a b)
  X-foldInitial : {n : ℕ} {o : Operator} {i f : Expr} → Spatial i → Spatial (fold_op n o i f)
  X-foldField : {n : ℕ} {o : Operator} {i f : Expr} → Spatial f → Spatial (fold_op n o i f)
  X-foldByInitial : {d i f : Expr} → Spatial i → Spatial (fold_def d i f)
  X-foldByField : {d i f : Expr} → Spatial f → Spatial (fold_def d i f)
  X-first : {d a b c e : Expr} → Spatial a → Spatial (call d a b c e)
  X-second : {d a b c e : Expr} → Spatial b → Spatial (call d a b c e)
  X-third : {d a b c e : Expr} → Spatial c → Spatial (call d a b c e)
  X-fourth : {d a b c e : Expr} → Spatial e → Spatial (call d a b c e)
