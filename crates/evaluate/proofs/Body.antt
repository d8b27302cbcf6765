-- A definition's body, as the fold calls it.
use mathlib.Core.List.{List}
use Prim.Native.Nat.{ℕ}
use lib.IntN.{ℤ, pos}
use Rattle.round.specs.Round.{State, Outcome, arguments, eval}
use Rattle.words.specs.Trees.{tree_at}

-- definition body e of table t at a value and a cell
abbrev pub body_at : List ℕ → ℕ → List ℤ → ℤ → ℤ → State → Outcome
body_at t e here a z s = eval here (tree_at t e) (arguments a z (pos 0) (pos 0)) s
