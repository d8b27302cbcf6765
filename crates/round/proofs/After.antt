-- A device's cells after a round. Assumes nothing.
use mathlib.Core.Path.{◌≡◌, refl}
use mathlib.Core.List.{List}
use lib.ListN.{length}
use lib.IntN.{ℤ}
use Rattle.program.specs.Tree.{Expr}
use Rattle.network.proofs.Stores.{length-store}
use Rattle.round.specs.Round.{Outcome, done, fault, round, after, fired, fired_by}

-- as many, whatever is evaluated
pub fired-length : (main : Expr) (b : List ℤ) → length (fired main b).0 ≡ length b
unfolding fired after
fired-length main b = go (round main b)
  where
    go : (o : Outcome) → length (fired_by o b).0 ≡ length b
    go (done v s) = simp length-store
    go (fault n) = refl
