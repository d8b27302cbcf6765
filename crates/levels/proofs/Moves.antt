-- An entry of the table of moves. Assumes nothing.
use mathlib.Core.Path.{◌≡◌}
use Prim.Native.Nat.{ℕ, ◌+◌, ◌*◌, ◌<◌}
use lib.Dec.{eqb}
use lib.ListN.{get_or}
use borrow.Author.Tests.{eqb-true}
use Rattle.levels.specs.Levels.{move_of}
use Rattle.levels.proofs.Table.{moves, moves-right}
use Rattle.decide.proofs.Below.{all_below, all-below}

pub move_at : (c k : ℕ) → c < 18 → k < 24 → get_or moves (c * 24 + k) 0 ≡ move_of c k + 64
move_at c k h j =
    eqb-true (get_or moves (c * 24 + k) 0) (move_of c k + 64)
    (all-below (λ k. eqb (get_or moves (c * 24 + k) 0) (move_of c k + 64)) 24 (all-below (λ c. all_below (λ k. eqb (get_or moves (c * 24 + k) 0) (move_of c k + 64)) 24) 18 moves-right c h) k j)
