-- Each clause of the clash list is needed: two events that it names, and a network on which their order matters. `proofs/Clashes.antt` computes it.
-- ("one fires a and the other fires a" is no case of its own: the two are equal entries, copies of one event.)
-- Definitions only: nothing is assumed.
use Rattle.std.specs.Prelude.{◌≡◌, List, [], ◌∷◌, ◌++◌, ℕ, take, drop, ℤ, pos}
use Rattle.program.specs.Check.{check}
use Rattle.network.specs.Cells.{write}
use Rattle.network.specs.Network.{fresh, soundness}
use Rattle.event.specs.Step.{pending_to}
use Rattle.event.specs.Calls.{Result}
use Rattle.paper.specs.Programs.{counter, lamp, fold_more, fires, delivers, loses, links, signals}
use Rattle.paper.specs.Paper.{ran}

-- e before f leaves another network, or answers e or f otherwise, than f before e
pub record OrderMatters (program : List ℕ) (network : List ℤ) (e f : List ℕ) : Type 0 where
  pub accepted : check program ≡ (0, 0)
  pub sound : soundness network ≡ (0, 0)
  pub differ : let r : Result = ran program network (e ++ f) 2 in
      let q : Result = ran program network (f ++ e) 2 in
      r.network ≡ q.network → take 2 r.space ≡ drop 2 q.space → drop 2 r.space ≡ take 2 q.space → ⊥

-- a message with 3 in slot 1 is pending from device 1 to device 2
abbrev pub pending : List ℤ
pending = write fresh ((pending_to 1 2, pos 1 ∷ pos 3 ∷ []) ∷ [])

abbrev pub ten : List ℕ
ten = 0 ∷ 0 ∷ 0 ∷ 10 ∷ []

abbrev pub twenty : List ℕ
twenty = 0 ∷ 0 ∷ 0 ∷ 20 ∷ []

pub record Needed : Type 0 where
  -- "one fires a and the other .. signals a"
  pub signals-it : OrderMatters lamp fresh (signals 1 1 1) (fires 1)
  -- "links from a"
  pub links-from : OrderMatters counter fresh (fires 1) (links 1 2 ten)
  -- "delivers from or to a"
  pub delivers-from : OrderMatters counter pending (fires 1) (delivers 1 2)
  pub delivers-to : OrderMatters fold_more pending (delivers 1 2) (fires 2)
  -- "or loses from a"
  pub loses-from : OrderMatters counter pending (fires 1) (loses 1 2)
  -- "both deliver or lose the same pair a, b"
  pub same-pair : OrderMatters counter pending (delivers 1 2) (loses 1 2)
  -- "signal one sensor of one device"
  pub one-sensor : OrderMatters counter fresh (signals 1 1 0) (signals 1 1 1)
  -- "link one pair"
  pub one-pair : OrderMatters counter fresh (links 1 2 ten) (links 1 2 twenty)
