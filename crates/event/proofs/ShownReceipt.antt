-- "merging a receipt slot by slot", one of 01's 'shortcuts that give other networks', ruled out by a receipt that computes.
use mathlib.Core.Path.{◌≡◌, refl}
use mathlib.Core.List.{List, [], ◌∷◌}
use lib.ListN.{replicate}
use lib.IntN.{ℤ, pos}
use Rattle.number.specs.Number.{mark}
use Rattle.program.specs.Table.{first_of}
use Rattle.program.specs.Tree.{Expr}
use Rattle.network.specs.Cells.{row, write}
use Rattle.network.specs.Network.{fresh}
use Rattle.event.specs.Event.{deliver}
use Rattle.event.specs.Step.{heard_from, pending_to, refusal, plan, do_event}

-- device 2 has a link to device 1 and has heard slots 1 and 2 from it; a message with slot 2 alone is on its way
abbrev network : List ℤ
network = write fresh ((heard_from 2 1, pos 30 ∷ pos 5 ∷ pos 6 ∷ []) ∷ (pending_to 1 2, pos 1 ∷ mark ∷ pos 8 ∷ []) ∷ [])

-- the distance stays, slot 1 is absent now, slot 2 is the message's
receipt : (main : Expr) → row (do_event main network (deliver 1 2)).0 (heard_from 2 1) 16 ≡ pos 30 ∷ mark ∷ pos 8 ∷ replicate 13 mark
unfolding fresh plan refusal first_of
receipt main = refl

-- the message is gone
message-gone : (main : Expr) → row (do_event main network (deliver 1 2)).0 (pending_to 1 2) 16 ≡ pos 0 ∷ replicate 15 mark
unfolding fresh plan refusal first_of
message-gone main = refl
