-- Nbr and nbr-range, by computation. Assumes nothing.
use mathlib.Core.Path.{◌≡◌, refl}
use mathlib.Core.List.{List, [], ◌∷◌, ◌++◌, map}
use Prim.Native.Nat.{◌+◌}
use mathlib.Core.Option.{none, some}
use lib.ListN.{replicate}
use lib.IntN.{ℤ, pos}
use Rattle.number.specs.Number.{mark, floor, inf, add}
use Rattle.field.specs.Field.{Field}
use Rattle.program.specs.Tree.{constant, operator, nbr, range}
use Rattle.network.specs.Cells.{write}
use Rattle.network.specs.Network.{heard_at, fresh_block}
use Rattle.round.specs.Round.{State, field, done, heard_in}
use Rattle.round.proofs.ShownCells.{opened, neg, number_of, keeps, reads, nowhere, state, outcome}

-- nothing stored, and this sent
abbrev pub sent : List ℤ → State
sent l = state (replicate 16 mark) l

-- heard in slot 1, by the cells: device 1 with 7, device 3, to which there is no link, with -1, device 16 with 0
abbrev heard : Field
heard = some (pos 7) ∷ none ∷ some (neg 1) ∷ replicate 12 none ++ some (pos 0) ∷ []

-- "nbr: sends its child's number in its slot; field of the devices heard in it", with a link or without
nbr-slot-1 : outcome (nbr 1 (number_of 5)) ≡ done (field heard) (sent (mark ∷ pos 5 ∷ replicate 14 mark))
unfolding opened
nbr-slot-1 = refl

nbr-slot-2 : outcome (nbr 2 (constant (neg 6)))
    ≡ done (field (some (pos 0) ∷ none ∷ some (pos 0) ∷ none ∷ some (pos 0) ∷ some (pos 5) ∷ replicate 9 none ++ some (pos 0) ∷ [])) (sent (mark ∷ mark ∷ neg 6 ∷ replicate 13 mark))
unfolding opened
nbr-slot-2 = refl

nbr-slot-15 : outcome (nbr 15 (number_of 5)) ≡ done (field (replicate 15 none ++ some (pos 6) ∷ [])) (sent (replicate 15 mark ++ pos 5 ∷ []))
unfolding opened
nbr-slot-15 = refl

-- heard from nobody
nbr-slot-4 : outcome (nbr 4 (number_of 5)) ≡ done (field nowhere) (sent (replicate 4 mark ++ pos 5 ∷ replicate 11 mark))
unfolding opened
nbr-slot-4 = refl

-- the child is evaluated in the same cells, with the same parameters, and keeps its variables
nbr-child : outcome (nbr 1 (operator 5 add (reads 0) (keeps 2))) ≡ done (field heard) (state (mark ∷ mark ∷ pos 50 ∷ replicate 13 mark) (mark ∷ pos 61 ∷ replicate 14 mark))
unfolding opened
nbr-child = refl

-- "nbr-range: sends 0; field of link distances for devices heard with 0 in that slot and having a distance cell": device 1 at 10, device 5 at 0, device 16 at 1,000,000;
-- not device 3, which
-- has no link, nor device 6, heard with 5, nor device 7, not heard
range-slot-2 : outcome (range 2)
    ≡ done (field (some (pos 10) ∷ none ∷ none ∷ none ∷ some (pos 0) ∷ replicate 10 none ++ some (pos 1000000) ∷ [])) (sent (mark ∷ mark ∷ pos 0 ∷ replicate 13 mark))
unfolding opened
range-slot-2 = refl

-- heard with 7, -1 and 0; heard with 6; heard from nobody
range-other-slots : (outcome (range 1) ≡ done (field (replicate 15 none ++ some (pos 1000000) ∷ [])) (sent (mark ∷ pos 0 ∷ replicate 14 mark)))
    × (outcome (range 15) ≡ done (field nowhere) (sent (replicate 15 mark ++ pos 0 ∷ [])))
    × (outcome (range 4) ≡ done (field nowhere) (sent (replicate 4 mark ++ pos 0 ∷ replicate 11 mark)))
unfolding opened
range-other-slots = (refl, refl, refl)

-- what was sent before stays
sent-stays : outcome (operator 5 add (nbr 1 (number_of 5)) (range 2))
    ≡ done (field (some (pos 17) ∷ replicate 14 none ++ some (pos 1000000) ∷ [])) (sent (mark ∷ pos 5 ∷ pos 0 ∷ replicate 13 mark))
unfolding opened
sent-stays = refl

-- any number is heard, and sent, as it is: floor and inf
any-number-heard : heard_in (write fresh_block ((heard_at 2 + 1, floor ∷ []) ∷ (heard_at 9 + 1, inf ∷ []) ∷ [])) 1 ≡ none ∷ some floor ∷ replicate 6 none ++ some inf ∷ replicate 7 none
unfolding opened
any-number-heard = refl

any-number-sent : map (λ z. outcome (nbr 4 (constant z))) (floor ∷ inf ∷ []) ≡ map (λ z. done (field nowhere) (sent (replicate 4 mark ++ z ∷ replicate 11 mark))) (floor ∷ inf ∷ [])
unfolding opened
any-number-sent = refl
