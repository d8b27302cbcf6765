-- The event rows of the refusal table, by computation. Assumes nothing.
use mathlib.Core.Path.{◌≡◌, refl}
use mathlib.Core.List.{List, [], ◌∷◌, map}
use Prim.Native.Nat.{ℕ}
use lib.ListN.{replicate}
use lib.IntN.{ℤ, pos}
use Rattle.number.specs.Number.{mark, floor, inf}
use Rattle.program.specs.Tree.{Expr}
use Rattle.network.specs.Cells.{write}
use Rattle.network.specs.Network.{copies, fresh_block}
use Rattle.event.specs.Event.{Event, fire, deliver, lose, link, signal}
use Rattle.event.specs.Step.{pending_to, refusal, do_event}
use Rattle.event.proofs.ShownOpened.{doing, neg}

-- the cells of the devices 1 to 3: messages are pending from 1 to 2 and from 3 to 1
abbrev network : List ℤ
network = write (copies 3 fresh_block) ((pending_to 1 2, pos 1 ∷ []) ∷ (pending_to 3 1, pos 1 ∷ []) ∷ [])

abbrev codes : List Event → List ℕ
codes es = map (refusal network) es

-- "device, sensor, switch or distance out of range: 14": devices are 1 to 16
fire-devices : codes (map fire (0 ∷ 1 ∷ 2 ∷ 15 ∷ 16 ∷ 17 ∷ 255 ∷ [])) ≡ 14 ∷ 0 ∷ 0 ∷ 0 ∷ 0 ∷ 14 ∷ 14 ∷ []
unfolding doing
fire-devices = refl

-- of a deliver or lose, both; nothing is pending in those that pass, but for the pair 1, 2
abbrev to-two : List ℕ → (ℕ → ℕ → Event) → List ℕ
to-two l e = codes (map (λ a. e a 2) l)

abbrev from_one : List ℕ → (ℕ → ℕ → Event) → List ℕ
from_one l e = codes (map (λ b. e 1 b) l)

pair-devices : (map (to-two (0 ∷ 1 ∷ 3 ∷ 16 ∷ 17 ∷ 255 ∷ [])) (deliver ∷ lose ∷ []) ≡ replicate 2 (14 ∷ 0 ∷ 16 ∷ 16 ∷ 14 ∷ 14 ∷ []))
    × (map (from_one (0 ∷ 2 ∷ 3 ∷ 16 ∷ 17 ∷ 255 ∷ [])) (deliver ∷ lose ∷ []) ≡ replicate 2 (14 ∷ 0 ∷ 16 ∷ 16 ∷ 14 ∷ 14 ∷ []))
unfolding doing
pair-devices = (refl, refl)

link-devices : (to-two (0 ∷ 1 ∷ 16 ∷ 17 ∷ []) (λ a b. link a b (pos 5)) ≡ 14 ∷ 0 ∷ 0 ∷ 14 ∷ []) × (from_one (0 ∷ 2 ∷ 16 ∷ 17 ∷ []) (λ a b. link a b (pos 5)) ≡ 14 ∷ 0 ∷ 0 ∷ 14 ∷ [])
unfolding doing
link-devices = (refl, refl)

signal-devices : codes (map (λ a. signal a 3 1) (0 ∷ 1 ∷ 16 ∷ 17 ∷ [])) ≡ 14 ∷ 0 ∷ 0 ∷ 14 ∷ []
unfolding doing
signal-devices = refl

-- "distance .. 0 to 1,000,000"; "the mark ends it"
link-distances : codes (map (link 1 2) (pos 0 ∷ pos 1 ∷ pos 1000000 ∷ pos 1000001 ∷ inf ∷ neg 1 ∷ neg 1000000 ∷ floor ∷ mark ∷ [])) ≡ 0 ∷ 0 ∷ 0 ∷ 14 ∷ 14 ∷ 14 ∷ 14 ∷ 14 ∷ 0 ∷ []
unfolding doing
link-distances = refl

-- sensors 0 to 15; "0 or 1"
signal-sensors : codes (map (λ s. signal 1 s 1) (0 ∷ 1 ∷ 15 ∷ 16 ∷ 255 ∷ [])) ≡ 0 ∷ 0 ∷ 0 ∷ 14 ∷ 14 ∷ []
unfolding doing
signal-sensors = refl

signal-switches : codes (map (signal 1 3) (0 ∷ 1 ∷ 2 ∷ 255 ∷ [])) ≡ 0 ∷ 0 ∷ 14 ∷ 14 ∷ []
unfolding doing
signal-switches = refl

-- "a = b: 15", of deliver, lose and link; a signal may have its device's number as its sensor
same-device : codes (deliver 1 1 ∷ lose 1 1 ∷ link 1 1 (pos 5) ∷ link 16 16 mark ∷ deliver 16 16 ∷ signal 1 1 1 ∷ signal 1 3 1 ∷ []) ≡ 15 ∷ 15 ∷ 15 ∷ 15 ∷ 15 ∷ 0 ∷ 0 ∷ []
unfolding doing
same-device = refl

-- "nothing pending: 16", of deliver and lose, and of no other event: a message from 1 to 2 is none from 2 to 1
nothing-pending : (codes (deliver 1 2 ∷ deliver 2 1 ∷ deliver 3 1 ∷ deliver 1 3 ∷ deliver 2 3 ∷ []) ≡ 0 ∷ 16 ∷ 0 ∷ 16 ∷ 16 ∷ [])
    × (codes (lose 1 2 ∷ lose 2 1 ∷ lose 3 1 ∷ lose 1 3 ∷ lose 2 3 ∷ []) ≡ 0 ∷ 16 ∷ 0 ∷ 16 ∷ 16 ∷ [])
    × (codes (fire 2 ∷ link 2 1 (pos 5) ∷ link 2 1 mark ∷ signal 2 1 1 ∷ []) ≡ 0 ∷ 0 ∷ 0 ∷ 0 ∷ [])
unfolding doing
nothing-pending = (refl, refl, refl)

-- "in order": 14 before 15 before 16
in_order : codes (link 1 1 (pos 2000000) ∷ link 1 1 (pos 1000001) ∷ link 1 1 mark ∷ deliver 17 17 ∷ lose 0 0 ∷ deliver 0 2 ∷ deliver 1 1 ∷ lose 2 2 ∷ deliver 2 1 ∷ [])
    ≡ 14 ∷ 14 ∷ 15 ∷ 14 ∷ 14 ∷ 14 ∷ 15 ∷ 15 ∷ 16 ∷ []
unfolding doing
in_order = refl

-- "a refusal and 0"; "14–17 change only their answer pair": whatever the program and the network
unchanged : (main : Expr) (n : List ℤ) → (do_event main n (fire 17) ≡ (n, (pos 14, pos 0)))
    × (do_event main n (signal 1 16 1) ≡ (n, (pos 14, pos 0)))
    × (do_event main n (link 1 2 (pos 1000001)) ≡ (n, (pos 14, pos 0)))
    × (do_event main n (link 1 1 (pos 5)) ≡ (n, (pos 15, pos 0)))
    × (do_event main n (deliver 3 3) ≡ (n, (pos 15, pos 0)))
    × (do_event main network (deliver 2 1) ≡ (network, (pos 16, pos 0)))
    × (do_event main network (lose 2 1) ≡ (network, (pos 16, pos 0)))
unfolding doing
unchanged main n = (refl, refl, refl, refl, refl, refl, refl)
