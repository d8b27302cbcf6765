-- Which events clash, among all events of three devices, by computation: these and no others. Assumes nothing.
-- The rows say it of device 1 and of the pairs 1, 2 and 1, 1; the squares, that it does not depend on the numbers of the devices, the sensors, the switch or the distance.
-- A request that adds an event adds it to `all` and to `renamed`, one that adds a clash adds it to the rows.
use mathlib.Core.Path.{◌≡◌, refl}
use mathlib.Core.Bool.{Bool, true, false, cond}
use mathlib.Core.List.{List, [], ◌∷◌, ◌++◌, map}
use Prim.Native.Nat.{ℕ, ◌+◌}
use lib.Dec.{eqb}
use lib.IntN.{ℤ, pos}
use Rattle.number.specs.Number.{mark}
use Rattle.event.specs.Event.{Event, fire, deliver, lose, link, signal, Entry, event_of, read_as}
use Rattle.clash.specs.Clash.{clash, entries_clash}

-- f at each device, at each pair of devices (a device and itself too: clashes go by the bytes, also of events that are refused, D12)
abbrev at_each : (ℕ → List Event) → List Event
at_each f = f 1 ++ (f 2 ++ f 3)

abbrev pairs : (ℕ → ℕ → List Event) → List Event
pairs f = at_each (λ a. at_each (λ b. f a b))

-- every event of three devices, two sensors and their switch, a link at 10 or ended
abbrev all : List Event
all =
    at_each (λ a. fire a ∷ [])
    ++ (pairs (λ a b. deliver a b ∷ [])
    ++ (pairs (λ a b. lose a b ∷ [])
    ++ (pairs (λ a b. link a b (pos 10) ∷ link a b mark ∷ [])
    ++ at_each (λ a. signal a 0 0 ∷ signal a 0 1 ∷ signal a 1 0 ∷ signal a 1 1 ∷ []))))

-- those of the list that clash with e, as the one and as the other
chosen : (Event → Bool) → List Event → List Event
chosen p [] = []
chosen p (f ∷ l) = cond (p f) (f ∷ chosen p l) (chosen p l)

clashing : Event → List Event
unfolding chosen
clashing e = chosen (clash e) all

clashing_back : Event → List Event
unfolding chosen
clashing_back e = chosen (λ f. clash f e) all

-- "one fires a and the other fires a, signals a, links from a, delivers from or to a, or loses from a". Not: what is lost or linked to a; what happens between others
firing : List Event
firing =
    fire 1
    ∷ deliver 1 1 ∷ deliver 1 2 ∷ deliver 1 3 ∷ deliver 2 1 ∷ deliver 3 1
    ∷ lose 1 1 ∷ lose 1 2 ∷ lose 1 3
    ∷ link 1 1 (pos 10) ∷ link 1 1 mark ∷ link 1 2 (pos 10) ∷ link 1 2 mark ∷ link 1 3 (pos 10) ∷ link 1 3 mark
    ∷ signal 1 0 0 ∷ signal 1 0 1 ∷ signal 1 1 0 ∷ signal 1 1 1
    ∷ []

fires : (clashing (fire 1) ≡ firing) × (clashing_back (fire 1) ≡ firing)
unfolding chosen clashing clashing_back firing
fires = (refl, refl)

-- "both deliver or lose the same pair a, b", and the rounds of both for a delivery, of the sender for a loss. Not: the pair turned round, another hearer or sender, a link of the pair, a sensor
delivering : List Event
delivering = fire 1 ∷ fire 2 ∷ deliver 1 2 ∷ lose 1 2 ∷ []

delivers : (clashing (deliver 1 2) ≡ delivering) × (clashing_back (deliver 1 2) ≡ delivering)
unfolding chosen clashing clashing_back delivering
delivers = (refl, refl)

losing : List Event
losing = fire 1 ∷ deliver 1 2 ∷ lose 1 2 ∷ []

loses : (clashing (lose 1 2) ≡ losing) × (clashing_back (lose 1 2) ≡ losing)
unfolding chosen clashing clashing_back losing
loses = (refl, refl)

-- "or link one pair", whatever the distances, and the round of the device it goes from. Not: the link turned round, another pair, a delivery or loss of the pair, a sensor
linking : List Event
linking = fire 1 ∷ link 1 2 (pos 10) ∷ link 1 2 mark ∷ []

links : (clashing (link 1 2 (pos 10)) ≡ linking) × (clashing_back (link 1 2 (pos 10)) ≡ linking) × (clashing (link 1 2 mark) ≡ linking)
unfolding chosen clashing clashing_back linking
links = (refl, refl, refl)

-- "or signal one sensor of one device", whatever the switch, and the round of that device. Not: another sensor, another device, a link from or a delivery to the device
signalling : List Event
signalling = fire 1 ∷ signal 1 0 0 ∷ signal 1 0 1 ∷ []

signals : (clashing (signal 1 0 1) ≡ signalling) × (clashing_back (signal 1 0 1) ≡ signalling) × (clashing (signal 1 0 0) ≡ signalling)
unfolding chosen clashing clashing_back signalling
signals = (refl, refl, refl)

-- of a device and itself, which is refused with 15: still by the pair, the sender and the hearer (D12)
abbrev own : List Event
own = fire 1 ∷ deliver 1 1 ∷ lose 1 1 ∷ []

to-itself : (clashing (deliver 1 1) ≡ own) × (clashing_back (deliver 1 1) ≡ own) × (clashing (lose 1 1) ≡ own) × (clashing_back (lose 1 1) ≡ own)
    × (clashing (link 1 1 mark) ≡ fire 1 ∷ link 1 1 (pos 10) ∷ link 1 1 mark ∷ [])
unfolding chosen clashing clashing_back
to-itself = (refl, refl, refl, refl, refl)

-- the same events of other devices, sensors, switches and distances
renamed : (ℕ → ℕ) → (ℕ → ℕ) → (ℕ → ℕ) → (ℤ → ℤ) → Event → Event
renamed r s v d (fire a) = fire (r a)
renamed r s v d (deliver a b) = deliver (r a) (r b)
renamed r s v d (lose a b) = lose (r a) (r b)
renamed r s v d (link a b w) = link (r a) (r b) (d w)
renamed r s v d (signal a t u) = signal (r a) (s t) (v u)

square : (Event → Event) → List (List Bool)
square g = map (λ e. map (λ f. clash (g e) (g f)) all) all

abbrev same : {A : Type 0} → A → A
same x = x

-- devices 1, 2, 3 as 2, 3, 1; as 2, 1, 3; as 17, 18, 19, which are refused with 14
abbrev turned : ℕ → ℕ
turned a = cond (eqb a 3) 1 (a + 1)

abbrev exchanged : ℕ → ℕ
exchanged a = cond (eqb a 1) 2 (cond (eqb a 2) 1 a)

by-devices : (square (renamed turned same same same) ≡ square same) × (square (renamed exchanged same same same) ≡ square same) × (square (renamed (λ a. a + 16) same same same) ≡ square same)
unfolding square renamed
by-devices = (refl, refl, refl)

-- sensors 0 and 1 as 16 and 17, switches 0 and 1 as 2 and 3, both refused with 14; any distance, the mark too, as 20
by-sensors : (square (renamed same (λ s. s + 16) same same) ≡ square same) × (square (renamed same same (λ v. v + 2) same) ≡ square same)
unfolding square renamed
by-sensors = (refl, refl)

by-distances : (square (renamed same same same (λ d. pos 20)) ≡ square same) × (clash (link 1 2 (pos 10)) (link 1 2 (pos 20)) ≡ true) × (clash (link 1 2 (pos 10)) (link 1 3 (pos 10)) ≡ false)
unfolding square renamed
by-distances = (refl, refl, refl)

-- entries clash as their events do; one that is no event stands for a fire of no device
of-entries : (e f : Entry) → entries_clash e f ≡ clash (event_of e) (event_of f)
of-entries e f = refl

abbrev entry : ℕ → List ℕ → Entry
entry tag body = record { tag = tag; body = body }

entries : (entries_clash (entry 0x10 (1 ∷ [])) (entry 0x12 (1 ∷ 2 ∷ [])) ≡ true) × (entries_clash (entry 0x10 (2 ∷ [])) (entry 0x12 (1 ∷ 2 ∷ [])) ≡ false)
    × (entries_clash (entry 0x12 (1 ∷ 2 ∷ [])) (entry 0x10 (1 ∷ [])) ≡ true) × (entries_clash (entry 0x09 []) (entry 0x12 (1 ∷ 2 ∷ [])) ≡ false)
unfolding read_as
entries = (refl, refl, refl, refl)
