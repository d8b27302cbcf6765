-- Two orders of one shift: a stretch `left` and a stretch `right` of events that do not clash with each other, one before the other in the first list and behind it in the second.
-- Definitions only: nothing is assumed.
use Rattle.std.specs.Prelude.{List, [], ◌∷◌, ◌++◌, ℕ, replicate, ℤ, pos}
use Rattle.program.specs.Conditions.{field_bytes, program_bytes}
use Rattle.event.specs.Event.{Entry}
use Rattle.paper.specs.Programs.{x, counter_parts}

-- (fold-hood* + (rep x 0 (+ x 1)) (nbr (/ 6 (sense 0)))), in slot 1: its rounds so far and what it heard; it sends 6, and node 8 divides by 0 where sensor 0 is unlit
abbrev pub tally : List ℕ
tally =
    program_bytes (
    counter_parts
    ++ x 0 (6 ∷ []) ∷ x 0 (0 ∷ []) ∷ x 4 (6 ∷ []) ∷ x 3 (3 ∷ 5 ∷ 7 ∷ []) ∷ x 8 (1 ∷ 8 ∷ []) ∷ x 10 (0 ∷ 4 ∷ 9 ∷ []) ∷ [])
    10

-- the events as entries
abbrev pub fires : ℕ → Entry
fires a = record { tag = 0x10; body = a ∷ [] }

abbrev pub delivers : ℕ → ℕ → Entry
delivers a b = record { tag = 0x11; body = a ∷ b ∷ [] }

abbrev pub loses : ℕ → ℕ → Entry
loses a b = record { tag = 0x12; body = a ∷ b ∷ [] }

abbrev pub links : ℕ → ℕ → ℕ → Entry
links a b distance = record { tag = 0x13; body = a ∷ b ∷ 0 ∷ 0 ∷ 0 ∷ distance ∷ [] }

abbrev pub signals : ℕ → ℕ → ℕ → Entry
signals a s v = record { tag = 0x14; body = a ∷ s ∷ v ∷ [] }

-- device 1 fires twice, its messages to 2 and to 3 are lost and received; a round that faults; refusals 16 and 15
abbrev pub left : List Entry
left =
    signals 1 0 1 ∷ links 1 2 10 ∷ links 1 3 10 ∷ fires 1 ∷ loses 1 2 ∷ delivers 1 3 ∷ fires 1 ∷ signals 5 0 1 ∷ fires 6 ∷ loses 1 4 ∷ delivers 1 1 ∷ []

-- device 2 likewise, its links and losses turned round; the sensor and a link of 3, to which a message goes on the left; another sensor and a link of 5; refusal 14
abbrev pub right : List Entry
right =
    signals 2 0 1 ∷ links 2 1 20 ∷ links 2 4 20 ∷ fires 2 ∷ loses 2 1 ∷ delivers 2 4 ∷ fires 2 ∷ signals 3 0 1 ∷ links 3 1 5 ∷ links 5 1 3 ∷ signals 5 1 1 ∷ fires 17 ∷ []

-- behind both: device 3 fires, which clashes with events of either, and device 6 faults again
abbrev pub closing : List Entry
closing = fires 3 ∷ fires 6 ∷ []

abbrev pub shift : List Entry
shift = left ++ (right ++ closing)

abbrev pub exchanged : List Entry
exchanged = right ++ (left ++ closing)

-- a list as bytes
abbrev pub bytes : List Entry → List ℕ
bytes [] = []
bytes (e ∷ l) = field_bytes e.tag e.body ++ bytes l

-- room for the answers of both lists
abbrev pub zeros : List ℤ
zeros = replicate 50 (pos 0)
