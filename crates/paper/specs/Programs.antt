-- The programs, networks and lists of 01's runs on paper. Definitions only: nothing is assumed.
use Rattle.std.specs.Prelude.{List, [], ◌∷◌, ◌++◌, ℕ, ◌+◌, ℤ, pos}
use Rattle.number.specs.Number.{inf}
use Rattle.program.specs.Conditions.{Part, node, define, program_bytes}
use Rattle.network.specs.Cells.{write}
use Rattle.network.specs.Network.{fresh, base}
use Rattle.event.specs.Step.{heard_from, age_of}

-- a node of a kind, with its items
abbrev pub x : ℕ → List ℕ → Part
x kind values = node (record { kind = kind; values = values })

abbrev pub def : ℕ → ℕ → Part
def count body = define (record { count = count; body = body })

-- (rep x 0 (+ x 1)), nodes 0 to 4
abbrev pub counter_parts : List Part
counter_parts = x 0 (0 ∷ []) ∷ x 2 (0 ∷ []) ∷ x 0 (1 ∷ []) ∷ x 3 (0 ∷ 1 ∷ 2 ∷ []) ∷ x 5 (0 ∷ 0 ∷ 3 ∷ []) ∷ []

abbrev pub counter : List ℕ
counter = program_bytes counter_parts 4

-- 01's hex of it
abbrev pub counter_hex : List ℕ
counter_hex =
    0x01 ∷ 0x00 ∷ 0x05 ∷ 0x00 ∷ 0x00 ∷ 0x00 ∷ 0x00 ∷ 0x00
    ∷ 0x01 ∷ 0x00 ∷ 0x02 ∷ 0x02 ∷ 0x00
    ∷ 0x01 ∷ 0x00 ∷ 0x05 ∷ 0x00 ∷ 0x00 ∷ 0x00 ∷ 0x00 ∷ 0x01
    ∷ 0x01 ∷ 0x00 ∷ 0x04 ∷ 0x03 ∷ 0x00 ∷ 0x01 ∷ 0x02
    ∷ 0x01 ∷ 0x00 ∷ 0x04 ∷ 0x05 ∷ 0x00 ∷ 0x00 ∷ 0x03
    ∷ 0x03 ∷ 0x00 ∷ 0x01 ∷ 0x04
    ∷ []

-- (if (sense 1) that 7)
abbrev pub lamp : List ℕ
lamp = program_bytes (counter_parts ++ x 0 (1 ∷ []) ∷ x 4 (5 ∷ []) ∷ x 0 (7 ∷ []) ∷ x 6 (6 ∷ 4 ∷ 7 ∷ []) ∷ []) 8

-- 000's distance-to:
-- (def min (a b) (if (< a b) a b))
-- (def distance-to (source) (rep d inf (mux source 0 (fold-hood* min inf (+ (nbr d) (nbr-range))))))
-- (distance-to (sense 1))
abbrev pub distance_to : List ℕ
distance_to =
    program_bytes (
    x 1 (0 ∷ []) ∷ x 1 (1 ∷ []) ∷ x 3 (4 ∷ 0 ∷ 1 ∷ []) ∷ x 1 (0 ∷ []) ∷ x 1 (1 ∷ []) ∷ x 6 (2 ∷ 3 ∷ 4 ∷ []) ∷ def 2 5
    ∷ x 0 (0x7fffffff ∷ []) ∷ x 1 (0 ∷ []) ∷ x 0 (0 ∷ []) ∷ x 0 (0x7fffffff ∷ []) ∷ x 2 (0 ∷ []) ∷ x 8 (1 ∷ 10 ∷ []) ∷ x 9 (2 ∷ []) ∷ x 3 (0 ∷ 11 ∷ 12 ∷ [])
    ∷ x 11 (0 ∷ 9 ∷ 13 ∷ []) ∷ x 7 (7 ∷ 8 ∷ 14 ∷ []) ∷ x 5 (0 ∷ 6 ∷ 15 ∷ []) ∷ def 1 16
    ∷ x 0 (1 ∷ []) ∷ x 4 (17 ∷ []) ∷ x 12 (1 ∷ 18 ∷ []) ∷ [])
    19

-- (if 2 5 6), (mux 2 5 6)
abbrev pub condition_two : ℕ → List ℕ
condition_two kind = program_bytes (x 0 (2 ∷ []) ∷ x 0 (5 ∷ []) ∷ x 0 (6 ∷ []) ∷ x kind (0 ∷ 1 ∷ 2 ∷ []) ∷ []) 3

-- (fold-hood* > 5 (nbr 1)), in slot 1
abbrev pub fold_more : List ℕ
fold_more = program_bytes (x 0 (5 ∷ []) ∷ x 0 (1 ∷ []) ∷ x 8 (1 ∷ 1 ∷ []) ∷ x 10 (5 ∷ 0 ∷ 2 ∷ []) ∷ []) 3

-- events as fields
abbrev pub fires : ℕ → List ℕ
fires a = 0x10 ∷ 0 ∷ 1 ∷ a ∷ []

abbrev pub delivers : ℕ → ℕ → List ℕ
delivers a b = 0x11 ∷ 0 ∷ 2 ∷ a ∷ b ∷ []

abbrev pub loses : ℕ → ℕ → List ℕ
loses a b = 0x12 ∷ 0 ∷ 2 ∷ a ∷ b ∷ []

abbrev pub links : ℕ → ℕ → List ℕ → List ℕ
links a b distance = 0x13 ∷ 0 ∷ 6 ∷ a ∷ b ∷ distance

abbrev pub signals : ℕ → ℕ → ℕ → List ℕ
signals a s v = 0x14 ∷ 0 ∷ 3 ∷ a ∷ s ∷ v ∷ []

-- (iii): device 2, variable inf, neighbours 1 and 3 at 10, slot 1 heard 10 and inf, slot 2 heard 0 from both; (iv): slot 2 unheard.
-- From L1 on a slot that is heard has an age: what both sent has just been delivered (L1.7)
abbrev pub neighbours : List ℤ
neighbours =
    write fresh (
    (base 2, inf ∷ [])
    ∷ (heard_from 2 1, pos 10 ∷ pos 10 ∷ pos 0 ∷ [])
    ∷ (heard_from 2 3, pos 10 ∷ inf ∷ pos 0 ∷ [])
    ∷ (age_of 2 1, pos 0 ∷ [])
    ∷ (age_of 2 3, pos 0 ∷ [])
    ∷ [])

abbrev pub unranged : List ℤ
unranged =
    write fresh (
    (base 2, inf ∷ [])
    ∷ (heard_from 2 1, pos 10 ∷ pos 10 ∷ [])
    ∷ (heard_from 2 3, pos 10 ∷ inf ∷ [])
    ∷ (age_of 2 1, pos 0 ∷ [])
    ∷ (age_of 2 3, pos 0 ∷ [])
    ∷ [])

-- (x): device 2 has heard 3 from device 1 and 0 from device 3 in slot 1
abbrev pub heard_two : List ℤ
heard_two = write fresh ((heard_from 2 1 + 1, pos 3 ∷ []) ∷ (heard_from 2 3 + 1, pos 0 ∷ []) ∷ (age_of 2 1, pos 0 ∷ []) ∷ (age_of 2 3, pos 0 ∷ []) ∷ [])
