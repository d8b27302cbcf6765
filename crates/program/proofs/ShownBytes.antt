-- The bytes of a program from its parts, as the conditions have them, by computation. Assumes nothing.
use mathlib.Core.Path.{◌≡◌, refl}
use mathlib.Core.List.{List, [], ◌∷◌, map}
use Prim.Native.Nat.{ℕ}
use lib.ListN.{replicate, take}
use Rattle.program.specs.Table.{Item, constant, operator, parameter, variable, keeps, slot, child, definition, items, picked, Node, Definition, load}
use Rattle.program.specs.Conditions.{Part, node, define, field_bytes, item_bytes, items_bytes, part_bytes, program_bytes, nodes_of, definitions_of, table_of, how_often}
use Rattle.program.proofs.Shown.{opened}

-- "one-byte tag, two-byte length (high byte first), body": no byte, one, 255, 256 and 513
field : (field_bytes 2 [] ≡ 2 ∷ 0 ∷ 0 ∷ []) × (field_bytes 3 (7 ∷ []) ≡ 3 ∷ 0 ∷ 1 ∷ 7 ∷ [])
    × (map (λ k. take 4 (field_bytes 1 (replicate k 9))) (255 ∷ 256 ∷ 513 ∷ []) ≡ (1 ∷ 0 ∷ 255 ∷ 9 ∷ []) ∷ (1 ∷ 1 ∷ 0 ∷ 9 ∷ []) ∷ (1 ∷ 2 ∷ 1 ∷ 9 ∷ []) ∷ [])
field = (refl, refl, refl)

-- "then one byte each except the constant": "4 bytes, high first"
each_item : (item_bytes constant 0x12345678 ≡ 0x12 ∷ 0x34 ∷ 0x56 ∷ 0x78 ∷ []) × (item_bytes constant 0xfffefdfc ≡ 0xff ∷ 0xfe ∷ 0xfd ∷ 0xfc ∷ [])
    × (item_bytes constant 0x01000000 ≡ 1 ∷ 0 ∷ 0 ∷ 0 ∷ []) × (item_bytes constant 0x00ffffff ≡ 0 ∷ 0xff ∷ 0xff ∷ 0xff ∷ [])
    × (map (λ i. item_bytes i 5) (operator ∷ parameter ∷ variable ∷ keeps ∷ slot ∷ child ∷ definition ∷ []) ≡ replicate 7 (5 ∷ []))
each_item = (refl, refl, refl, refl, refl)

-- the items of a call: as many children as arguments; the numbers of one sort of item
abbrev all : List Item
all = constant ∷ operator ∷ parameter ∷ variable ∷ keeps ∷ slot ∷ child ∷ definition ∷ []

of-one-sort : (items (record { kind = 12; values = 5 ∷ [] }) ≡ definition ∷ []) × (items (record { kind = 12; values = 5 ∷ 6 ∷ 7 ∷ [] }) ≡ definition ∷ child ∷ child ∷ [])
    × (map (λ j. picked j all (10 ∷ 11 ∷ 12 ∷ 13 ∷ 14 ∷ 15 ∷ 16 ∷ 17 ∷ [])) all ≡ map (λ v. v ∷ []) (10 ∷ 11 ∷ 12 ∷ 13 ∷ 14 ∷ 15 ∷ 16 ∷ 17 ∷ []))
unfolding opened
of-one-sort = (refl, refl, refl)

in_order : (items_bytes (slot ∷ constant ∷ child ∷ []) (3 ∷ 1 ∷ 4 ∷ []) ≡ 3 ∷ 0 ∷ 0 ∷ 0 ∷ 1 ∷ 4 ∷ []) × (items_bytes [] (3 ∷ []) ≡ []) × (items_bytes (slot ∷ []) [] ≡ [])
unfolding opened
in_order = (refl, refl, refl)

-- "Tag 1 is a node"; "Tag 2 is a definition: parameter count (0–4), body node"; "Tag 3, one node byte, is the main node, the last field"
abbrev is : ℕ → List ℕ → Part
is kind values = node (record { kind = kind; values = values })

a-definition : part_bytes (define (record { count = 4; body = 9 })) ≡ 2 ∷ 0 ∷ 2 ∷ 4 ∷ 9 ∷ []
a-definition = refl

-- program (i), against its hex: `01 0005 00 00000000 01 0002 02 00 01 0005 00 00000001 01 0004 03 00 01 02 01 0004 05 00 00 03 03 0001 04`
program-i : program_bytes (is 0 (0 ∷ []) ∷ is 2 (0 ∷ []) ∷ is 0 (1 ∷ []) ∷ is 3 (0 ∷ 1 ∷ 2 ∷ []) ∷ is 5 (0 ∷ 0 ∷ 3 ∷ []) ∷ []) 4
    ≡ 0x01 ∷ 0x00 ∷ 0x05 ∷ 0x00 ∷ 0x00 ∷ 0x00 ∷ 0x00 ∷ 0x00
    ∷ 0x01 ∷ 0x00 ∷ 0x02 ∷ 0x02 ∷ 0x00
    ∷ 0x01 ∷ 0x00 ∷ 0x05 ∷ 0x00 ∷ 0x00 ∷ 0x00 ∷ 0x00 ∷ 0x01
    ∷ 0x01 ∷ 0x00 ∷ 0x04 ∷ 0x03 ∷ 0x00 ∷ 0x01 ∷ 0x02
    ∷ 0x01 ∷ 0x00 ∷ 0x04 ∷ 0x05 ∷ 0x00 ∷ 0x00 ∷ 0x03
    ∷ 0x03 ∷ 0x00 ∷ 0x01 ∷ 0x04 ∷ []
unfolding opened
program-i = refl

-- nodes and definitions, each "numbered from 0 by appearance"; a call with two arguments and one with none
abbrev parts : List Part
parts = is 0 (258 ∷ []) ∷ define (record { count = 2; body = 0 }) ∷ is 0 (1 ∷ []) ∷ is 0 (2 ∷ []) ∷ is 12 (0 ∷ 2 ∷ 1 ∷ []) ∷ define (record { count = 0; body = 3 }) ∷ is 12 (1 ∷ []) ∷ []

bytes : program_bytes parts 4
    ≡ 1 ∷ 0 ∷ 5 ∷ 0 ∷ 0 ∷ 0 ∷ 1 ∷ 2
    ∷ 2 ∷ 0 ∷ 2 ∷ 2 ∷ 0
    ∷ 1 ∷ 0 ∷ 5 ∷ 0 ∷ 0 ∷ 0 ∷ 0 ∷ 1
    ∷ 1 ∷ 0 ∷ 5 ∷ 0 ∷ 0 ∷ 0 ∷ 0 ∷ 2
    ∷ 1 ∷ 0 ∷ 4 ∷ 12 ∷ 0 ∷ 2 ∷ 1
    ∷ 2 ∷ 0 ∷ 2 ∷ 0 ∷ 3
    ∷ 1 ∷ 0 ∷ 2 ∷ 12 ∷ 1
    ∷ 3 ∷ 0 ∷ 1 ∷ 4 ∷ []
unfolding opened
bytes = refl

nodes : (map {A = Node} (λ x. x.kind) (nodes_of parts) ≡ 0 ∷ 0 ∷ 0 ∷ 12 ∷ 12 ∷ []) × (map {A = Definition} (λ d. d.body) (definitions_of parts) ≡ 0 ∷ 3 ∷ [])
unfolding opened
nodes = (refl, refl)

-- its bytes are loaded to its table and main node
loaded : load (program_bytes parts 4) ≡ record { number = 0; place = 0; table = table_of parts; main = 4 }
unfolding opened
loaded = refl

-- how often a number stands there
counted : map (λ k. how_often k (3 ∷ 0 ∷ 3 ∷ 5 ∷ 3 ∷ [])) (0 ∷ 1 ∷ 3 ∷ 5 ∷ []) ≡ 1 ∷ 0 ∷ 3 ∷ 1 ∷ []
unfolding opened
counted = refl
