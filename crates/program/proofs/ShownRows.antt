-- The field rows of the refusal table in their order, definitions, the main node, the table's end and the place, by computation. Assumes nothing.
use mathlib.Core.Path.{◌≡◌, refl}
use mathlib.Core.List.{[], ◌∷◌, ◌++◌, map}
use lib.ListN.{replicate}
use Rattle.program.specs.Check.{check}
use Rattle.program.proofs.Shown.{opened, field, node, define, main, number, behind, pass}

-- "Place: whole fields before it for 1–5": ten before; none before; "else 0"
place : (behind (field 4 []) ≡ (1, 10)) × (check (field 4 []) ≡ (1, 0)) × (check (number 0 ++ field 4 []) ≡ (1, 1)) × (check (number 0 ++ define 0 0 ++ field 4 []) ≡ (1, 2))
unfolding opened
place = (refl, refl, refl, refl)

-- "cut short": in the head and in the body; a whole field is not
cut_short : map behind ((1 ∷ []) ∷ (1 ∷ 0 ∷ []) ∷ (1 ∷ 0 ∷ 1 ∷ []) ∷ (1 ∷ 0 ∷ 3 ∷ 3 ∷ 0 ∷ []) ∷ (1 ∷ 2 ∷ 0 ∷ 4 ∷ 3 ∷ []) ∷ (3 ∷ 0 ∷ 1 ∷ []) ∷ []) ≡ replicate 6 (1, 10)
unfolding opened
cut_short = refl

-- "unknown tag": without a body, with one that a node, a definition or the main node may have
unknown-tag : map behind (field 0 [] ∷ field 0 (4 ∷ 3 ∷ []) ∷ field 0 (0 ∷ 3 ∷ []) ∷ field 0 (3 ∷ []) ∷ field 4 [] ∷ field 4 (4 ∷ 3 ∷ []) ∷ field 4 (0 ∷ 3 ∷ [])
    ∷ field 255 (3 ∷ []) ∷ []) ≡ replicate 8 (1, 10)
unfolding opened
unknown-tag = refl

-- "no kind byte"
no-kind-byte : behind (node []) ≡ (1, 10)
unfolding opened
no-kind-byte = refl

-- "wrong length" before range, naming and taken; kind 11 as well (D7)
length-first : map (λ s. behind (node s)) ((3 ∷ 9 ∷ 3 ∷ []) ∷ (1 ∷ 4 ∷ 0 ∷ []) ∷ (4 ∷ 7 ∷ 3 ∷ []) ∷ (4 ∷ 0 ∷ 3 ∷ []) ∷ (11 ∷ 3 ∷ 3 ∷ []) ∷ (11 ∷ [])
    ∷ (11 ∷ 3 ∷ 3 ∷ 4 ∷ 5 ∷ []) ∷ []) ≡ replicate 7 (1, 10)
unfolding opened
length-first = refl

-- "(a call: under 2 bytes 1, unknown definition 4, then 2 + count)"
call-of-one-byte : (behind (node (12 ∷ [])) ≡ (1, 10)) × (check (node (12 ∷ [])) ≡ (1, 0))
unfolding opened
call-of-one-byte = (refl, refl)

call-of-unknown : map (λ s. behind (node s)) ((12 ∷ 3 ∷ []) ∷ (12 ∷ 3 ∷ 3 ∷ []) ∷ (12 ∷ 3 ∷ 3 ∷ 4 ∷ 5 ∷ 6 ∷ 6 ∷ []) ∷ (12 ∷ 3 ∷ 0 ∷ []) ∷ (12 ∷ 4 ∷ 3 ∷ [])
    ∷ (12 ∷ 255 ∷ 3 ∷ []) ∷ []) ≡ replicate 6 (4, 10)
unfolding opened
call-of-unknown = refl

-- a definition is known from the field behind it on, by its number among definitions
call-of-known : (behind (define 1 3 ++ node (12 ∷ 3 ∷ 4 ∷ [])) ≡ pass) × (behind (define 1 3 ++ node (12 ∷ 4 ∷ 4 ∷ [])) ≡ (4, 11)) × (behind (node (12 ∷ 2 ∷ 3 ∷ 4 ∷ 5 ∷ [])) ≡ (1, 10))
unfolding opened
call-of-known = (refl, refl, refl)

-- "then 2 + count", before naming and taken
call-count : map (λ s. behind (node s)) ((12 ∷ 0 ∷ 7 ∷ []) ∷ (12 ∷ 0 ∷ 0 ∷ []) ∷ (12 ∷ 1 ∷ 7 ∷ []) ∷ (12 ∷ 0 ∷ 7 ∷ 0 ∷ 0 ∷ []) ∷ []) ≡ replicate 4 (1, 10)
unfolding opened
call-count = refl

-- range before naming and taken, naming before taken, whatever the order of the bytes (D9)
range-first : map (λ s. behind (node s)) ((3 ∷ 9 ∷ 7 ∷ 3 ∷ []) ∷ (5 ∷ 16 ∷ 3 ∷ 7 ∷ []) ∷ (8 ∷ 0 ∷ 7 ∷ []) ∷ (10 ∷ 9 ∷ 7 ∷ 7 ∷ []) ∷ (3 ∷ 9 ∷ 0 ∷ 1 ∷ [])
    ∷ (8 ∷ 16 ∷ 0 ∷ []) ∷ []) ≡ replicate 6 (3, 10)
unfolding opened
range-first = refl

naming-first : (map (λ s. behind (node s)) ((3 ∷ 0 ∷ 0 ∷ 7 ∷ []) ∷ (3 ∷ 0 ∷ 7 ∷ 0 ∷ []) ∷ (6 ∷ 3 ∷ 3 ∷ 7 ∷ []) ∷ (11 ∷ 3 ∷ 0 ∷ 1 ∷ []) ∷ []) ≡ replicate 4 (4, 10))
    × (behind (node (8 ∷ 1 ∷ 3 ∷ []) ++ node (8 ∷ 1 ∷ 8 ∷ [])) ≡ (4, 11)) × (behind (node (5 ∷ 1 ∷ 3 ∷ 4 ∷ []) ++ node (5 ∷ 1 ∷ 5 ∷ 8 ∷ [])) ≡ (4, 11))
unfolding opened
naming-first = (refl, refl, refl)

-- "Tag 2 is a definition: parameter count (0–4), body node"
definition-passes : map behind (define 0 3 ∷ define 4 3 ∷ define 0 6 ∷ []) ≡ replicate 3 pass
unfolding opened
definition-passes = refl

definition-refused : map behind (field 2 [] ∷ field 2 (4 ∷ []) ∷ field 2 (5 ∷ []) ∷ field 2 (4 ∷ 3 ∷ 0 ∷ []) ∷ field 2 (5 ∷ 7 ∷ 0 ∷ []) ∷ define 5 3 ∷ define 5 7
    ∷ define 5 0 ∷ define 255 3 ∷ define 4 7 ∷ define 4 255 ∷ define 4 0 ∷ [])
    ≡ (1, 10) ∷ (1, 10) ∷ (1, 10) ∷ (1, 10) ∷ (1, 10) ∷ (3, 10) ∷ (3, 10) ∷ (3, 10) ∷ (3, 10) ∷ (4, 10) ∷ (4, 10) ∷ (5, 10) ∷ []
unfolding opened
definition-refused = refl

-- a body that a node names
body-taken : behind (node (4 ∷ 3 ∷ []) ++ define 0 3) ≡ (5, 11)
unfolding opened
body-taken = refl

-- "Tag 3, one node byte, is the main node": its length, not given, a definition's body, a node's operand
main-refused : map behind (field 3 [] ∷ field 3 (3 ∷ 3 ∷ []) ∷ field 3 (7 ∷ 7 ∷ []) ∷ main 7 ∷ main 255 ∷ main 0 ∷ []) ≡ (1, 10) ∷ (1, 10) ∷ (1, 10) ∷ (4, 10) ∷ (4, 10) ∷ (5, 10) ∷ []
unfolding opened
main-refused = refl

main-taken : (check (number 0 ++ node (4 ∷ 0 ∷ []) ++ main 0) ≡ (5, 2)) × (check (number 0 ++ node (4 ∷ 0 ∷ []) ++ main 1) ≡ (0, 0)) × (check (number 0 ++ node (4 ∷ 0 ∷ []) ++ main 2) ≡ (4, 2))
unfolding opened
main-taken = (refl, refl, refl)

-- "no main": 6, place 0, also of no bytes
no_main : (check [] ≡ (6, 0)) × (check (number 0) ≡ (6, 0)) × (check (number 0 ++ define 0 0) ≡ (6, 0))
unfolding opened
no_main = (refl, refl, refl)

-- "bytes after it": whole fields, cut ones, one byte; they are not read (D1). The main node's own rows come first
bytes-after-main : map (λ s. check (number 0 ++ main 0 ++ s)) ([] ∷ number 0 ∷ main 0 ∷ node (14 ∷ []) ∷ (1 ∷ 0 ∷ 5 ∷ []) ∷ field 4 [] ∷ (0 ∷ []) ∷ []) ≡ (0, 0) ∷ replicate 6 (6, 0)
unfolding opened
bytes-after-main = refl

main-rows-first : (check (number 0 ++ main 1 ++ number 0) ≡ (4, 1)) × (check (number 0 ++ field 3 (0 ∷ 0 ∷ []) ++ number 0) ≡ (1, 1)) × (check (main 0 ++ number 0) ≡ (4, 0))
unfolding opened
main-rows-first = (refl, refl, refl)

-- "node unnamed": the lowest, one between, the highest
node-unnamed : map check (
    (number 0 ++ number 1 ++ main 1) ∷ (number 0 ++ number 1 ++ main 0) ∷ (number 0 ++ number 1 ++ node (4 ∷ 0 ∷ []) ++ main 2) ∷ (number 0 ++ number 1 ++ define 0 0 ++ main 1) ∷ [])
    ≡ (6, 0) ∷ (6, 0) ∷ (6, 0) ∷ (0, 0) ∷ []
unfolding opened
node-unnamed = refl

-- "Place, in order": the rows of the fields and of the table's end come before those of the trees: nbr-range as main; then with main not given, with bytes after it
fields-first : (check (node (9 ∷ 1 ∷ []) ++ main 0) ≡ (7, 0)) × (check (node (9 ∷ 1 ∷ []) ++ main 1) ≡ (4, 1)) × (check (node (9 ∷ 1 ∷ []) ++ main 0 ++ number 0) ≡ (6, 0))
unfolding opened
fields-first = (refl, refl, refl)
