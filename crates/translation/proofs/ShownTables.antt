-- Texts and their tables, by computation. Assumes nothing.
use mathlib.Core.Path.{◌≡◌, refl}
use mathlib.Core.List.{List, [], ◌∷◌, ◌++◌, map}
use Prim.Native.Nat.{ℕ}
use Rattle.notation.specs.Words.{ascii}
use Rattle.program.specs.Conditions.{Part, node, define, program_bytes}
use Rattle.translation.specs.Numbering.{table}
use Rattle.translation.proofs.Parsed.{program_of}
use Rattle.translation.proofs.Shown.{opened, Gives, gives}

-- a node of a kind, with its items; a definition
abbrev x : ℕ → List ℕ → Part
x kind values = node (record { kind = kind; values = values })

abbrev def : ℕ → ℕ → Part
def count body = define (record { count = count; body = body })

-- 01: "Program (i), in hex: `01 0005 00 00000000 01 0002 02 00 01 0005 00 00000001 01 0004 03 00 01 02 01 0004 05 00 00 03 03 0001 04`"
program-i : Gives (ascii "(rep x 0 (+ x 1))") (
    0x01 ∷ 0x00 ∷ 0x05 ∷ 0x00 ∷ 0x00 ∷ 0x00 ∷ 0x00 ∷ 0x00
    ∷ 0x01 ∷ 0x00 ∷ 0x02 ∷ 0x02 ∷ 0x00
    ∷ 0x01 ∷ 0x00 ∷ 0x05 ∷ 0x00 ∷ 0x00 ∷ 0x00 ∷ 0x00 ∷ 0x01
    ∷ 0x01 ∷ 0x00 ∷ 0x04 ∷ 0x03 ∷ 0x00 ∷ 0x01 ∷ 0x02
    ∷ 0x01 ∷ 0x00 ∷ 0x04 ∷ 0x05 ∷ 0x00 ∷ 0x00 ∷ 0x03
    ∷ 0x03 ∷ 0x00 ∷ 0x01 ∷ 0x04 ∷ [])
unfolding opened
program-i = gives _ _ (refl, refl) refl refl refl

-- 000's distance-to with min before it, as 01's runs on paper have it (crates/paper/specs/Programs.antt)
distance-to : Gives (
    ascii "(def min (a b) (if (< a b) a b))\n" ++ ascii "(def distance-to (source)\n  (rep d\n    inf\n    (mux source\n      0\n"
    ++ ascii "      (fold-hood* min\n        inf\n        (+ (nbr d) (nbr-range))))))\n" ++ ascii "(distance-to (sense 1))\n")
    (program_bytes (
    x 1 (0 ∷ []) ∷ x 1 (1 ∷ []) ∷ x 3 (4 ∷ 0 ∷ 1 ∷ []) ∷ x 1 (0 ∷ []) ∷ x 1 (1 ∷ []) ∷ x 6 (2 ∷ 3 ∷ 4 ∷ []) ∷ def 2 5
    ∷ x 0 (0x7fffffff ∷ []) ∷ x 1 (0 ∷ []) ∷ x 0 (0 ∷ []) ∷ x 0 (0x7fffffff ∷ []) ∷ x 2 (0 ∷ []) ∷ x 8 (1 ∷ 10 ∷ []) ∷ x 9 (2 ∷ []) ∷ x 3 (0 ∷ 11 ∷ 12 ∷ [])
    ∷ x 11 (0 ∷ 9 ∷ 13 ∷ []) ∷ x 7 (7 ∷ 8 ∷ 14 ∷ []) ∷ x 5 (0 ∷ 6 ∷ 15 ∷ []) ∷ def 1 16
    ∷ x 0 (1 ∷ []) ∷ x 4 (17 ∷ []) ∷ x 12 (1 ∷ 18 ∷ []) ∷ []) 19)
unfolding opened
distance-to = gives _ _ (refl, refl) refl refl refl

-- "Slots and variables are given out from 1 and 0 in reading order": of the words in the text, the outer nbr before the inner (L4.2)
outer-slot-first : Gives (ascii "(fold-hood* + 0 (nbr (fold-hood* + 0 (nbr 1))))")
    (program_bytes (x 0 (0 ∷ []) ∷ x 0 (0 ∷ []) ∷ x 0 (1 ∷ []) ∷ x 8 (2 ∷ 2 ∷ []) ∷ x 10 (0 ∷ 1 ∷ 3 ∷ []) ∷ x 8 (1 ∷ 4 ∷ []) ∷ x 10 (0 ∷ 0 ∷ 5 ∷ []) ∷ []) 6)
unfolding opened
outer-slot-first = gives _ _ (refl, refl) refl refl refl

-- nbr, nbr-range and nbr-lag share the slots, and these go on from a definition to what follows it; so do variables
slots-of-all : Gives (ascii "(def f () (fold-hood* + 0 (nbr-lag))) (fold-hood* + (f) (+ (nbr 1) (nbr-range)))")
    (program_bytes (x 0 (0 ∷ []) ∷ x 13 (1 ∷ []) ∷ x 10 (0 ∷ 0 ∷ 1 ∷ []) ∷ def 0 2
    ∷ x 12 (0 ∷ []) ∷ x 0 (1 ∷ []) ∷ x 8 (2 ∷ 4 ∷ []) ∷ x 9 (3 ∷ []) ∷ x 3 (0 ∷ 5 ∷ 6 ∷ []) ∷ x 10 (0 ∷ 3 ∷ 7 ∷ []) ∷ []) 8)
unfolding opened
slots-of-all = gives _ _ (refl, refl) refl refl refl

variables-of-all : Gives (ascii "(def f () (rep x 2 x)) (def g (a) (rep x a x)) (+ (f) (rep y 0 (g 1)))")
    (program_bytes (x 0 (2 ∷ []) ∷ x 2 (0 ∷ []) ∷ x 5 (0 ∷ 0 ∷ 1 ∷ []) ∷ def 0 2 ∷ x 1 (0 ∷ []) ∷ x 2 (1 ∷ []) ∷ x 5 (1 ∷ 3 ∷ 4 ∷ []) ∷ def 1 5
    ∷ x 12 (0 ∷ []) ∷ x 0 (0 ∷ []) ∷ x 0 (1 ∷ []) ∷ x 12 (1 ∷ 8 ∷ []) ∷ x 5 (2 ∷ 7 ∷ 9 ∷ []) ∷ x 3 (0 ∷ 6 ∷ 10 ∷ []) ∷ []) 11)
unfolding opened
variables-of-all = gives _ _ (refl, refl) refl refl refl

-- what takes a slot and what a variable: no other form, each of them read before
other-forms-take-none : Gives (ascii "(def f (a) a) (if (sense (f 1)) (+ 1 (mux 2 3 (fold-hood* + 0 (nbr 1)))) (rep x 0 (fold-hood* + 0 (nbr-range))))")
    (program_bytes (x 1 (0 ∷ []) ∷ def 1 0 ∷ x 0 (1 ∷ []) ∷ x 12 (0 ∷ 1 ∷ []) ∷ x 4 (2 ∷ [])
    ∷ x 0 (1 ∷ []) ∷ x 0 (2 ∷ []) ∷ x 0 (3 ∷ []) ∷ x 0 (0 ∷ []) ∷ x 0 (1 ∷ []) ∷ x 8 (1 ∷ 8 ∷ []) ∷ x 10 (0 ∷ 7 ∷ 9 ∷ []) ∷ x 7 (5 ∷ 6 ∷ 10 ∷ []) ∷ x 3 (0 ∷ 4 ∷ 11 ∷ [])
    ∷ x 0 (0 ∷ []) ∷ x 0 (0 ∷ []) ∷ x 9 (2 ∷ []) ∷ x 10 (0 ∷ 14 ∷ 15 ∷ []) ∷ x 5 (0 ∷ 13 ∷ 16 ∷ []) ∷ x 6 (3 ∷ 12 ∷ 17 ∷ []) ∷ []) 18)
unfolding opened
other-forms-take-none = gives _ _ (refl, refl) refl refl refl

-- nested reps: the outer has the lower variable, also where the inner stands in its initial part
nested-reps : Gives (ascii "(rep x 0 (rep y x (+ x y)))")
    (program_bytes (x 0 (0 ∷ []) ∷ x 2 (0 ∷ []) ∷ x 2 (0 ∷ []) ∷ x 2 (1 ∷ []) ∷ x 3 (0 ∷ 2 ∷ 3 ∷ []) ∷ x 5 (1 ∷ 1 ∷ 4 ∷ []) ∷ x 5 (0 ∷ 0 ∷ 5 ∷ []) ∷ []) 6)
    × Gives (ascii "(rep x (rep y 1 y) x)") (program_bytes (x 0 (1 ∷ []) ∷ x 2 (1 ∷ []) ∷ x 5 (1 ∷ 0 ∷ 1 ∷ []) ∷ x 2 (0 ∷ []) ∷ x 5 (0 ∷ 2 ∷ 3 ∷ []) ∷ []) 4)
unfolding opened
nested-reps = (gives _ _ (refl, refl) refl refl refl, gives _ _ (refl, refl) refl refl refl)

-- "others to the nearest binder; a rep binds in its update only": the inner initial part reads the outer x
nearest : Gives (ascii "(rep x 0 (rep x x x))") (program_bytes (x 0 (0 ∷ []) ∷ x 2 (0 ∷ []) ∷ x 2 (1 ∷ []) ∷ x 5 (1 ∷ 1 ∷ 2 ∷ []) ∷ x 5 (0 ∷ 0 ∷ 3 ∷ []) ∷ []) 4)
    × Gives (ascii "(def f (a x) (rep x x (+ a x))) (f 1 2)")
    (program_bytes (x 1 (1 ∷ []) ∷ x 1 (0 ∷ []) ∷ x 2 (0 ∷ []) ∷ x 3 (0 ∷ 1 ∷ 2 ∷ []) ∷ x 5 (0 ∷ 0 ∷ 3 ∷ []) ∷ def 2 4 ∷ x 0 (1 ∷ []) ∷ x 0 (2 ∷ []) ∷ x 12 (0 ∷ 5 ∷ 6 ∷ []) ∷ []) 7)
    × Gives (ascii "(rep x 0 (+ (rep x 1 x) x))")
    (program_bytes (x 0 (0 ∷ []) ∷ x 0 (1 ∷ []) ∷ x 2 (1 ∷ []) ∷ x 5 (1 ∷ 1 ∷ 2 ∷ []) ∷ x 2 (0 ∷ []) ∷ x 3 (0 ∷ 3 ∷ 4 ∷ []) ∷ x 5 (0 ∷ 0 ∷ 5 ∷ []) ∷ []) 6)
unfolding opened
nearest = (gives _ _ (refl, refl) refl refl refl, gives _ _ (refl, refl) refl refl refl, gives _ _ (refl, refl) refl refl refl)

-- two name spaces (L4.9), to the byte: a parameter, or a variable, with the name of a definition that is called or folded by
alike-in-both : Gives (ascii "(def f (f) f) (f 1)") (program_bytes (x 1 (0 ∷ []) ∷ def 1 0 ∷ x 0 (1 ∷ []) ∷ x 12 (0 ∷ 1 ∷ []) ∷ []) 2)
    × Gives (ascii "(def e () 5) (def f () 1) (rep f 0 (+ f (f)))")
    (program_bytes (x 0 (5 ∷ []) ∷ def 0 0 ∷ x 0 (1 ∷ []) ∷ def 0 1 ∷ x 0 (0 ∷ []) ∷ x 2 (0 ∷ []) ∷ x 12 (1 ∷ []) ∷ x 3 (0 ∷ 3 ∷ 4 ∷ []) ∷ x 5 (0 ∷ 2 ∷ 5 ∷ []) ∷ []) 6)
    × Gives (ascii "(def g (a b) a) (rep g 0 (fold-hood* g g (nbr g)))")
    (program_bytes (x 1 (0 ∷ []) ∷ def 2 0 ∷ x 0 (0 ∷ []) ∷ x 2 (0 ∷ []) ∷ x 2 (0 ∷ []) ∷ x 8 (1 ∷ 3 ∷ []) ∷ x 11 (0 ∷ 2 ∷ 4 ∷ []) ∷ x 5 (0 ∷ 1 ∷ 5 ∷ []) ∷ []) 6)
unfolding opened
alike-in-both = (gives _ _ (refl, refl) refl refl refl, gives _ _ (refl, refl) refl refl refl, gives _ _ (refl, refl) refl refl refl)

-- "nodes with operands first, left to right, a definition right after its body"
order-of-nodes : Gives (ascii "(if (sense 1) (- 2 3) (mux 4 5 6))")
    (program_bytes (x 0 (1 ∷ []) ∷ x 4 (0 ∷ []) ∷ x 0 (2 ∷ []) ∷ x 0 (3 ∷ []) ∷ x 3 (1 ∷ 2 ∷ 3 ∷ []) ∷ x 0 (4 ∷ []) ∷ x 0 (5 ∷ []) ∷ x 0 (6 ∷ []) ∷ x 7 (5 ∷ 6 ∷ 7 ∷ [])
    ∷ x 6 (1 ∷ 4 ∷ 8 ∷ []) ∷ []) 9)
    × Gives (ascii "(def a () 7) (def b () (a)) (+ (b) (a))")
    (program_bytes (x 0 (7 ∷ []) ∷ def 0 0 ∷ x 12 (0 ∷ []) ∷ def 0 1 ∷ x 12 (1 ∷ []) ∷ x 12 (0 ∷ []) ∷ x 3 (0 ∷ 2 ∷ 3 ∷ []) ∷ []) 4)
unfolding opened
order-of-nodes = (gives _ _ (refl, refl) refl refl refl, gives _ _ (refl, refl) refl refl refl)

-- parameters by their places, 0 to 3; a fold by a definition, by its number
parameters-in-place : Gives (ascii "(def f (a b c d) (+ (+ d c) (+ b a))) (f 1 2 3 4)")
    (program_bytes (x 1 (3 ∷ []) ∷ x 1 (2 ∷ []) ∷ x 3 (0 ∷ 0 ∷ 1 ∷ []) ∷ x 1 (1 ∷ []) ∷ x 1 (0 ∷ []) ∷ x 3 (0 ∷ 3 ∷ 4 ∷ []) ∷ x 3 (0 ∷ 2 ∷ 5 ∷ []) ∷ def 4 6
    ∷ x 0 (1 ∷ []) ∷ x 0 (2 ∷ []) ∷ x 0 (3 ∷ []) ∷ x 0 (4 ∷ []) ∷ x 12 (0 ∷ 7 ∷ 8 ∷ 9 ∷ 10 ∷ []) ∷ []) 11)
    × Gives (ascii "(def f () 1) (def g (a b) b) (fold-hood* g (f) (nbr 2))")
    (program_bytes (x 0 (1 ∷ []) ∷ def 0 0 ∷ x 1 (1 ∷ []) ∷ def 2 1 ∷ x 12 (0 ∷ []) ∷ x 0 (2 ∷ []) ∷ x 8 (1 ∷ 3 ∷ []) ∷ x 11 (1 ∷ 2 ∷ 4 ∷ []) ∷ []) 5)
unfolding opened
parameters-in-place = (gives _ _ (refl, refl) refl refl refl, gives _ _ (refl, refl) refl refl refl)

-- 01: "Operators 0–8: + - × / < > >= == !=", in an operation and in a fold
operators : map (λ s. table (program_of (ascii s))) ("(+ 1 2)" ∷ "(- 1 2)" ∷ "(* 1 2)" ∷ "(/ 1 2)" ∷ "(< 1 2)" ∷ "(> 1 2)" ∷ "(>= 1 2)" ∷ "(== 1 2)" ∷ "(!= 1 2)" ∷ [])
    ≡ map (λ o. program_bytes (x 0 (1 ∷ []) ∷ x 0 (2 ∷ []) ∷ x 3 (o ∷ 0 ∷ 1 ∷ []) ∷ []) 2) (0 ∷ 1 ∷ 2 ∷ 3 ∷ 4 ∷ 5 ∷ 6 ∷ 7 ∷ 8 ∷ [])
unfolding opened
operators = refl

folds : map (λ s. table (program_of (ascii s))) ("(fold-hood* - 0 (nbr 1))" ∷ "(fold-hood* > 0 (nbr 1))" ∷ "(fold-hood* != 0 (nbr 1))" ∷ [])
    ≡ map (λ o. program_bytes (x 0 (0 ∷ []) ∷ x 0 (1 ∷ []) ∷ x 8 (1 ∷ 1 ∷ []) ∷ x 10 (o ∷ 0 ∷ 2 ∷ []) ∷ []) 3) (1 ∷ 5 ∷ 8 ∷ [])
unfolding opened
folds = refl

-- "Numbers are decimal digits, leading zeros allowed, with an optional minus, or `inf`": as constants of the table
constants : map (λ s. table (program_of (ascii s))) ("007" ∷ "-1" ∷ "inf" ∷ "-2147483647" ∷ "258" ∷ [])
    ≡ map (λ b. program_bytes (x 0 (b ∷ []) ∷ []) 0) (7 ∷ 0xffffffff ∷ 0x7fffffff ∷ 0x80000001 ∷ 0x102 ∷ [])
unfolding opened
constants = refl
