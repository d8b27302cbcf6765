-- The refusals 7, 8 and 9 of whole programs with their places, and the order of these rows, by computation. Assumes nothing.
use mathlib.Core.Path.{◌≡◌, refl}
use mathlib.Core.List.{List, [], ◌∷◌, ◌++◌, map}
use mathlib.Core.Option.{none, some}
use Prim.Native.Nat.{ℕ}
use Rattle.program.specs.Check.{lowest, check}
use Rattle.program.proofs.Shown.{opened, node, define, main, number}

abbrev range : ℕ → List ℕ
range i = node (9 ∷ i ∷ [])

abbrev sense : ℕ → List ℕ
sense k = node (4 ∷ k ∷ [])

abbrev plus : ℕ → ℕ → List ℕ
plus l r = node (3 ∷ 0 ∷ l ∷ r ∷ [])

abbrev call : ℕ → List ℕ
call d = node (12 ∷ d ∷ [])

lowest-of : (lowest (7 ∷ 3 ∷ 5 ∷ []) ≡ some 3) × (lowest (3 ∷ 7 ∷ []) ≡ some 3) × (lowest (7 ∷ 3 ∷ []) ≡ some 3) × (lowest (0 ∷ []) ≡ some 0) × (lowest [] ≡ none)
unfolding opened
lowest-of = (refl, refl, refl, refl, refl)

-- "Main and definition bodies are numbers": "for a body, the body node", called or not
bodies-are-numbers : map check (
    (range 1 ++ main 0) ∷ (number 0 ++ range 1 ++ define 0 1 ++ main 0) ∷ (range 1 ++ define 0 0 ++ call 0 ++ main 1) ∷ (number 0 ++ define 0 0 ++ range 1 ++ define 0 1 ++ call 1 ++ main 2)
    ∷ (number 0 ++ define 0 0 ++ number 1 ++ range 1 ++ plus 1 2 ++ main 3) ∷ [])
    ≡ (7, 0) ∷ (7, 1) ∷ (7, 0) ∷ (7, 1) ∷ (7, 3) ∷ []
unfolding opened
bodies-are-numbers = refl

-- "The node that offends is the one whose operand is wrong", the lowest: two in main's tree; main's and a definition's, either the lower
broken-operand : map check (
    (range 1 ++ sense 0 ++ main 1) ∷ (range 1 ++ sense 0 ++ range 2 ++ sense 2 ++ plus 1 3 ++ main 4) ∷ (number 0 ++ range 1 ++ sense 1 ++ define 0 2 ++ main 0)
    ∷ (range 1 ++ sense 0 ++ define 0 1 ++ range 2 ++ sense 2 ++ main 3) ∷ (range 1 ++ sense 0 ++ range 2 ++ sense 2 ++ define 0 3 ++ main 1)
    ∷ (range 1 ++ number 0 ++ range 2 ++ sense 2 ++ define 0 0 ++ plus 1 3 ++ main 4) ∷ [])
    ≡ (7, 1) ∷ (7, 1) ∷ (7, 2) ∷ (7, 1) ∷ (7, 1) ∷ (7, 0) ∷ []
unfolding opened
broken-operand = refl

-- "parameter not below its tree's count (main 0)"
abbrev with-parameter : ℕ → ℕ → List ℕ
with-parameter count p = number 0 ++ node (1 ∷ p ∷ []) ++ define count 1 ++ main 0

parameters : (check (number 0 ++ node (1 ∷ 0 ∷ []) ++ plus 0 1 ++ main 2) ≡ (8, 1))
    × (map check (with-parameter 0 0 ∷ with-parameter 1 0 ∷ with-parameter 1 1 ∷ with-parameter 3 2 ∷ with-parameter 3 3 ∷ with-parameter 4 3 ∷ [])
    ≡ (8, 1) ∷ (0, 0) ∷ (8, 1) ∷ (0, 0) ∷ (8, 1) ∷ (0, 0) ∷ [])
unfolding opened
parameters = (refl, refl)

-- "A variable is read only under the update of its rep, in the same tree": `(rep x 0 x)`; the initial part of another rep in the update; its own initial part; a
-- definition called under the update
abbrev x : List ℕ
x = node (2 ∷ 0 ∷ [])

abbrev rep : ℕ → ℕ → ℕ → List ℕ
rep v i u = node (5 ∷ v ∷ i ∷ u ∷ [])

variables : map check (
    (number 0 ++ x ++ rep 0 0 1 ++ main 2) ∷ (number 0 ++ x ++ number 1 ++ rep 1 1 2 ++ rep 0 0 3 ++ main 4) ∷ (x ++ number 0 ++ rep 0 0 1 ++ main 2)
    ∷ (x ++ define 0 0 ++ number 0 ++ call 0 ++ rep 0 1 2 ++ main 3) ∷ (number 0 ++ x ++ rep 0 0 1 ++ define 0 2 ++ call 0 ++ main 3)
    ∷ (number 0 ++ number 1 ++ rep 0 0 1 ++ x ++ plus 2 3 ++ main 4) ∷ [])
    ≡ (0, 0) ∷ (0, 0) ∷ (8, 0) ∷ (8, 0) ∷ (0, 0) ∷ (8, 3) ∷ []
unfolding opened
variables = refl

-- the lowest over all trees: two in one tree, main's lower, a definition's lower, the second of two definitions
misread-lowest : map check (
    (x ++ number 0 ++ x ++ plus 2 0 ++ plus 1 3 ++ main 4) ∷ (x ++ x ++ define 0 1 ++ main 0) ∷ (x ++ define 0 0 ++ x ++ main 1)
    ∷ (number 0 ++ x ++ number 1 ++ define 0 2 ++ define 0 1 ++ main 0)
    ∷ (x ++ x ++ number 0 ++ define 0 1 ++ define 0 0 ++ main 2) ∷ [])
    ≡ (8, 0) ∷ (8, 0) ∷ (8, 0) ∷ (8, 1) ∷ (8, 0) ∷ []
unfolding opened
misread-lowest = refl

-- definition 0, whose body is a rep, node 2
abbrev spatial : List ℕ
spatial = number 0 ++ number 1 ++ rep 0 0 1 ++ define 0 2

-- "spatial call when a lower node calls the same": once passes, the second is named, of three the second lowest (D22), whichever is the operand of which and in which tree
spatial-calls : map check (
    (spatial ++ call 0 ++ main 3) ∷ (spatial ++ call 0 ++ call 0 ++ plus 3 4 ++ main 5) ∷ (spatial ++ call 0 ++ call 0 ++ plus 4 3 ++ main 5)
    ∷ (spatial ++ call 0 ++ call 0 ++ call 0 ++ plus 3 4 ++ plus 6 5 ++ main 7)
    ∷ (spatial ++ call 0 ++ define 0 3 ++ number 0 ++ call 0 ++ plus 4 5 ++ main 6) ∷ (spatial ++ call 0 ++ call 0 ++ define 0 4 ++ main 3) ∷ [])
    ≡ (0, 0) ∷ (9, 4) ∷ (9, 4) ∷ (9, 4) ∷ (9, 5) ∷ (9, 4) ∷ []
unfolding opened
spatial-calls = refl

-- two spatial definitions, each called once; one that is spatial by the call it holds, called twice; one that is not spatial, called twice
other-calls : map check (
    (spatial ++ number 0 ++ number 1 ++ rep 1 3 4 ++ define 0 5 ++ call 0 ++ call 1 ++ plus 6 7 ++ main 8) ∷ (spatial ++ call 0 ++ define 0 3 ++ call 1 ++ main 4)
    ∷ (spatial ++ call 0 ++ define 0 3 ++ call 1 ++ call 1 ++ plus 4 5 ++ main 6)
    ∷ (number 0 ++ define 0 0 ++ call 0 ++ call 0 ++ plus 1 2 ++ main 3) ∷ [])
    ≡ (0, 0) ∷ (0, 0) ∷ (9, 5) ∷ (0, 0) ∷ []
unfolding opened
other-calls = refl

-- "kind 11 by a spatial definition or one without two parameters"
abbrev fold-of : ℕ → List ℕ
fold-of count = number 0 ++ define count 0 ++ number 1 ++ range 1 ++ node (11 ∷ 0 ∷ 1 ∷ 2 ∷ []) ++ main 3

folds : map check (
    fold-of 0 ∷ fold-of 1 ∷ fold-of 2 ∷ fold-of 3 ∷ fold-of 4 ∷ (number 0 ++ number 1 ++ rep 0 0 1 ++ define 2 2 ++ number 1 ++ range 1 ++ node (11 ∷ 0 ∷ 3 ∷ 4 ∷ []) ++ main 5)
    ∷ (spatial ++ call 0 ++ define 2 3 ++ number 1 ++ range 1 ++ node (11 ∷ 1 ∷ 4 ∷ 5 ∷ []) ++ main 6) ∷ [])
    ≡ (9, 3) ∷ (9, 3) ∷ (0, 0) ∷ (9, 3) ∷ (9, 3) ∷ (9, 5) ∷ (9, 6) ∷ []
unfolding opened
folds = refl

-- a definition may fold twice, and be called beside; its number is looked at, not its place
folds-again : map check (
    (number 0 ++ define 2 0 ++ number 1 ++ range 1 ++ node (11 ∷ 0 ∷ 1 ∷ 2 ∷ []) ++ range 2 ++ node (11 ∷ 0 ∷ 3 ∷ 4 ∷ []) ++ number 2 ++ node (12 ∷ 0 ∷ 5 ∷ 6 ∷ []) ++ main 7)
    ∷ (number 0 ++ define 2 0 ++ number 0 ++ define 3 1 ++ number 1 ++ range 1 ++ node (11 ∷ 0 ∷ 2 ∷ 3 ∷ []) ++ main 4)
    ∷ (number 0 ++ define 2 0 ++ number 0 ++ define 3 1 ++ number 1 ++ range 1 ++ node (11 ∷ 1 ∷ 2 ∷ 3 ∷ []) ++ main 4) ∷ [])
    ≡ (0, 0) ∷ (0, 0) ∷ (9, 4) ∷ []
unfolding opened
folds-again = refl

-- "each row over all nodes": 7 at a higher node than 8; 8 higher than 9; 7 higher than 9
rows-in-order : map check (
    (x ++ range 1 ++ sense 1 ++ plus 0 2 ++ main 3) ∷ (spatial ++ call 0 ++ call 0 ++ plus 3 4 ++ x ++ plus 5 6 ++ main 7)
    ∷ (spatial ++ call 0 ++ call 0 ++ plus 3 4 ++ range 1 ++ sense 6 ++ plus 5 7 ++ main 8) ∷ [])
    ≡ (7, 2) ∷ (8, 6) ∷ (7, 7) ∷ []
unfolding opened
rows-in-order = refl
