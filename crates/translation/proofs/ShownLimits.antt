-- Slots, variables, nodes, definitions and costs past their limits, calls with other operands than parameters, and other refusals of the table, by computation. Assumes nothing.
use mathlib.Core.Path.{◌≡◌, refl}
use mathlib.Core.List.{List, [], ◌∷◌, ◌++◌}
use Prim.Native.Nat.{ℕ, zero, suc, ◌+◌, ◌/◌, ◌%◌}
use Rattle.notation.specs.Words.{ascii}
use Rattle.notation.specs.Grammar.{Tree, leaf, form, nil, expr, bare}
use Rattle.translation.specs.Numbering.{Given, of_kind, parts, table}
use Rattle.translation.specs.Reads.{compiled}
use Rattle.translation.proofs.Parsed.{program_of}
use Rattle.translation.proofs.Shown.{opened, Refused, refuses, AllRefused, all-refused, Gives, gives}

-- n times the same bytes; an expression within n forms
abbrev times : ℕ → List ℕ → List ℕ
times zero s = []
times (suc n) s = s ++ times n s

abbrev nested : ℕ → List ℕ → List ℕ → List ℕ → List ℕ
nested n before s after = times n before ++ (s ++ times n after)

-- "Slots and variables are given out from 1 and 0 .. (one past 15 is out of range": 15 slots pass, the sixteenth is 3 at its field, behind sixteen initial parts and its own operand
fifteen-slots : Gives (nested 15 (ascii "(fold-hood* + 0 (nbr ") (ascii "1") (ascii "))")) (table (program_of (nested 15 (ascii "(fold-hood* + 0 (nbr ") (ascii "1") (ascii "))"))))
unfolding opened
fifteen-slots = gives _ _ (refl, refl) refl refl refl

slot-16 : Refused (nested 16 (ascii "(fold-hood* + 0 (nbr ") (ascii "1") (ascii "))")) (3, 17)
unfolding opened
slot-16 = refuses _ _ (refl, refl) refl refl

-- sixteen variables pass, the seventeenth is 3 at the node that reads it, where none does at its rep (L4.12)
sixteen-variables : Gives (nested 16 (ascii "(rep x 0 ") (ascii "x") (ascii ")")) (table (program_of (nested 16 (ascii "(rep x 0 ") (ascii "x") (ascii ")"))))
unfolding opened
sixteen-variables = gives _ _ (refl, refl) refl refl refl

variable-16 : Refused (nested 17 (ascii "(rep x 0 ") (ascii "x") (ascii ")")) (3, 17) × Refused (nested 17 (ascii "(rep x 0 ") (ascii "1") (ascii ")")) (3, 18)
unfolding opened
variable-16 = (refuses _ _ (refl, refl) refl refl, refuses _ _ (refl, refl) refl refl)

-- "also past a byte": the 257th slot, the first field that has one, is not slot 1 again, nor the 257th variable variable 0. Of the trees, whose texts have 1,500 bytes and more
abbrev within : ℕ → (Tree → Tree) → Tree → Tree
within zero f t = t
within (suc n) f t = f (within n f t)

abbrev given : Given
given = record { slots = 256; variables = 256; nodes = 0 }

-- the innermost of 257 reps, each in the initial part of the next, has the 257th variable: the node that reads it is field 1
variable-257 : compiled (record { defs = []; main = within 257 (λ t. form (ascii "rep") (bare (ascii "x") (expr t (expr (leaf (ascii "x")) nil)))) (leaf (ascii "0")) }) [] ≡ ((3, 1), [])
unfolding opened
variable-257 = refl

slot-257 : compiled (record { defs = []; main = within 257 (λ t. form (ascii "nbr") (expr t nil)) (leaf (ascii "1")) }) [] ≡ ((3, 1), [])
unfolding opened
slot-257 = refl

past-a-byte : (parts [] [] (form (ascii "rep") (bare (ascii "x") (expr (leaf (ascii "0")) (expr (leaf (ascii "x")) nil)))) given ≡ of_kind 0 (0 ∷ []) ∷ of_kind 2 (255 ∷ [])
    ∷ of_kind 5 (255 ∷ 0 ∷ 1 ∷ []) ∷ [])
    × (parts [] [] (form (ascii "nbr-range") nil) given ≡ of_kind 9 (255 ∷ []) ∷ [])
unfolding opened
past-a-byte = (refl, refl)

-- "A call may have any number of operands": 1 at its field where the definition has another number of parameters; 01: "Place: whole fields before it for 1–5"
few-or-many : AllRefused ("(def f (a) a) (f)" ∷ "(def f (a b) a) (f)" ∷ []) (1, 2) × AllRefused ("(def f (a) a) (f 1 2)" ∷ "(def f () 1) (f 1 2)" ∷ []) (1, 4)
    × AllRefused ("(def f (a b c d) a) (f 1 2 3 4 5)" ∷ []) (1, 7)
unfolding opened
few-or-many = (all-refused _ _ (refl, refl) refl refl, all-refused _ _ (refl, refl) refl refl, all-refused _ _ (refl, refl) refl refl)

-- "then table refusals with theirs": sorts; a fold by a definition of one parameter or by a spatial one; a spatial one called twice
sorts : AllRefused ("(nbr 1)" ∷ []) (7, 1) × AllRefused ("(fold-hood* + 0 1)" ∷ []) (7, 2) × AllRefused ("(nbr (fold-hood* + 0 (nbr 1)))" ∷ []) (7, 4)
unfolding opened
sorts = (all-refused _ _ (refl, refl) refl refl, all-refused _ _ (refl, refl) refl refl, all-refused _ _ (refl, refl) refl refl)

uses : AllRefused ("(def f (a) a) (fold-hood* f 0 (nbr 1))" ∷ "(def f () (rep x 0 x)) (+ (f) (f))" ∷ []) (9, 4) × AllRefused ("(def f (a b) (rep x a b)) (fold-hood* f 0 (nbr 1))" ∷ []) (9, 6)
unfolding opened
uses = (all-refused _ _ (refl, refl) refl refl, all-refused _ _ (refl, refl) refl refl)

-- the 257th node: 2 at its field, before the call that would name it (L4.12)
node-257 : Refused (ascii "(def f () 1) (f " ++ times 256 (ascii "1 ") ++ ascii ")") (2, 257)
unfolding opened
node-257 = refuses _ _ (refl, refl) refl refl

-- 32 definitions pass, the 33rd is 2 at its field, behind its body. Their names are d and two letters more
abbrev definitions : ℕ → List ℕ
definitions zero = []
definitions (suc n) = definitions n ++ (ascii "(def d" ++ (97 + n % 26) ∷ (97 + n / 26) ∷ ascii " () 1)")

definition-33 : Gives (definitions 32 ++ ascii "1") (table (program_of (definitions 32 ++ ascii "1"))) × Refused (definitions 33 ++ ascii "1") (2, 65)
unfolding opened
definition-33 = (gives _ _ (refl, refl) refl refl refl, refuses _ _ (refl, refl) refl refl)

-- "then table refusals with theirs", also the last of them: behind n doublings a call costs 4 times the n-th power of two, less 2: 524,286 and 1,048,574
abbrev doubled : ℕ → List ℕ
doubled zero = ascii "(def a () 1)"
doubled (suc n) = doubled n ++ (ascii "(def " ++ (98 + n) ∷ ascii " () (+ (" ++ (97 + n) ∷ ascii ") (" ++ (97 + n) ∷ ascii ")))")

too-costly : Gives (doubled 17 ++ ascii "(r)") (table (program_of (doubled 17 ++ ascii "(r)"))) × Refused (doubled 18 ++ ascii "(s)") (10, 0)
unfolding opened
too-costly = (gives _ _ (refl, refl) refl refl refl, refuses _ _ (refl, refl) refl refl)
