-- Operators on numbers and fields, and sense, by computation. Assumes nothing.
use mathlib.Core.Path.{◌≡◌, refl}
use mathlib.Core.List.{[], ◌∷◌, ◌++◌, map}
use mathlib.Core.Option.{none, some}
use lib.ListN.{replicate}
use lib.IntN.{pos}
use Rattle.number.specs.Number.{mark, add, sub, mul, div, lt, gt, ge, eq, ne}
use Rattle.field.specs.Field.{Field, everywhere}
use Rattle.program.specs.Tree.{constant, parameter, operator, sense}
use Rattle.round.specs.Round.{Value, Outcome, number, field, done, fault, operated, sensed}
use Rattle.round.proofs.ShownCells.{opened, neg, number_of, keeps, reads, nowhere, unsent, state, start, outcome}

-- device 1 holds 7, device 3 holds -1, device 16 holds 0; device 1 holds 2, device 2 holds 0
abbrev three : Field
three = some (pos 7) ∷ none ∷ some (neg 1) ∷ replicate 12 none ++ some (pos 0) ∷ []

abbrev two : Field
two = some (pos 2) ∷ some (pos 0) ∷ replicate 14 none

-- the operator of node 5
abbrev taken : Value → Value → Outcome
taken x y = operated 5 sub x y start

abbrev divided : Value → Value → Outcome
divided x y = operated 5 div x y start

abbrev gives : Field → Outcome
gives f = done (field f) start

-- "Operators on two fields: shared devices only"
two_fields : (taken (field three) (field two) ≡ gives (some (pos 5) ∷ replicate 15 none)) × (taken (field two) (field three) ≡ gives (some (neg 5) ∷ replicate 15 none))
unfolding opened
two_fields = (refl, refl)

-- "field with number: at each device", of the field
beside-number : (taken (field three) (number (pos 10)) ≡ gives (some (neg 3) ∷ none ∷ some (neg 11) ∷ replicate 12 none ++ some (neg 10) ∷ []))
    × (taken (number (pos 10)) (field three) ≡ gives (some (pos 3) ∷ none ∷ some (pos 11) ∷ replicate 12 none ++ some (pos 10) ∷ []))
    × (taken (number (pos 10)) (number (pos 3)) ≡ done (number (pos 7)) start)
unfolding opened
beside-number = (refl, refl, refl)

-- "Divisor 0 faults always": where a device divides by it, of either side; the node is the operator's
zero-met : (divided (number (pos 6)) (number (pos 0)) ≡ fault 5)
    × (divided (number (pos 6)) (field three) ≡ fault 5)
    × (divided (field two) (number (pos 0)) ≡ fault 5)
    × (divided (field three) (field (some (pos 0) ∷ replicate 15 none)) ≡ fault 5)
    × (divided (field three) (field (replicate 15 none ++ some (pos 0) ∷ [])) ≡ fault 5)
unfolding opened
zero-met = (refl, refl, refl, refl, refl)

-- and not where no device does
zero-not-met : (divided (field nowhere) (number (pos 0)) ≡ gives nowhere)
    × (divided (number (pos 6)) (field nowhere) ≡ gives nowhere)
    × (divided (field three) (field two) ≡ gives (some (pos 3) ∷ replicate 15 none))
    × (divided (field nowhere) (field (everywhere (pos 0))) ≡ gives nowhere)
    × (divided (number (pos 0)) (number (pos 6)) ≡ done (number (pos 0)) start)
unfolding opened
zero-not-met = (refl, refl, refl, refl, refl)

-- an operator's sides are evaluated in the same cells, with the same parameters: 21 - 11
sides : (outcome (operator 5 sub (reads 1) (reads 0)) ≡ done (number (pos 10)) start) × (outcome (operator 5 sub (reads 0) (reads 1)) ≡ done (number (neg 10)) start)
unfolding opened
sides = (refl, refl)

leaves : (outcome (number_of 3) ≡ done (number (pos 3)) start)
    × (outcome (constant (neg 3)) ≡ done (number (neg 3)) start)
    × (map (λ p. outcome (parameter 5 p)) (0 ∷ 1 ∷ 2 ∷ 3 ∷ []) ≡ map (λ n. done (number (pos n)) start) (10 ∷ 20 ∷ 30 ∷ 40 ∷ []))
unfolding opened
leaves = (refl, refl, refl)

-- "sense: 1 if that sensor is lit, else 0, also outside 0–15": the sensors 1, 11 and 15 are lit
lit : map (λ z. outcome (sense (constant z))) (pos 1 ∷ pos 11 ∷ pos 15 ∷ []) ≡ replicate 3 (done (number (pos 1)) start)
unfolding opened
lit = refl

unlit : map (λ z. outcome (sense (constant z))) (pos 0 ∷ pos 2 ∷ pos 10 ∷ pos 12 ∷ pos 14 ∷ []) ≡ replicate 5 (done (number (pos 0)) start)
unfolding opened
unlit = refl

outside : map (λ z. outcome (sense (constant z))) (pos 16 ∷ pos 17 ∷ pos 27 ∷ neg 1 ∷ neg 2 ∷ neg 15 ∷ mark ∷ []) ≡ replicate 7 (done (number (pos 0)) start)
unfolding opened
outside = refl

-- whatever is lit, also in cells that no sound network has
all-lit : map (sensed (pos 65535)) (neg 1 ∷ pos 0 ∷ pos 15 ∷ pos 16 ∷ []) ≡ pos 0 ∷ pos 1 ∷ pos 1 ∷ pos 0 ∷ []
unfolding opened
all-lit = refl

none-lit : map (sensed (pos 0)) (pos 0 ∷ pos 1 ∷ pos 15 ∷ []) ≡ replicate 3 (pos 0)
unfolding opened
none-lit = refl

one-lit : (map (sensed (pos 1)) (pos 0 ∷ pos 1 ∷ []) ≡ pos 1 ∷ pos 0 ∷ []) × (map (sensed (pos 32768)) (pos 14 ∷ pos 15 ∷ pos 0 ∷ []) ≡ pos 0 ∷ pos 1 ∷ pos 0 ∷ [])
unfolding opened
one-lit = (refl, refl)

unsound-lit : (sensed (pos 65536) (pos 16) ≡ pos 0) × (sensed mark (pos 0) ≡ pos 0)
unfolding opened
unsound-lit = (refl, refl)

-- the sensor's number is evaluated in the same cells, with the same parameters: it is 11; what it stores stays
sensor-number : (outcome (sense (reads 0)) ≡ done (number (pos 1)) start) × (outcome (sense (keeps 0)) ≡ done (number (pos 0)) (state (pos 50 ∷ replicate 15 mark) unsent))
unfolding opened
sensor-number = (refl, refl)

-- each operator on two fields is pointwise: 7 and 2 at device 1
each-operator : map (λ o. operated 5 o (field three) (field two) start) (add ∷ sub ∷ mul ∷ div ∷ lt ∷ gt ∷ ge ∷ eq ∷ ne ∷ [])
    ≡ map (λ n. gives (some (pos n) ∷ replicate 15 none)) (9 ∷ 5 ∷ 14 ∷ 3 ∷ 0 ∷ 1 ∷ 1 ∷ 0 ∷ 1 ∷ [])
unfolding opened
each-operator = refl
