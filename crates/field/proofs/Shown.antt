-- The sixteen devices, and fields combined, at examples, by computation. Assumes nothing.
use mathlib.Core.Path.{◌≡◌, refl}
use mathlib.Core.Bool.{true}
use mathlib.Core.List.{List, [], ◌∷◌, map}
use mathlib.Core.Option.{Option, none, some}
use Prim.Native.Nat.{ℕ, ◌+◌}
use lib.ListN.{length, replicate}
use lib.IntN.{ℤ, pos, neg_ℤ}
use Rattle.number.specs.Number.{Operator, add, sub, mul, div, lt, gt, ge, eq, ne, operation_result, plus, minus, times, over, brought}
use Rattle.field.specs.Field.{devices, from, each, Field, everywhere, result_at, pointwise}

-- what the examples compute with
unfoldable opened : ℕ → ℕ
unfolding operation_result plus minus times over brought from pointwise
opened n = n

abbrev at : ℕ → Option ℤ
at n = some (pos n)

abbrev neg : ℕ → Option ℤ
neg n = some (neg_ℤ (pos n))

-- "Sixteen devices, numbered 1 to 16"; "walked from the lowest device up"
sixteen : devices ≡ 16
sixteen = refl

numbered : each (λ a. a) ≡ 1 ∷ 2 ∷ 3 ∷ 4 ∷ 5 ∷ 6 ∷ 7 ∷ 8 ∷ 9 ∷ 10 ∷ 11 ∷ 12 ∷ 13 ∷ 14 ∷ 15 ∷ 16 ∷ []
unfolding opened
numbered = refl

-- the value at a device stands in its place
valued : each (λ a. a + 100) ≡ 101 ∷ 102 ∷ 103 ∷ 104 ∷ 105 ∷ 106 ∷ 107 ∷ 108 ∷ 109 ∷ 110 ∷ 111 ∷ 112 ∷ 113 ∷ 114 ∷ 115 ∷ 116 ∷ []
unfolding opened
valued = refl

some-from : (from 5 0 (λ a. a) ≡ []) × (from 5 1 (λ a. a) ≡ 5 ∷ []) × (from 5 3 (λ a. a) ≡ 5 ∷ 6 ∷ 7 ∷ []) × (from 1 3 (λ a. true) ≡ true ∷ true ∷ true ∷ [])
unfolding opened
some-from = (refl, refl, refl, refl)

-- "field with number: at each device": the number stands at all sixteen
number-at-each : everywhere (pos 7) ≡ at 7 ∷ at 7 ∷ at 7 ∷ at 7 ∷ at 7 ∷ at 7 ∷ at 7 ∷ at 7 ∷ at 7 ∷ at 7 ∷ at 7 ∷ at 7 ∷ at 7 ∷ at 7 ∷ at 7 ∷ at 7 ∷ []
number-at-each = refl

-- "Operators on two fields: shared devices only": both have the device, only the left, only the right, neither
shared-only : (result_at sub (at 7) (at 2) ≡ at 5) × (result_at sub (at 7) none ≡ none) × (result_at sub none (at 2) ≡ none) × (result_at sub none none ≡ none)
unfolding opened
shared-only = (refl, refl, refl, refl)

abbrev operators : List Operator
operators = add ∷ sub ∷ mul ∷ div ∷ lt ∷ gt ∷ ge ∷ eq ∷ ne ∷ []

-- for each operator: nothing at a device that only one field has
lone : (map (λ o. result_at o (at 7) none) operators ≡ replicate 9 none) × (map (λ o. result_at o none (at 7)) operators ≡ replicate 9 none)
unfolding opened
lone = (refl, refl)

-- the left field's number is the left operand, for each operator
left-right : map (λ o. result_at o (at 7) (at 2)) operators ≡ at 9 ∷ at 5 ∷ at 14 ∷ at 3 ∷ at 0 ∷ at 1 ∷ at 1 ∷ at 0 ∷ at 1 ∷ []
unfolding opened
left-right = refl

-- at each device by itself; device 1 in both, 2 in the left, 3 in the right, 4 in neither, 5 in both
pointwise-shared : pointwise sub (at 7 ∷ at 6 ∷ none ∷ none ∷ at 2 ∷ []) (at 2 ∷ none ∷ at 5 ∷ none ∷ at 9 ∷ []) ≡ at 5 ∷ none ∷ none ∷ none ∷ neg 7 ∷ []
unfolding opened
pointwise-shared = refl

pointwise-over : (pointwise div (at 7 ∷ none ∷ at 20 ∷ []) (at 2 ∷ at 3 ∷ at 5 ∷ []) ≡ at 3 ∷ none ∷ at 4 ∷ [])
    × (pointwise div (at 2 ∷ none ∷ at 5 ∷ []) (at 7 ∷ at 3 ∷ at 20 ∷ []) ≡ at 0 ∷ none ∷ at 0 ∷ [])
unfolding opened
pointwise-over = (refl, refl)

-- fields that share no device have an empty result, of as many places
none-shared : (pointwise add (at 1 ∷ none ∷ []) (none ∷ at 1 ∷ []) ≡ none ∷ none ∷ []) × (pointwise add (none ∷ none ∷ []) (at 1 ∷ at 1 ∷ []) ≡ none ∷ none ∷ [])
unfolding opened
none-shared = (refl, refl)

-- "field with number: at each device": with the number on either side, at the field's devices and at no other
abbrev outer : ℕ → ℕ → Field
outer x y = at x ∷ none ∷ none ∷ none ∷ none ∷ none ∷ none ∷ none ∷ none ∷ none ∷ none ∷ none ∷ none ∷ none ∷ none ∷ at y ∷ []

beside-number : (pointwise sub (outer 3 5) (everywhere (pos 1)) ≡ outer 2 4) × (pointwise sub (everywhere (pos 9)) (outer 3 5) ≡ outer 6 4)
unfolding opened
beside-number = (refl, refl)

-- numbers alone, at each device
all-shared : (pointwise sub (everywhere (pos 9)) (everywhere (pos 2)) ≡ everywhere (pos 7)) × (length (pointwise sub (everywhere (pos 9)) (everywhere (pos 2))) ≡ 16)
unfolding opened
all-shared = (refl, refl)

-- a place that one list does not have is no shared device
lengths_differ : (pointwise add (at 1 ∷ at 2 ∷ []) (at 3 ∷ []) ≡ at 4 ∷ []) × (pointwise add (at 1 ∷ []) (at 3 ∷ at 4 ∷ []) ≡ at 4 ∷ []) × (pointwise add [] (at 1 ∷ []) ≡ [])
    × (pointwise add (at 1 ∷ []) [] ≡ [])
unfolding opened
lengths_differ = (refl, refl, refl, refl)
