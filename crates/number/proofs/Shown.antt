-- Each rule of arithmetic at examples, by computation. Assumes nothing.
use mathlib.Core.Path.{◌≡◌, refl}
use mathlib.Core.Bool.{true, false}
use mathlib.Core.List.{List, [], ◌∷◌, map}
use Prim.Native.Nat.{ℕ}
use lib.IntN.{ℤ, pos, neg_ℤ}
use Rattle.number.specs.Number.{floor, inf, mark, eq_z, Operator, add, sub, mul, div, lt, gt, ge, eq, ne, operator_of, brought, plus, minus, times, over, operation_result, faults}

-- what the examples compute with
unfoldable opened : ℕ → ℕ
unfolding operator_of brought plus minus times over operation_result faults
opened n = n

abbrev neg : ℕ → ℤ
neg n = neg_ℤ (pos n)

-- "from -2,147,483,647 (called floor) to 2,147,483,647 (called inf). The mark -2,147,483,648 means absent."
limits : (floor ≡ neg 2147483647) × (inf ≡ pos 2147483647) × (mark ≡ neg 2147483648)
limits = (refl, refl, refl)

equal : (eq_z (pos 3) (pos 3) ≡ true) × (eq_z (pos 3) (pos 4) ≡ false) × (eq_z (neg 3) (neg 3) ≡ true) × (eq_z (neg 3) (neg 4) ≡ false) × (eq_z (pos 3) (neg 4) ≡ false) × (eq_z (neg 4) (pos 3) ≡ false)
equal = (refl, refl, refl, refl, refl, refl)

-- "Operators 0–8: + - × / < > >= == !="
abbrev operators : List Operator
operators = add ∷ sub ∷ mul ∷ div ∷ lt ∷ gt ∷ ge ∷ eq ∷ ne ∷ []

numbered : map operator_of (0 ∷ 1 ∷ 2 ∷ 3 ∷ 4 ∷ 5 ∷ 6 ∷ 7 ∷ 8 ∷ []) ≡ operators
unfolding opened
numbered = refl

-- each of them at one pair of numbers: "Comparisons give 1 or 0."
all : ℤ → ℤ → List ℤ
all x y = map (λ o. operation_result o x y) operators

smaller-first : all (pos 2) (pos 7) ≡ pos 9 ∷ neg 5 ∷ pos 14 ∷ pos 0 ∷ pos 1 ∷ pos 0 ∷ pos 0 ∷ pos 0 ∷ pos 1 ∷ []
unfolding opened all
smaller-first = refl

larger-first : all (pos 7) (neg 2) ≡ pos 5 ∷ pos 9 ∷ neg 14 ∷ neg 3 ∷ pos 0 ∷ pos 1 ∷ pos 1 ∷ pos 0 ∷ pos 1 ∷ []
unfolding opened all
larger-first = refl

alike : all (pos 3) (pos 3) ≡ pos 6 ∷ pos 0 ∷ pos 9 ∷ pos 1 ∷ pos 0 ∷ pos 0 ∷ pos 1 ∷ pos 1 ∷ pos 0 ∷ []
unfolding opened all
alike = refl

-- "Arithmetic is exact, then brought into floor..inf.": 65,536 × 32,768 = inf; the last number inside, and the first outside, at either end
brought-in : (times (pos 65536) (pos 32768) ≡ inf) × (times (neg 65536) (pos 32768) ≡ floor) × (plus (pos 2147483646) (pos 1) ≡ inf)
    × (plus floor (neg 1) ≡ floor) × (minus floor (pos 1) ≡ floor)
unfolding opened
brought-in = (refl, refl, refl, refl, refl)

inside : (brought inf ≡ inf) × (brought floor ≡ floor) × (brought (pos 2147483648) ≡ inf) × (brought mark ≡ floor)
    × (brought (pos 2147483646) ≡ pos 2147483646) × (brought (neg 2147483646) ≡ neg 2147483646)
unfolding opened
inside = (refl, refl, refl, refl, refl, refl)

-- "First: + with an inf is inf"
plus-inf : (plus inf (neg 5) ≡ inf) × (plus (neg 5) inf ≡ inf) × (plus floor inf ≡ inf) × (plus inf floor ≡ inf)
unfolding opened
plus-inf = (refl, refl, refl, refl)

-- "inf - n is inf; n - inf is floor for other n"
minus-inf : (minus inf (pos 5) ≡ inf) × (minus inf inf ≡ inf) × (minus (pos 5) inf ≡ floor) × (minus floor inf ≡ floor)
unfolding opened
minus-inf = (refl, refl, refl, refl)

-- "inf / n is inf for n > 0, floor for n < 0; n / inf is 0 for other n"
over-inf : (over inf (pos 1) ≡ inf) × (over inf inf ≡ inf) × (over inf (neg 1) ≡ floor) × (over (neg 5) inf ≡ pos 0) × (over floor inf ≡ pos 0)
unfolding opened
over-inf = (refl, refl, refl, refl, refl)

-- × has no rule for inf, and floor has none of its own
no-rule : (times inf (pos 0) ≡ pos 0) × (times (pos 1) inf ≡ inf) × (over floor (neg 1) ≡ inf) × (over floor (pos 2) ≡ neg 1073741823)
unfolding opened
no-rule = (refl, refl, refl, refl)

-- "Division drops the fraction.": towards 0, whatever the signs
fraction-dropped : (over (neg 7) (pos 2) ≡ neg 3) × (over (pos 7) (neg 2) ≡ neg 3) × (over (neg 7) (neg 2) ≡ pos 3) × (over (pos 1) (pos 2) ≡ pos 0)
unfolding opened
fraction-dropped = (refl, refl, refl, refl)

-- "Divisor 0 faults always", and nothing else does
zero-faults : map (λ o. faults o (pos 0)) operators ≡ false ∷ false ∷ false ∷ true ∷ false ∷ false ∷ false ∷ false ∷ false ∷ []
unfolding opened
zero-faults = refl

others-pass : (faults div (pos 1) ≡ false) × (faults div (neg 1) ≡ false) × (faults div inf ≡ false)
unfolding opened
others-pass = (refl, refl, refl)

-- two infs; a negative number first, where a quotient is exact
two-infs : all inf inf ≡ inf ∷ inf ∷ inf ∷ inf ∷ pos 0 ∷ pos 0 ∷ pos 1 ∷ pos 1 ∷ pos 0 ∷ []
unfolding opened all
two-infs = refl

negative-first : (all (neg 8) (pos 2) ≡ neg 6 ∷ neg 10 ∷ neg 16 ∷ neg 4 ∷ pos 1 ∷ pos 0 ∷ pos 0 ∷ pos 0 ∷ pos 1 ∷ [])
    × (all (neg 8) (neg 2) ≡ neg 10 ∷ neg 6 ∷ pos 16 ∷ pos 4 ∷ pos 1 ∷ pos 0 ∷ pos 0 ∷ pos 0 ∷ pos 1 ∷ [])
unfolding opened all
negative-first = (refl, refl)

-- × by the signs of both sides, inf on the right too; floor counts as the number it is in + - /
signs : (times (pos 0) inf ≡ pos 0) × (times (neg 1) inf ≡ floor) × (times (neg 65536) (neg 32768) ≡ inf) × (times (pos 65536) (neg 32768) ≡ floor)
unfolding opened
signs = (refl, refl, refl, refl)

floors : (plus floor (pos 5) ≡ neg 2147483642) × (minus (neg 5) floor ≡ pos 2147483642) × (minus floor (neg 5) ≡ neg 2147483642) × (over floor floor ≡ pos 1) × (over inf floor ≡ floor)
unfolding opened
floors = (refl, refl, refl, refl, refl)
