-- Where operators on fields fault, at examples, by computation. Assumes nothing.
use mathlib.Core.Path.{◌≡◌, refl}
use mathlib.Core.Bool.{Bool, true, false}
use mathlib.Core.List.{List, [], ◌∷◌, map}
use mathlib.Core.Option.{Option, none, some}
use Prim.Native.Nat.{ℕ}
use lib.ListN.{replicate}
use lib.IntN.{ℤ, pos, neg_ℤ}
use Rattle.number.specs.Number.{inf, Operator, add, sub, mul, div, lt, gt, ge, eq, ne, faults}
use Rattle.field.specs.Field.{Field, everywhere, faults_at, faults_in}

-- what the examples compute with
unfoldable opened : ℕ → ℕ
unfolding faults faults_in
opened n = n

abbrev at : ℕ → Option ℤ
at n = some (pos n)

abbrev operators : List Operator
operators = add ∷ sub ∷ mul ∷ div ∷ lt ∷ gt ∷ ge ∷ eq ∷ ne ∷ []

abbrev div-only : List Bool
div-only = false ∷ false ∷ false ∷ true ∷ false ∷ false ∷ false ∷ false ∷ false ∷ []

-- "Divisor 0 faults always": a device in both fields whose right number is 0; inf / 0 and 0 / 0 too
shared-zero : (faults_at div (at 5) (at 0) ≡ true) × (faults_at div (some inf) (at 0) ≡ true) × (faults_at div (at 0) (at 0) ≡ true)
unfolding opened
shared-zero = (refl, refl, refl)

-- not where the left number is 0, nor at a divisor beside 0
other-divisors : (faults_at div (at 0) (at 5) ≡ false) × (faults_at div (at 5) (at 1) ≡ false) × (faults_at div (at 5) (some (neg_ℤ (pos 1))) ≡ false)
unfolding opened
other-divisors = (refl, refl, refl)

-- no division takes place at a device that only one field has, or neither
lone-zero : (faults_at div none (at 0) ≡ false) × (faults_at div (at 0) none ≡ false) × (faults_at div (at 5) none ≡ false) × (faults_at div none none ≡ false)
unfolding opened
lone-zero = (refl, refl, refl, refl)

-- no other operator faults
division-only : (map (λ o. faults_at o (at 5) (at 0)) operators ≡ div-only) × (map (λ o. faults_in o (at 5 ∷ []) (at 0 ∷ [])) operators ≡ div-only)
unfolding opened
division-only = (refl, refl)

-- a 0 at the first device, at a middle one, at the last; at none
any-device : (faults_in div (at 1 ∷ at 2 ∷ at 3 ∷ []) (at 0 ∷ at 5 ∷ at 6 ∷ []) ≡ true) × (faults_in div (at 1 ∷ at 2 ∷ at 3 ∷ []) (at 4 ∷ at 0 ∷ at 6 ∷ []) ≡ true)
    × (faults_in div (at 1 ∷ at 2 ∷ at 3 ∷ []) (at 4 ∷ at 5 ∷ at 0 ∷ []) ≡ true) × (faults_in div (at 1 ∷ at 2 ∷ at 3 ∷ []) (at 4 ∷ at 5 ∷ at 6 ∷ []) ≡ false)
unfolding opened
any-device = (refl, refl, refl, refl)

-- among sixteen: only device 1 in both, only device 16
abbrev only-first : ℕ → Field
only-first x = at x ∷ none ∷ none ∷ none ∷ none ∷ none ∷ none ∷ none ∷ none ∷ none ∷ none ∷ none ∷ none ∷ none ∷ none ∷ none ∷ []

abbrev only-last : ℕ → Field
only-last x = none ∷ none ∷ none ∷ none ∷ none ∷ none ∷ none ∷ none ∷ none ∷ none ∷ none ∷ none ∷ none ∷ none ∷ none ∷ at x ∷ []

first-and-last : (faults_in div (only-first 5) (only-first 0) ≡ true) × (faults_in div (only-last 5) (only-last 0) ≡ true) × (faults_in div (only-first 5) (only-first 2) ≡ false)
    × (faults_in div (only-last 0) (only-last 2) ≡ false)
unfolding opened
first-and-last = (refl, refl, refl, refl)

-- a field beside the number 0 divides at its devices: an empty one divides nowhere
beside-zero : (faults_in div (only-first 5) (everywhere (pos 0)) ≡ true) × (faults_in div (only-last 5) (everywhere (pos 0)) ≡ true)
    × (faults_in div (replicate 16 none) (everywhere (pos 0)) ≡ false)
    × (faults_in div (everywhere (pos 5)) (only-last 0) ≡ true) × (faults_in div (everywhere (pos 0)) (only-last 5) ≡ false) × (faults_in div (everywhere (pos 5)) (replicate 16 none) ≡ false)
unfolding opened
beside-zero = (refl, refl, refl, refl, refl, refl)

-- two fields that share no device, a 0 at the lone device of either
none-shared : (faults_in div (only-first 5) (only-last 0) ≡ false) × (faults_in div (only-last 5) (only-first 0) ≡ false) × (faults_in div (only-first 0) (only-last 5) ≡ false)
    × (faults_in div (none ∷ at 1 ∷ []) (at 0 ∷ at 1 ∷ []) ≡ false) × (faults_in div (none ∷ at 1 ∷ []) (at 1 ∷ at 0 ∷ []) ≡ true)
unfolding opened
none-shared = (refl, refl, refl, refl, refl)

-- a place that one list does not have is no shared device
lengths_differ : (faults_in div [] (at 0 ∷ []) ≡ false) × (faults_in div (at 5 ∷ []) [] ≡ false) × (faults_in div (at 5 ∷ []) (at 1 ∷ at 0 ∷ []) ≡ false)
    × (faults_in div (at 5 ∷ at 5 ∷ []) (at 1 ∷ []) ≡ false)
unfolding opened
lengths_differ = (refl, refl, refl, refl)

-- at all sixteen devices
every-device : (faults_in div (everywhere (pos 5)) (everywhere (pos 0)) ≡ true) × (faults_in div (at 5 ∷ at 5 ∷ []) (at 0 ∷ at 0 ∷ []) ≡ true)
unfolding opened
every-device = (refl, refl)
