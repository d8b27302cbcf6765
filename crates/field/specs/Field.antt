-- Fields, which map some devices to numbers. Definitions only: nothing is assumed.
use Rattle.std.specs.Prelude.{Bool, false, ◌||◌, List, [], ◌∷◌, ℕ, zero, suc, replicate, ℤ}
use Rattle.std.proofs.Math.Option.{Option, none, some}
use Rattle.number.specs.Number.{Operator, operation_result, faults}

-- "Sixteen devices, numbered 1 to 16"
abbrev pub devices : ℕ
devices = 16

-- f at a, a + 1, .., k of them
unfoldable pub from : {A : Type 0} → ℕ → ℕ → (ℕ → A) → List A
from a zero f = []
from a (suc k) f = f a ∷ from (suc a) k f

-- f at device 1, 2, .. 16, lowest first
abbrev pub each : {A : Type 0} → (ℕ → A) → List A
each f = from 1 devices f

-- "A field maps some devices to numbers." A place for each device, lowest first: its number, or none where it is not in the domain
abbrev pub Field : Type 0
Field = List (Option ℤ)

-- a number at each device
abbrev pub everywhere : ℤ → Field
everywhere z = replicate devices (some z)

-- "Operators on two fields: shared devices only"
abbrev pub result_at : Operator → Option ℤ → Option ℤ → Option ℤ
result_at o none q = none
result_at o (some x) none = none
result_at o (some x) (some y) = some (operation_result o x y)

abbrev pub faults_at : Operator → Option ℤ → Option ℤ → Bool
faults_at o none q = false
faults_at o (some x) none = false
faults_at o (some x) (some y) = faults o y

unfoldable pub pointwise : Operator → Field → Field → Field
pointwise o [] g = []
pointwise o (p ∷ f) [] = []
pointwise o (p ∷ f) (q ∷ g) = result_at o p q ∷ pointwise o f g

-- some shared device has the divisor 0
unfoldable pub faults_in : Operator → Field → Field → Bool
faults_in o [] g = false
faults_in o (p ∷ f) [] = false
faults_in o (p ∷ f) (q ∷ g) = faults_at o p q || faults_in o f g
