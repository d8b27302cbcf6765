-- The members of a domain, lowest first, and a field's numbers in that order. Definitions only: nothing is assumed.
use Rattle.std.specs.Prelude.{Bool, true, false, ◌||◌, List, [], ◌∷◌, ℕ, zero, suc, ◌+◌, ◌/◌, get_or, ℤ, pos}
use Rattle.std.proofs.Math.Option.{none, some}
use Rattle.bits.specs.Bits.{has_bit}
use Rattle.number.specs.Number.{eq_z}
use Rattle.field.specs.Field.{devices, Field}

-- k before l, where it is wanted
abbrev pub before : Bool → ℕ → List ℕ → List ℕ
before true k l = k ∷ l
before false k l = l

-- those of a, a + 1, .. a + n - 1 of which p holds, lowest first
unfoldable pub those : ℕ → ℕ → (ℕ → Bool) → List ℕ
those a zero p = []
those a (suc n) p = before (p a) a (those (suc a) n p)

-- the set bits of a domain, lowest first
unfoldable pub members : ℕ → List ℕ
members dom = those 0 devices (λ k. has_bit k dom)

-- the numbers of a field's domain, lowest device first
unfoldable pub places : Field → List ℤ
places [] = []
places (none ∷ f) = places f
places (some y ∷ f) = y ∷ places f

-- some cell at the places ks is 0
unfoldable pub any_zero : List ℕ → List ℤ → Bool
any_zero [] ys = false
any_zero (k ∷ ks) ys = eq_z (get_or ys k (pos 0)) (pos 0) || any_zero ks ys

-- the domain of the first k places of which b holds, moved up to the top of sixteen bits
abbrev pub bit : Bool → ℕ
bit true = 32768
bit false = 0

unfoldable pub built : (ℕ → Bool) → ℕ → ℕ
built b zero = 0
built b (suc k) = built b k / 2 + bit (b k)
