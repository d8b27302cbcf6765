-- A domain's members and a field's numbers, at examples, by computation: what a walk goes over, and how many turns it takes. Assumes nothing.
use mathlib.Core.Path.{◌≡◌, refl}
use mathlib.Core.List.{List, [], ◌∷◌, map}
use Prim.Native.Nat.{ℕ, ◌+◌}
use lib.IntN.{ℤ, pos}
use lib.ListN.{length}
use Rattle.field.specs.Field.{from}
use Rattle.domain.specs.Held.{field_of}
use Rattle.domain.specs.Members.{those, members, places}

-- the cell of device k + 1 holds 100 + k
abbrev cells : List ℤ
cells = map (λ (k : ℕ). pos (100 + k)) (0 ∷ 1 ∷ 2 ∷ 3 ∷ 4 ∷ 5 ∷ 6 ∷ 7 ∷ 8 ∷ 9 ∷ 10 ∷ 11 ∷ 12 ∷ 13 ∷ 14 ∷ 15 ∷ [])

-- nobody; device 1; device 16; both; devices 2, 3 and 8; lowest first
walked : (members 0 ≡ []) × (members 1 ≡ 0 ∷ []) × (members 32768 ≡ 15 ∷ []) × (members 32769 ≡ 0 ∷ 15 ∷ []) × (members 134 ≡ 1 ∷ 2 ∷ 7 ∷ [])
unfolding members those
walked = (refl, refl, refl, refl, refl)

-- L3: "exactly one turn for each device there": the numbers that a fold takes are those of the domain alone
numbers : (places (field_of 0 cells) ≡ []) × (places (field_of 32769 cells) ≡ pos 100 ∷ pos 115 ∷ []) × (places (field_of 134 cells) ≡ pos 101 ∷ pos 102 ∷ pos 107 ∷ [])
unfolding field_of from places
numbers = (refl, refl, refl)

-- none, one, two, three, fifteen and sixteen turns
turns : map (λ (d : ℕ). length (places (field_of d cells))) (0 ∷ 32768 ∷ 32769 ∷ 134 ∷ 65534 ∷ 65535 ∷ []) ≡ 0 ∷ 1 ∷ 2 ∷ 3 ∷ 15 ∷ 16 ∷ []
unfolding field_of from places
turns = refl
