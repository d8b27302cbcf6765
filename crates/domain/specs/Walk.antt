-- What a turn of a walk gives. Definitions only: nothing is assumed.
use Rattle.std.specs.Prelude.{◌≡◌, [], ◌∷◌, ℕ, ◌<◌, Option, MatchOption}
use Rattle.domain.specs.declared.Domain.{Domain}
use Rattle.domain.specs.Members.{members}

-- the lowest device of a domain, with those above it left; or no device, where none is left
abbrev pub Takes : Domain → Option ℕ → Domain → Type 0
Takes dom r left = MatchOption r ((members dom.bits ≡ []) × (members left.bits ≡ [])) (λ k. (k < 16) × (members dom.bits ≡ k ∷ members left.bits))
