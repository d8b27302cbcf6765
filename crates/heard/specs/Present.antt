-- The field of sixteen cells of which some hold no number. Definitions only: nothing is assumed.
use Rattle.std.specs.Prelude.{List, get_or, ℤ, pos}
use Rattle.field.specs.Field.{devices, from, Field}
use Rattle.round.specs.Round.{present}

abbrev pub present_in : List ℤ → Field
present_in cells = from 0 devices (λ k. present (get_or cells k (pos 0)))
