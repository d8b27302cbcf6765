-- What a field stands for that is held as "sixteen numbers as an array by value beside its domain". Definitions only: nothing is assumed.
use Rattle.std.specs.Prelude.{cond, List, ℕ, get_or, ℤ, pos}
use Rattle.std.proofs.Math.Option.{Option, none, some}
use Rattle.bits.specs.Bits.{has_bit}
use Rattle.field.specs.Field.{devices, from, Field}
use Rattle.domain.specs.declared.Held.{Held}

-- "Its domain is a set of devices held as sixteen bits": bit k stands for device k + 1
abbrev pub cell_of : ℕ → List ℤ → ℕ → Option ℤ
cell_of dom cells k = cond (has_bit k dom) (some (get_or cells k (pos 0))) none

-- the field of a domain and sixteen cells
unfoldable pub field_of : ℕ → List ℤ → Field
field_of dom cells = from 0 devices (cell_of dom cells)

abbrev pub held : Held → Field
held f = field_of f.dom.bits f.cells
