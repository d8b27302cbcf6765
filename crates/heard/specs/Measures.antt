-- Where the cells of a measure stand in what a round reads. Definitions only: nothing is assumed.
use Rattle.std.specs.Prelude.{List, ℕ, ◌+◌, ◌-◌, ◌*◌, get_or, ℤ, pos}
use Rattle.field.specs.Field.{devices}
use Rattle.network.specs.Network.{pending_at}

-- how many cells a round reads
abbrev pub own_size : ℕ
own_size = pending_at 1 + devices

-- the measure of device b, where that of device 1 stands at `from` and each next `by` cells on
abbrev pub cells_from : ℕ → ℕ → List ℤ → ℕ → ℤ
cells_from from by here b = get_or here (from + by * (b - 1)) (pos 0)
