-- Flags that say of each number below a bound whether it stands in a list. The bound: node_limit of nodes, byte_values of what a byte names.
use Rattle.std.specs.Prelude.{◌≡◌, Bool, false, List, ℕ, ◌<◌, length, get_or}
use Rattle.program.specs.Table.{among}

pub record Agree (bound : ℕ) (m : List Bool) (taken : List ℕ) : Type 0 where
  pub long : length m ≡ bound
  pub each : (k : ℕ) → k < bound → get_or m k false ≡ among k taken
