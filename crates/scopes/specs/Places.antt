-- The lowest of some nodes, and how the columns of a table stand to its definitions. Internal: no public
-- contract cites it. Definitions only: nothing is assumed.
use Rattle.std.specs.Prelude.{◌≡◌, List, ℕ, min, ◌<◌, length, get_or}
use Rattle.std.proofs.Math.Option.{Option, none, some}
use Rattle.program.specs.Table.{Table, definition_at}

-- the lower of two, where there are two
abbrev pub lower : Option ℕ → Option ℕ → Option ℕ
lower none y = y
lower (some n) none = some n
lower (some n) (some m) = some (min n m)

-- definition d has the d-th parameter count and the d-th body node, which is given
pub record Defined (t : Table) (counts bodies : List ℕ) (definitions : ℕ) : Type 0 where
  pub all : length t.definitions ≡ definitions
  pub count : (d : ℕ) → d < definitions → (definition_at t d).count ≡ get_or counts d 0
  pub body : (d : ℕ) → d < definitions → (definition_at t d).body ≡ get_or bodies d 0
  pub given : (d : ℕ) → d < definitions → get_or bodies d 0 < length t.nodes
