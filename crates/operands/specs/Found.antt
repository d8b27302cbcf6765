-- A node's number as the answer of a search, as the definitions have it: by an Option, or by a number that no node has where none is meant. Internal: no public contract cites
-- it. Definitions only: nothing is assumed.
use Rattle.std.specs.Prelude.{cond, ℕ, ltb, Option as Answer, Some, None}
use Rattle.std.proofs.Math.Option.{Option, none, some}
use Rattle.program.specs.Table.{node_limit}

abbrev pub found : ℕ → Option ℕ
found r = cond (ltb r node_limit) (some r) none

abbrev pub place : Answer ℕ → Option ℕ
place None = none
place (Some n) = some n
