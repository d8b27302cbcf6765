-- What the loader holds of a table while it loads, and the table that this shows.
use Rattle.std.specs.Prelude.{◌≡◌, List, ℕ, ◌≤◌, ◌<◌, length, get_or}
use Rattle.shapes.specs.Shapes.{byte_values}
use Rattle.program.specs.Table as program
use Rattle.program.specs.Table.{Table, slot, keeps, all_numbers, definition_at, node_limit}
use Rattle.taken.specs.Agrees.{Agree}
use Rattle.kinds.specs.Taken.{Taken}

pub record Shows (n defs : ℕ) (counts : List ℕ) (m : Taken) (t : Table) : Type 0 where
  pub nodes : n ≡ length t.nodes
  pub few : n ≤ node_limit
  pub definitions : defs ≡ length t.definitions
  pub parameters : (d : ℕ) → d < defs → get_or counts d 0 ≡ (definition_at t d).count
  pub named : Agree node_limit m.named (program.named t)
  pub slots : Agree byte_values m.slots (all_numbers slot t.nodes)
  pub kept : Agree byte_values m.kept (all_numbers keeps t.nodes)
