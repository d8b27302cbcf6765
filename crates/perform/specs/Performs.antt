-- What doing an event, and a list of events, asks and promises. Definitions only: nothing is assumed.
use Rattle.std.specs.Prelude.{◌≡◌, List, ℕ, ℤ}
use Rattle.program.specs.Tree.{Expr}
use Rattle.event.specs.Event.{Entry, read_list, entries_of, list_verdict}
use Rattle.event.specs.Calls.{room, performed}
use Rattle.effects.specs.Does.{Lit}
use Rattle.fire.specs.Fires.{MayFire}

-- all that is tested before: a sound table, a sound network, a list that was read, and room for its answers
pub record Tested (ws us : List ℕ) (main : ℕ) (n : List ℤ) (s : List ℕ) (space : List ℤ) : Type 0 where
  pub ready : MayFire ws us main n
  pub lit : Lit n
  pub read : list_verdict (read_list s) ≡ (0, 0)
  pub fits : room (entries_of (read_list s)) space ≡ (0, 0)

-- the entries l, done on n with that answer space, leave n' and space'
pub record Performs (main : Expr) (n : List ℤ) (l : List Entry) (space n' space' : List ℤ) : Type 0 where
  pub network : n' ≡ (performed main n l space).network
  pub answers : space' ≡ (performed main n l space).space
