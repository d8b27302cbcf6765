-- What a fire asks and promises. Definitions only: nothing is assumed.
use Rattle.std.specs.Prelude.{◌≡◌, List, [], ◌∷◌, map, ℕ, ◌+◌, ◌*◌, ◌<◌, take, replicate, ℤ, pos}
use Rattle.number.specs.Number.{mark}
use Rattle.field.specs.Field.{devices, each}
use Rattle.program.specs.Table.{node_limit}
use Rattle.network.specs.Cells.{row, write}
use Rattle.network.specs.Network.{block_size, heard_at, pending_at, age_at}
use Rattle.round.specs.Round.{State, message, joined, older, ages, faded}
use Rattle.words.specs.Form.{number_forms}
use Rattle.words.specs.Word.{form, word}
use Rattle.words.specs.Sound.{Sound}
use Rattle.apply.specs.State.{state_of, fault_of}
use Rattle.effects.specs.Does.{IdleRow, Idle}

-- a round's first state, where it reads the cells `here`
abbrev pub at_first : List ℤ → State
at_first here = record { variables = take 16 here; sent = replicate 16 mark }

pub record Begun (here st : List ℤ) : Type 0 where
  pub state : state_of st ≡ at_first here
  pub clear : fault_of st ≡ pos 0

-- what is asked of the sixteen rows of messages from `at` on
abbrev pub IdleRows : List ℤ → ℕ → Type 0
IdleRows n at = (b : ℕ) → b < devices → IdleRow (row n (at + 16 * b) 16)

-- what a round that left st, as a state, stores in the device's cells from `at` on: what it heard, a round older, its variables and its messages
pub record Puts (n : List ℤ) (at : ℕ) (here st n' : List ℤ) : Type 0 where
  pub network : n' ≡ write n (
      (at + heard_at 1, joined (each (faded (row n at block_size))))
      ∷ (at + age_at 1, map older (ages (row n at block_size)))
      ∷ (at, (state_of st).variables)
      ∷ (at + pending_at 1, joined (each (message here (state_of st))))
      ∷ [])

-- a network in whose rows of messages a mark of 0 says nothing pending, and a sound table whose node main gives a number
pub record MayFire (ws us : List ℕ) (main : ℕ) (n : List ℤ) : Type 0 where
  pub idle : Idle n
  pub sound : Sound ws us
  pub inside : main < node_limit
  pub sort : form (word ws main) < number_forms
