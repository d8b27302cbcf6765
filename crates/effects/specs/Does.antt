-- What the functions over the network's cells promise. Definitions only: nothing is assumed.
use Rattle.std.specs.Prelude.{◌≡◌, List, ℕ, ◌+◌, ◌<◌, true, get_or, ℤ, pos, Result, Ok, Err}
use Rattle.std.specs.Int.Signed.{le_z}
use Rattle.field.specs.Field.{devices}
use Rattle.program.specs.Tree.{Expr}
use Rattle.network.specs.Cells.{row}
use Rattle.network.specs.Network.{no_message}
use Rattle.event.specs.Event.{Event, deliver}
use Rattle.event.specs.Step.{sensors_of, pending_to, refusal, do_event}
use Rattle.verdict.specs.declared.Reason.{Reason}
use Rattle.verdict.specs.Outcome.{number_of}
use Rattle.effects.specs.declared.Answer.{Answer}
use Rattle.effects.specs.declared.Answer.TheVariants.{Value, Refused, Faulted}

-- the two numbers of an answer: "0 and the value (0 unless fire), or a refusal and 0 (17: the node that divided)"
abbrev pub answer_of : Answer → ℤ × ℤ
answer_of (Value v) = (pos 0, v)
answer_of (Refused r) = (pos (number_of r), pos 0)
answer_of (Faulted n) = (pos 17, n)

-- the answer to an event that gives no value
abbrev pub answered : Result Unit Reason → Answer
answered (Ok u) = Value (pos 0)
answered (Err r) = Refused r

-- the event e takes the network n to n' and is answered r, in the program main
pub record Acts (main : Expr) (n : List ℤ) (e : Event) (r : Answer) (n' : List ℤ) : Type 0 where
  pub network : n' ≡ (do_event main n e).0
  pub answer : answer_of r ≡ (do_event main n e).1

-- the same in any program: no event but fire asks for it
abbrev pub Does : List ℤ → Event → Result Unit Reason → List ℤ → Type 0
Does n e r n' = (main : Expr) → Acts main n e (answered r) n'

-- a message from a waits for b at that cell: nothing refuses its delivery
pub record Waits (n : List ℤ) (a b at : ℕ) : Type 0 where
  pub place : at ≡ pending_to a b
  pub passes : refusal n (deliver a b) ≡ 0

-- what `signal` asks, of every device: no sensors' cell is negative. A sound network has it, and every event keeps it (proofs/Lit.antt)
abbrev pub Lit : List ℤ → Type 0
Lit n = (a : ℕ) → le_z (pos 0) (get_or n (sensors_of a) (pos 0)) ≡ true

-- what `fire` asks, of every row of messages: one whose mark is 0 is that of nothing pending, slot by slot, so it may be left alone.
-- A sound network has it, and every event keeps it (proofs/Idle.antt)
abbrev pub IdleRow : List ℤ → Type 0
IdleRow r = get_or r 0 (pos 0) ≡ pos 0 → r ≡ no_message

abbrev pub Idle : List ℤ → Type 0
Idle n = (a b : ℕ) → a < devices → b < devices → IdleRow (row n (pending_to (1 + a) (1 + b)) 16)
