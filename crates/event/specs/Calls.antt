-- The calls that take events: their tests in the order of the refusal table, and every buffer after them. Definitions only: nothing is assumed.
use Rattle.std.specs.Prelude.{cond, List, [], ◌∷◌, ℕ, ◌*◌, length, eqb, leb, ℤ}
use Rattle.wire.specs.Wire.{fields_of}
use Rattle.order.specs.Order.{last_net, answers}
use Rattle.program.specs.Check.{Verdict, check, main_of}
use Rattle.program.specs.Tree.{Expr}
use Rattle.network.specs.Cells.{store}
use Rattle.network.specs.Network.{soundness}
use Rattle.event.specs.Event.{Entry, Read, read_list, read_one, entries_of, list_verdict}
use Rattle.event.specs.Step.{Answer, step}

-- the first that is a refusal, 0 and 0 where none is
unfoldable pub first_refusal : List Verdict → Verdict
first_refusal [] = (0, 0)
first_refusal (v ∷ vs) = cond (eqb v.0 0) (first_refusal vs) v

-- "Each answer is two numbers": as the answer space holds them
abbrev pub answer_width : ℕ
answer_width = 2

abbrev pub flat : List Answer → List ℤ
flat [] = []
flat (a ∷ l) = a.0 ∷ a.1 ∷ flat l

-- "answer space: below two numbers an event"
abbrev pub room : List Entry → List ℤ → Verdict
room l space = cond (leb (answer_width * length l) (length space)) (0, 0) (13, 0)

-- what a call returns and leaves
pub record Result : Type 0 where
  pub verdict : Verdict
  pub network : List ℤ
  pub space : List ℤ

-- "program, network, list and answer space, and test them in the order of the refusal table"
unfoldable pub tests : List ℕ → List ℤ → Read → List ℤ → Verdict
tests program network list space =
    first_refusal (check program ∷ soundness network ∷ list_verdict list ∷ room (entries_of list) space ∷ [])

-- every event on the network that the event before it left
unfoldable pub performed : Expr → List ℤ → List Entry → List ℤ → Result
performed main network l space =
    record {
      verdict = (0, 0);
      network = last_net (step main) network l;
      space = store space 0 (flat (answers (step main) network l));
    }

-- "Numbers 1–13 change no buffer"
unfoldable pub carried_out : List ℕ → List ℤ → Read → List ℤ → Result
carried_out program network list space =
    let v : Verdict = tests program network list space in
    cond (eqb v.0 0)
    (performed (main_of program) network (entries_of list) space)
    (record { verdict = v; network = network; space = space })

-- "do one event (a list of exactly one field); run a list"
unfoldable pub one_event : List ℕ → List ℤ → List ℕ → List ℤ → Result
one_event program network list space = carried_out program network (read_one (fields_of list)) space

unfoldable pub run : List ℕ → List ℤ → List ℕ → List ℤ → Result
run program network list space = carried_out program network (read_list list) space
