-- What the examples of a round compute with: a device's cells, a state to start with, short expressions. Assumes nothing.
use mathlib.Core.List.{List, [], ◌∷◌}
use mathlib.Core.Option.{none}
use Prim.Native.Nat.{ℕ, ◌+◌}
use lib.ListN.{replicate}
use lib.IntN.{ℤ, pos, neg_ℤ}
use Rattle.number.specs.Number.{mark, add, div, brought, plus, minus, times, over, operation_result, faults}
use Rattle.field.specs.Field.{Field, from, pointwise, faults_in}
use Rattle.program.specs.Tree.{Expr, constant, parameter, operator, sense, rep}
use Rattle.network.specs.Cells.{write}
use Rattle.network.specs.Network.{sensors_at, heard_at, pending_at, age_at, copies, fresh_block}
use Rattle.round.specs.Round.{State, Outcome, operated, folded, sensed, heard_in, own, measured, reps, erased, eval, round, message, joined, fades, older, faded, after, fired}

-- what the examples compute with
unfoldable pub opened : ℕ → ℕ
unfolding brought plus minus times over operation_result faults from pointwise faults_in copies operated folded sensed heard_in measured reps erased eval round message joined fades older faded after fired
opened n = n

abbrev pub neg : ℕ → ℤ
neg n = neg_ℤ (pos n)

abbrev pub number_of : ℕ → Expr
number_of n = constant (pos n)

-- divides by 0, at node n
abbrev pub divides : ℕ → Expr
divides n = operator n div (number_of 1) (number_of 0)

-- keeps variable v: 50 in its first round, and later 60
abbrev pub keeps : ℕ → Expr
keeps v = rep v (number_of 50) (number_of 60)

-- sensor 1, which is lit in the cells below, plus parameter p: what needs both the device's cells and the parameters
abbrev pub reads : ℕ → Expr
reads p = operator 9 add (sense (number_of 1)) (parameter 9 p)

abbrev pub nowhere : Field
nowhere = replicate 16 none

abbrev pub unsent : List ℤ
unsent = replicate 16 mark

abbrev pub state : List ℤ → List ℤ → State
state variables sent = record { variables = variables; sent = sent }

-- every variable absent and nothing sent; variable v holding v
abbrev pub start : State
start = state (replicate 16 mark) unsent

abbrev pub full : List ℤ
full = pos 0 ∷ pos 1 ∷ pos 2 ∷ pos 3 ∷ pos 4 ∷ pos 5 ∷ pos 6 ∷ pos 7 ∷ pos 8 ∷ pos 9 ∷ pos 10 ∷ pos 11 ∷ pos 12 ∷ pos 13 ∷ pos 14 ∷ pos 15 ∷ []

-- A device's cells: variable 1 holds 40; sensors 1, 11 and 15 are lit. Heard: distance, slots 1, 2 and 3, from the devices 1, 3 (no link), 5, 6, 7 and 16; slot 15 too from 16.
-- Pending: messages to 1, and to 3, to which there is no link. What was heard is new or was read by one round: none fades in the next
abbrev pub cells : List ℤ
cells =
    write fresh_block (
    (1, pos 40 ∷ [])
    ∷ (sensors_at, pos 34818 ∷ [])
    ∷ (heard_at 1, pos 10 ∷ pos 7 ∷ pos 0 ∷ mark ∷ [])
    ∷ (heard_at 3, mark ∷ neg 1 ∷ pos 0 ∷ pos 4 ∷ [])
    ∷ (heard_at 5, pos 0 ∷ mark ∷ pos 0 ∷ mark ∷ [])
    ∷ (heard_at 6, pos 9 ∷ mark ∷ pos 5 ∷ mark ∷ [])
    ∷ (heard_at 7, pos 8 ∷ [])
    ∷ (heard_at 16, pos 1000000 ∷ pos 0 ∷ pos 0 ∷ mark ∷ [])
    ∷ (heard_at 16 + 15, pos 6 ∷ [])
    ∷ (pending_at 1, pos 1 ∷ pos 2 ∷ pos 3 ∷ [])
    ∷ (pending_at 3, pos 1 ∷ pos 4 ∷ mark ∷ pos 5 ∷ [])
    ∷ (age_at 1, pos 0 ∷ mark ∷ pos 1 ∷ mark ∷ pos 0 ∷ pos 1 ∷ [])
    ∷ (age_at 16, pos 0 ∷ [])
    ∷ [])

-- an expression's outcome in them, where the parameters are 10, 20, 30 and 40
abbrev pub parameters : List ℤ
parameters = pos 10 ∷ pos 20 ∷ pos 30 ∷ pos 40 ∷ []

abbrev pub in-state : State → Expr → Outcome
in-state s e = eval (own cells) e parameters s

abbrev pub outcome : Expr → Outcome
outcome e = in-state start e
