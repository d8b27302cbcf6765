-- What each event does to the network, and its answer. Definitions only: nothing is assumed.
use Rattle.std.specs.Prelude.{Bool, false, not, cond, ◌&&◌, List, [], ◌∷◌, ℕ, zero, suc, ◌+◌, ◌*◌, ◌/◌, ◌%◌, get_or, eqb, leb, ℤ, pos, nat_abs}
use Rattle.number.specs.Number.{eq_z}
use Rattle.field.specs.Field.{devices}
use Rattle.program.specs.Table.{first_of}
use Rattle.program.specs.Tree.{Expr}
use Rattle.network.specs.Cells.{row, write}
use Rattle.network.specs.Network.{block_size, base, sensors_at, heard_at, pending_at, age_at, no_message, is_distance}
use Rattle.round.specs.Round.{fired}
use Rattle.event.specs.Event.{Event, fire, deliver, lose, link, signal, Entry, event_of}

-- "Each answer is two numbers: 0 and the value (0 unless fire), or a refusal and 0 (17: the node that divided)."
abbrev pub Answer : Type 0
Answer = ℤ × ℤ

-- the cells of device a: its sensors, the row heard from b, the row pending to b, the age of what it heard from b
abbrev pub sensors_of : ℕ → ℕ
sensors_of a = base a + sensors_at

abbrev pub heard_from : ℕ → ℕ → ℕ
heard_from a b = base a + heard_at b

abbrev pub pending_to : ℕ → ℕ → ℕ
pending_to a b = base a + pending_at b

abbrev pub age_of : ℕ → ℕ → ℕ
age_of a b = base a + age_at b

-- x with its binary digit s made v, where v is 0 or 1
unfoldable pub digit_set : ℕ → ℕ → ℕ → ℕ
digit_set zero v x = x / 2 * 2 + v % 2
digit_set (suc s) v x = digit_set s v (x / 2) * 2 + x % 2

abbrev pub is_device : ℕ → Bool
is_device a = leb 1 a && leb a devices

-- "device, sensor, switch or distance out of range"
abbrev pub out_of_range : Event → Bool
out_of_range (fire a) = not (is_device a)
out_of_range (deliver a b) = not (is_device a && is_device b)
out_of_range (lose a b) = not (is_device a && is_device b)
out_of_range (link a b d) = not (is_device a && is_device b && is_distance d)
out_of_range (signal a s v) = not (is_device a && leb s 15 && leb v 1)

-- "a = b"
abbrev pub to_itself : Event → Bool
to_itself (fire a) = false
to_itself (deliver a b) = eqb a b
to_itself (lose a b) = eqb a b
to_itself (link a b d) = eqb a b
to_itself (signal a s v) = false

-- "nothing pending"
abbrev pub none_pending : List ℤ → ℕ → ℕ → Bool
none_pending n a b = eq_z (get_or n (pending_to a b) (pos 0)) (pos 0)

abbrev pub nothing_pending : List ℤ → Event → Bool
nothing_pending n (fire a) = false
nothing_pending n (deliver a b) = none_pending n a b
nothing_pending n (lose a b) = none_pending n a b
nothing_pending n (link a b d) = false
nothing_pending n (signal a s v) = false

-- the event rows of the refusal table, but for 17
unfoldable pub refusal : List ℤ → Event → ℕ
refusal n e = first_of ((out_of_range e, 14) ∷ (to_itself e, 15) ∷ (nothing_pending n e, 16) ∷ [])

-- what is stored where, and the answer
abbrev pub Plan : Type 0
Plan = List (ℕ × List ℤ) × Answer

abbrev pub block : List ℤ → ℕ → List ℤ
block n a = row n (base a) block_size

-- what an event that is not refused does
abbrev pub effect : Expr → List ℤ → Event → Plan
effect main n (fire a) = ((base a, (fired main (block n a)).0) ∷ [], (fired main (block n a)).1)
-- "b's heard slots 1–15 from a become the message's, absent ones too; the pending message goes"; L1: "Delivery sets the age to 0."
effect main n (deliver a b) = ((heard_from b a + 1, row n (pending_to a b + 1) 15) ∷ (age_of b a, pos 0 ∷ []) ∷ (pending_to a b, no_message) ∷ [], (pos 0, pos 0))
-- "the pending message goes"
effect main n (lose a b) = ((pending_to a b, no_message) ∷ [], (pos 0, pos 0))
-- "link a, b, distance; the mark ends it. Nothing else changes."
effect main n (link a b d) = ((heard_from a b, d ∷ []) ∷ [], (pos 0, pos 0))
effect main n (signal a s v) = ((sensors_of a, pos (digit_set s v (nat_abs (get_or n (sensors_of a) (pos 0)))) ∷ []) ∷ [], (pos 0, pos 0))

unfoldable pub plan : Expr → List ℤ → Event → Plan
plan main n e = cond (eqb (refusal n e) 0) (effect main n e) ([], (pos (refusal n e), pos 0))

-- an event on the network: the network after it, and its answer
abbrev pub do_event : Expr → List ℤ → Event → List ℤ × Answer
do_event main n e = (write n (plan main n e).0, (plan main n e).1)

-- the same of an entry of a list
abbrev pub step : Expr → List ℤ → Entry → List ℤ × Answer
step main n e = do_event main n (event_of e)
