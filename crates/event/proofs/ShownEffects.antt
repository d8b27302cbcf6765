-- What each event stores, and where, by computation. Assumes nothing.
use mathlib.Core.Path.{◌≡◌, refl}
use mathlib.Core.List.{List, [], ◌∷◌, ◌++◌, map}
use Prim.Native.Nat.{◌+◌, ◌*◌}
use lib.ListN.{replicate}
use lib.IntN.{ℤ, pos}
use Rattle.number.specs.Number.{mark, add, div}
use Rattle.program.specs.Tree.{Expr, constant, variable, operator, sense, rep, nbr, fold_op}
use Rattle.network.specs.Cells.{row, store, write}
use Rattle.network.specs.Network.{sensors_at, heard_at, pending_at, age_at, block_size, base, copies, fresh_block, fresh}
use Rattle.round.specs.Round.{fired}
use Rattle.event.specs.Event.{fire, deliver, lose, link, signal}
use Rattle.event.specs.Step.{Answer, digit_set, sensors_of, heard_from, pending_to, age_of, plan, do_event}
use Rattle.event.proofs.ShownOpened.{doing, neg}

-- "Device a owns .. cells from (a - 1) × ..": the cells that an event names stand in a's block, at b's place (the numbers themselves: network/ShownFresh)
places : (sensors_of 1 ≡ sensors_at) × (sensors_of 2 ≡ block_size + sensors_at) × (sensors_of 16 ≡ 15 * block_size + sensors_at)
    × (heard_from 1 1 ≡ heard_at 1) × (heard_from 1 2 ≡ heard_at 2) × (heard_from 2 1 ≡ block_size + heard_at 1) × (heard_from 16 15 ≡ 15 * block_size + heard_at 15)
    × (pending_to 1 1 ≡ pending_at 1) × (pending_to 1 2 ≡ pending_at 2) × (pending_to 2 1 ≡ block_size + pending_at 1) × (pending_to 16 15 ≡ 15 * block_size + pending_at 15)
    × (age_of 1 1 ≡ age_at 1) × (age_of 1 2 ≡ age_at 2) × (age_of 2 1 ≡ block_size + age_at 1) × (age_of 16 15 ≡ 15 * block_size + age_at 15)
places = (refl, refl, refl, refl, refl, refl, refl, refl, refl, refl, refl, refl, refl, refl, refl)

-- An event that is not refused answers "0 and the value (0 unless fire)"
abbrev silent : Answer
silent = (pos 0, pos 0)

-- "0x13 link a, b, distance; the mark ends it. Nothing else changes.": one cell of a's, in every network
links : (main : Expr) (n : List ℤ) → (do_event main n (link 1 2 (pos 7)) ≡ (store n (heard_from 1 2) (pos 7 ∷ []), silent))
    × (do_event main n (link 2 1 (pos 7)) ≡ (store n (heard_from 2 1) (pos 7 ∷ []), silent))
    × (do_event main n (link 16 15 (pos 1000000)) ≡ (store n (heard_from 16 15) (pos 1000000 ∷ []), silent))
    × (do_event main n (link 1 2 (pos 0)) ≡ (store n (heard_from 1 2) (pos 0 ∷ []), silent))
    × (do_event main n (link 1 2 mark) ≡ (store n (heard_from 1 2) (mark ∷ []), silent))
unfolding doing
links main n = (refl, refl, refl, refl, refl)

-- x with its binary digit s made v, the others kept: 5 is the sensors 0 and 2, 34818 the sensors 1, 11 and 15
digits-set : (map (λ s. digit_set s 1 5) (0 ∷ 1 ∷ 2 ∷ 3 ∷ 15 ∷ []) ≡ 5 ∷ 7 ∷ 5 ∷ 13 ∷ 32773 ∷ [])
    × (map (λ s. digit_set s 0 5) (0 ∷ 1 ∷ 2 ∷ 3 ∷ 15 ∷ []) ≡ 4 ∷ 5 ∷ 1 ∷ 5 ∷ 5 ∷ [])
    × (map (λ s. digit_set s 0 34818) (1 ∷ 11 ∷ 15 ∷ 14 ∷ []) ≡ 34816 ∷ 32770 ∷ 2050 ∷ 34818 ∷ [])
    × (map (λ s. digit_set s 1 34818) (0 ∷ 11 ∷ 15 ∷ 14 ∷ []) ≡ 34819 ∷ 34818 ∷ 34818 ∷ 51202 ∷ [])
    × (map (λ s. digit_set s 1 0) (0 ∷ 15 ∷ []) ≡ 1 ∷ 32768 ∷ [])
    × (map (λ s. digit_set s 0 65535) (0 ∷ 15 ∷ []) ≡ 65534 ∷ 32767 ∷ [])
unfolding doing
digits-set = (refl, refl, refl, refl, refl, refl)

-- The cells of the devices 1 to 3. 1: sensors 0 and 2 lit. 2: sensors 1, 11 and 15 lit, a link to 1 of distance 30, the slots 1, 2 and 15 heard from it and read once.
-- Pending: from 1 to 2 the slots 2 and 15; from 2 to 1 slot 1; from 1 to 3 a message without a slot
abbrev network : List ℤ
network =
    write (copies 3 fresh_block) (
    (sensors_of 1, pos 5 ∷ [])
    ∷ (sensors_of 2, pos 34818 ∷ [])
    ∷ (heard_from 2 1, pos 30 ∷ pos 5 ∷ pos 6 ∷ replicate 12 mark ++ pos 9 ∷ [])
    ∷ (pending_to 1 2, pos 1 ∷ mark ∷ pos 8 ∷ replicate 12 mark ++ neg 4 ∷ [])
    ∷ (pending_to 2 1, pos 1 ∷ pos 3 ∷ [])
    ∷ (pending_to 1 3, pos 1 ∷ [])
    ∷ (age_of 2 1, pos 1 ∷ [])
    ∷ [])

-- "0x14 signal a, sensor, 0 or 1": a's cell of sensors, the other sensors kept
signals : (main : Expr) → (do_event main network (signal 1 3 1) ≡ (store network (sensors_of 1) (pos 13 ∷ []), silent))
    × (do_event main network (signal 1 2 0) ≡ (store network (sensors_of 1) (pos 1 ∷ []), silent))
    × (do_event main network (signal 2 0 1) ≡ (store network (sensors_of 2) (pos 34819 ∷ []), silent))
    × (do_event main network (signal 2 15 0) ≡ (store network (sensors_of 2) (pos 2050 ∷ []), silent))
    × (do_event main network (signal 2 15 1) ≡ (network, silent))
    × (do_event main network (signal 3 1 0) ≡ (network, silent))
unfolding doing
signals main = (refl, refl, refl, refl, refl, refl)

-- "0x11 deliver a, b: b's heard slots 1–15 from a become the message's, absent ones too; the pending message goes. (.. slot 0 .. stays.)"; L1: "Delivery sets the age to 0."
receipt : (main : Expr) → plan main network (deliver 1 2)
    ≡ ((heard_from 2 1 + 1, mark ∷ pos 8 ∷ replicate 12 mark ++ neg 4 ∷ []) ∷ (age_of 2 1, pos 0 ∷ []) ∷ (pending_to 1 2, pos 0 ∷ replicate 15 mark) ∷ [], silent)
unfolding doing
receipt main = refl

receipt-done : (main : Expr) → do_event main network (deliver 1 2)
    ≡ (write network ((heard_from 2 1, pos 30 ∷ mark ∷ pos 8 ∷ replicate 12 mark ++ neg 4 ∷ []) ∷ (pending_to 1 2, pos 0 ∷ replicate 15 mark) ∷ (age_of 2 1, pos 0 ∷ []) ∷ []), silent)
unfolding doing
receipt-done main = refl

-- also where the hearer has no link; also a message without a slot
receipts : (main : Expr) → (do_event main network (deliver 2 1)
    ≡ (write network ((heard_from 1 2, mark ∷ pos 3 ∷ replicate 14 mark) ∷ (pending_to 2 1, pos 0 ∷ replicate 15 mark) ∷ (age_of 1 2, pos 0 ∷ []) ∷ []), silent))
    × (do_event main network (deliver 1 3) ≡ (write network ((pending_to 1 3, pos 0 ∷ replicate 15 mark) ∷ (age_of 3 1, pos 0 ∷ []) ∷ []), silent))
unfolding doing
receipts main = (refl, refl)

-- a message without a slot takes with it what was heard, and has an age: device 1 has heard 7 from device 3
abbrev heard-before : List ℤ
heard-before = write (copies 3 fresh_block) ((heard_from 1 3, pos 30 ∷ pos 7 ∷ []) ∷ (pending_to 3 1, pos 1 ∷ []) ∷ (age_of 1 3, pos 2 ∷ []) ∷ [])

empty-received : (main : Expr) → do_event main heard-before (deliver 3 1) ≡ (write (copies 3 fresh_block) ((heard_from 1 3, pos 30 ∷ []) ∷ (age_of 1 3, pos 0 ∷ []) ∷ []), silent)
unfolding doing
empty-received main = refl

-- "0x12 lose a, b: the pending message goes."
losses : (main : Expr) → (do_event main network (lose 1 2) ≡ (write network ((pending_to 1 2, pos 0 ∷ replicate 15 mark) ∷ []), silent))
    × (do_event main network (lose 2 1) ≡ (write network ((pending_to 2 1, pos 0 ∷ replicate 15 mark) ∷ []), silent))
unfolding doing
losses main = (refl, refl)

-- at the last devices: a message is pending from 16 to 15
abbrev last : List ℤ
last = write fresh ((pending_to 16 15, pos 1 ∷ pos 2 ∷ []) ∷ [])

last-devices : (main : Expr) → (plan main last (deliver 16 15)
    ≡ ((heard_from 15 16 + 1, pos 2 ∷ replicate 14 mark) ∷ (age_of 15 16, pos 0 ∷ []) ∷ (pending_to 16 15, pos 0 ∷ replicate 15 mark) ∷ [], silent))
    × (plan main last (lose 16 15) ≡ ((pending_to 16 15, pos 0 ∷ replicate 15 mark) ∷ [], silent))
    × (plan main last (signal 16 15 1) ≡ ((sensors_of 16, pos 32768 ∷ []) ∷ [], silent))
unfolding doing
last-devices main = (refl, refl, refl)

-- "0x10 fire a: the round", of a's cells, which are stored with its answer
fires : (main : Expr) (n : List ℤ) → (plan main n (fire 1) ≡ ((base 1, (fired main (row n (base 1) block_size)).0) ∷ [], (fired main (row n (base 1) block_size)).1))
    × (plan main n (fire 2) ≡ ((base 2, (fired main (row n (base 2) block_size)).0) ∷ [], (fired main (row n (base 2) block_size)).1))
    × (plan main n (fire 16) ≡ ((base 16, (fired main (row n (base 16) block_size)).0) ∷ [], (fired main (row n (base 16) block_size)).1))
unfolding doing
fires main n = (refl, refl, refl)

-- its value, sensor 1 plus the 6 heard in slot 2, which is then one round older; its message to device 1, to which it has a link, in place of the one that was pending: 5, kept in
-- variable 3, in slot 2
abbrev sends : Expr
sends = operator 9 add (sense (constant (pos 1))) (fold_op 8 add (constant (pos 0)) (nbr 2 (rep 3 (constant (pos 5)) (variable 4 3))))

fire-done : do_event sends network (fire 2)
    ≡ (write network ((base 2 + 3, pos 5 ∷ []) ∷ (pending_to 2 1, pos 1 ∷ mark ∷ pos 5 ∷ replicate 13 mark) ∷ (age_of 2 1, pos 2 ∷ []) ∷ []), (pos 0, pos 7))
unfolding doing
fire-done = refl

-- "all that is pending from a goes", also without a link
fire-goes : do_event sends network (fire 1) ≡ (write network ((base 1 + 3, pos 5 ∷ []) ∷ (pending_to 1 2, pos 0 ∷ replicate 15 mark) ∷ (pending_to 1 3, pos 0 ∷ replicate 15 mark) ∷ []), (pos 0, pos 0))
unfolding doing
fire-goes = refl

-- "17: the node that divided"; "A fault changes nothing."
fire-fault : do_event (operator 9 div sends (constant (pos 0))) network (fire 2) ≡ (network, (pos 17, pos 9))
unfolding doing
fire-fault = refl
