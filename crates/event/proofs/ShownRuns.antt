-- Runs: each event on the network that the event before it left, the answers at the start of the space, by computation. Assumes nothing.
use mathlib.Core.Path.{◌≡◌, refl}
use mathlib.Core.List.{List, [], ◌∷◌, ◌++◌, map}
use Prim.Native.Nat.{ℕ}
use lib.ListN.{replicate}
use lib.IntN.{ℤ, pos}
use Rattle.number.specs.Number.{add, div}
use Rattle.program.specs.Tree.{Expr, constant, variable, operator, sense, rep}
use Rattle.order.specs.Order.{last_net, answers}
use Rattle.network.specs.Cells.{store, write}
use Rattle.network.specs.Network.{base, copies, fresh_block, soundness}
use Rattle.event.specs.Event.{Entry}
use Rattle.event.specs.Step.{sensors_of, heard_from, pending_to, age_of, step}
use Rattle.event.specs.Calls.{flat, Result, performed, one_event, run}
use Rattle.event.proofs.ShownOpened.{calling, entry, bytes}

-- (rep x 0 (+ x 1)); the cells of the devices 1 and 2 as when fresh
abbrev counter : Expr
counter = rep 0 (constant (pos 0)) (operator 3 add (variable 1 0) (constant (pos 1)))

abbrev two : List ℤ
two = copies 2 fresh_block

abbrev done : List ℤ → List ℤ → Result
done n space = record { verdict = (0, 0); network = n; space = space }

abbrev fire : ℕ → Entry
fire a = entry 0x10 (a ∷ [])

abbrev deliver : ℕ → ℕ → Entry
deliver a b = entry 0x11 (a ∷ b ∷ [])

abbrev lose : ℕ → ℕ → Entry
lose a b = entry 0x12 (a ∷ b ∷ [])

abbrev link : ℕ → ℕ → ℕ → Entry
link a b d = entry 0x13 (a ∷ b ∷ 0 ∷ 0 ∷ 0 ∷ d ∷ [])

abbrev signal : ℕ → ℕ → ℕ → Entry
signal a s v = entry 0x14 (a ∷ s ∷ v ∷ [])

-- 01's list: 0 and 0, 15 and 0, 0 and 1, 16 and 0. "Space beyond the pairs is untouched."
paper-list : performed counter two (fire 1 ∷ deliver 1 1 ∷ fire 1 ∷ deliver 1 2 ∷ []) (replicate 10 (pos 9))
    ≡ done (write two ((base 1, pos 1 ∷ []) ∷ [])) (map pos (0 ∷ 0 ∷ 15 ∷ 0 ∷ 0 ∷ 1 ∷ 16 ∷ 0 ∷ 9 ∷ 9 ∷ []))
unfolding calling
paper-list = refl

-- a link, a message on it, its receipt; then there is none to receive or to lose, nor does a refused event change what follows
message-received : performed counter two (link 1 2 10 ∷ fire 1 ∷ fire 17 ∷ deliver 1 2 ∷ deliver 1 2 ∷ lose 1 2 ∷ fire 1 ∷ []) (replicate 15 (pos 9))
    ≡ done (write two ((base 1, pos 1 ∷ []) ∷ (heard_from 1 2, pos 10 ∷ []) ∷ (pending_to 1 2, pos 1 ∷ []) ∷ (age_of 2 1, pos 0 ∷ []) ∷ []))
    (map pos (0 ∷ 0 ∷ 0 ∷ 0 ∷ 14 ∷ 0 ∷ 0 ∷ 0 ∷ 16 ∷ 0 ∷ 16 ∷ 0 ∷ 0 ∷ 1 ∷ 9 ∷ []))
unfolding calling
message-received = refl

-- sensor 1, over sensor 2: a fault in the middle, by the sensors as they are then
abbrev lamps : Expr
lamps = operator 4 div (sense (constant (pos 1))) (sense (constant (pos 2)))

fault-between : performed lamps two (fire 1 ∷ signal 1 2 1 ∷ fire 1 ∷ signal 1 1 1 ∷ fire 1 ∷ fire 2 ∷ []) (replicate 12 (pos 9))
    ≡ done (write two ((sensors_of 1, pos 6 ∷ []) ∷ [])) (map pos (17 ∷ 4 ∷ 0 ∷ 0 ∷ 0 ∷ 0 ∷ 0 ∷ 0 ∷ 0 ∷ 1 ∷ 17 ∷ 4 ∷ []))
unfolding calling
fault-between = refl

-- no event: no answer
no-event : (main : Expr) (n space : List ℤ) → performed main n [] space ≡ done n (store space 0 [])
unfolding calling
no-event main n space = refl

-- lists of any length: the network that the last event left, and every answer
any-run : (main : Expr) (n : List ℤ) (l : List Entry) (space : List ℤ) → performed main n l space ≡ done (last_net (step main) n l) (store space 0 (flat (answers (step main) n l)))
unfolding calling
any-run main n l space = refl

-- Calls of the program that is the constant 7, on any sound network: "0 and 0 when it did its work"
abbrev seven : List ℕ
seven = bytes 1 (0 ∷ 0 ∷ 0 ∷ 0 ∷ 7 ∷ []) ++ bytes 3 (0 ∷ [])

abbrev links : ℕ → ℕ → ℕ → List ℕ
links a b d = bytes 0x13 (a ∷ b ∷ 0 ∷ 0 ∷ 0 ∷ d ∷ [])

module _ (n : List ℤ) (sound : soundness n ≡ (0, 0)) where
  runs : (run seven n (links 1 2 7 ++ (links 0 2 7 ++ links 2 1 8)) (replicate 7 (pos 9))
      ≡ done (store (store n (heard_from 1 2) (pos 7 ∷ [])) (heard_from 2 1) (pos 8 ∷ [])) (map pos (0 ∷ 0 ∷ 14 ∷ 0 ∷ 0 ∷ 0 ∷ 9 ∷ [])))
      × (run seven n [] (pos 9 ∷ []) ≡ done n (pos 9 ∷ []))
      × (run seven n [] [] ≡ done n [])
  unfolding calling
  runs = rw sound (refl, refl, refl)

  fires : ((run seven n (bytes 0x10 (1 ∷ []) ++ (bytes 0x11 (2 ∷ 2 ∷ []) ++ bytes 0x10 (16 ∷ []))) (replicate 6 (pos 9))).space ≡ pos 0 ∷ pos 7 ∷ pos 15 ∷ pos 0 ∷ pos 0 ∷ pos 7 ∷ [])
      × ((one_event seven n (bytes 0x10 (1 ∷ [])) (replicate 3 (pos 9))).space ≡ pos 0 ∷ pos 7 ∷ pos 9 ∷ [])
  unfolding calling
  fires = rw sound (refl, refl)

  -- one event, and the run of a list of one
  one-event : (one_event seven n (links 1 2 7) (replicate 3 (pos 9)) ≡ done (store n (heard_from 1 2) (pos 7 ∷ [])) (pos 0 ∷ pos 0 ∷ pos 9 ∷ []))
      × (one_event seven n (links 1 2 7) (replicate 2 (pos 9)) ≡ run seven n (links 1 2 7) (replicate 2 (pos 9)))
      × (one_event seven n (links 1 1 7) (replicate 2 (pos 9)) ≡ done n (pos 15 ∷ pos 0 ∷ []))
  unfolding calling
  one-event = rw sound (refl, refl, refl)
