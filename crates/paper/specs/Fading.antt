-- L1, "Old messages fade", as a table of runs on paper. `proofs/Fading.antt` computes it. Definitions only: nothing is assumed.
use Rattle.std.specs.Prelude.{◌≡◌, List, [], ◌∷◌, ◌++◌, ℕ, zero, suc, ◌+◌, get_or, replicate, ℤ, pos, negsuc}
use Rattle.number.specs.Number.{mark}
use Rattle.program.specs.Conditions.{program_bytes}
use Rattle.network.specs.Cells.{row, write}
use Rattle.network.specs.Network.{fresh, soundness}
use Rattle.event.specs.Step.{heard_from, pending_to, age_of}
use Rattle.paper.specs.Programs.{x, counter, fires, delivers, loses, links, signals}
use Rattle.paper.specs.Paper.{ran, value, code}

-- (/ (fold-hood* + 0 (nbr 4)) (sense 0)), in slot 1: each device sends 4 and answers the sum of what it heard; node 6 divides by 0 where sensor 0 is unlit
abbrev pub sums : List ℕ
sums = program_bytes (x 0 (0 ∷ []) ∷ x 0 (4 ∷ []) ∷ x 8 (1 ∷ 1 ∷ []) ∷ x 10 (0 ∷ 0 ∷ 2 ∷ []) ∷ x 0 (0 ∷ []) ∷ x 4 (4 ∷ []) ∷ x 3 (3 ∷ 3 ∷ 5 ∷ []) ∷ []) 6

abbrev pub ten : List ℕ
ten = 0 ∷ 0 ∷ 0 ∷ 10 ∷ []

-- k times the same list, the same answers
abbrev pub times : {A : Type 0} → ℕ → List A → List A
times zero l = []
times (suc k) l = l ++ times k l

-- sensor 0 of the devices 1 to 3 lit, links from 1 and 3 to 2 and one back to 1: six answers of 0
abbrev pub ready : List ℕ
ready = signals 1 0 1 ++ (signals 2 0 1 ++ (signals 3 0 1 ++ (links 1 2 ten ++ (links 3 2 ten ++ links 2 1 ten))))

-- device 1 sends, and 2 hears it: two answers, 0 and 0
abbrev pub heard : List ℕ
heard = fires 1 ++ delivers 1 2

-- the cells of a network in which 2 heard 5 in slot i from 1, with no age
abbrev pub ageless : ℕ → List ℤ
ageless i = write fresh ((heard_from 2 1 + i, pos 5 ∷ []) ∷ [])

pub record Fading : Type 0 where
  -- "after its reading. On reaching 3 ..": a message is read by three rounds and gone for the fourth
  pub three-rounds : (ran sums fresh (ready ++ (heard ++ times 5 (fires 2))) 13).space ≡ times 8 (code 0) ++ (times 3 (value (pos 4)) ++ times 2 (value (pos 0)))
  -- and its slots with the age, while the distance stays
  pub gone : row (ran sums fresh (ready ++ (heard ++ times 3 (fires 2))) 11).network (heard_from 2 1) 16 ≡ pos 10 ∷ replicate 15 mark
  pub ages : (get_or (ran sums fresh (ready ++ heard) 8).network (age_of 2 1) (pos 9) ≡ pos 0)
      × (get_or (ran sums fresh (ready ++ (heard ++ times 1 (fires 2))) 9).network (age_of 2 1) (pos 9) ≡ pos 1)
      × (get_or (ran sums fresh (ready ++ (heard ++ times 2 (fires 2))) 10).network (age_of 2 1) (pos 9) ≡ pos 2)
      × (get_or (ran sums fresh (ready ++ (heard ++ times 3 (fires 2))) 11).network (age_of 2 1) (pos 9) ≡ mark)
  -- "A faulted round ages nothing."
  pub fault-between : (ran sums fresh (ready ++ (heard ++ (fires 2 ++ (signals 2 0 0 ++ (times 3 (fires 2) ++ (signals 2 0 1 ++ times 3 (fires 2))))))) 17).space
      ≡ times 8 (code 0) ++ (value (pos 4) ++ (code 0 ++ (times 3 (pos 17 ∷ pos 6 ∷ []) ++ (code 0 ++ (times 2 (value (pos 4)) ++ value (pos 0))))))
  -- "Delivery sets the age to 0.": a second one starts it anew
  pub anew : (ran sums fresh (ready ++ (heard ++ (times 2 (fires 2) ++ (heard ++ times 4 (fires 2))))) 16).space
      ≡ times 8 (code 0) ++ (times 2 (value (pos 4)) ++ (times 2 (code 0) ++ (times 3 (value (pos 4)) ++ value (pos 0))))
  -- an empty message sets it too, and is forgotten in three rounds: the counter sends nothing
  pub empty : (get_or (ran counter fresh (ready ++ heard) 8).network (age_of 2 1) (pos 9) ≡ pos 0)
      × (get_or (ran counter fresh (ready ++ (heard ++ times 2 (fires 2))) 10).network (age_of 2 1) (pos 9) ≡ pos 2)
      × (get_or (ran counter fresh (ready ++ (heard ++ times 3 (fires 2))) 11).network (age_of 2 1) (pos 9) ≡ mark)
  -- two senders at different ages: what 1 sent is gone a round before what 3 sent
  pub two-senders : (ran sums fresh (ready ++ (heard ++ (fires 2 ++ (fires 3 ++ (delivers 3 2 ++ times 4 (fires 2)))))) 15).space
      ≡ times 8 (code 0) ++ (value (pos 4) ++ (times 2 (code 0) ++ (times 2 (value (pos 8)) ++ (value (pos 4) ++ value (pos 0)))))
  -- a device that fires without hearing has no age; its hearer's rounds alone count, so the sender's do not age what it sent
  pub unheard : row (ran sums fresh (ready ++ times 4 (fires 1)) 10).network (age_of 1 1) 16 ≡ replicate 16 mark
  pub sender-fires : (ran sums fresh (ready ++ (heard ++ (times 3 (fires 1) ++ fires 2))) 12).space ≡ times 11 (code 0) ++ value (pos 4)
  -- a loss sets no age, nor does a delivery that is refused
  pub lost : row (ran sums fresh (ready ++ (fires 1 ++ (loses 1 2 ++ delivers 1 2))) 9).network (age_of 2 1) 16 ≡ replicate 16 mark
  pub refused-16 : (ran sums fresh (ready ++ (heard ++ (fires 2 ++ (delivers 1 2 ++ times 3 (fires 2))))) 13).space
      ≡ times 8 (code 0) ++ (value (pos 4) ++ (code 16 ++ (times 2 (value (pos 4)) ++ value (pos 0))))
  -- "present where a slot 1–15 is, else the age's cell offends", the first slot and the last; "absent or 0 to 2"; "for itself .. absent"
  pub ageless-first : soundness (ageless 1) ≡ (11, age_of 2 1)
  pub ageless-last : soundness (ageless 15) ≡ (11, age_of 2 1)
  pub age-3 : soundness (write fresh ((age_of 2 1, pos 3 ∷ []) ∷ [])) ≡ (11, age_of 2 1)
  pub age-below : soundness (write fresh ((age_of 2 1, negsuc 0 ∷ []) ∷ [])) ≡ (11, age_of 2 1)
  pub own-age : soundness (write fresh ((age_of 2 2, pos 0 ∷ []) ∷ [])) ≡ (11, age_of 2 2)
  -- a bad pending mark of the same device is named first; an age without a slot is sound, and so is the slot with its age
  pub mark-first : soundness (write (ageless 1) ((pending_to 2 16, pos 2 ∷ []) ∷ [])) ≡ (11, pending_to 2 16)
  pub without-slot : soundness (write fresh ((age_of 2 1, pos 2 ∷ []) ∷ [])) ≡ (0, 0)
  pub with-age : soundness (write (ageless 1) ((age_of 2 1, pos 2 ∷ []) ∷ [])) ≡ (0, 0)
