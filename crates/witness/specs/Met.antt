-- What demand 3 is given can be met: by two orders of a shift that exchange events of every two kinds, and by two empty lists; and what it concludes, in numbers.
-- `proofs/Shown.antt` shows it. Definitions only: nothing is assumed.
use Rattle.std.specs.Prelude.{◌≡◌, Bool, true, false, ◌||◌, List, [], ◌∷◌, map, ℕ, ◌+◌, get_or, ℤ, pos}
use Rattle.order.specs.Order.{count, place}
use Rattle.program.specs.Table.{among}
use Rattle.network.specs.Network.{fresh, base}
use Rattle.event.specs.Event.{Entry}
use Rattle.event.specs.Step.{Answer, heard_from, pending_to, age_of}
use Rattle.event.specs.Calls.{Result, run}
use Rattle.paper.specs.Programs.{counter}
use Rattle.clash.specs.Clash.{entries_clash}
use Rattle.clash.specs.Same.{same_entry}
use Rattle.clash.specs.Demand3.{answer_at, Given, EndAlike}
use Rattle.witness.specs.Shift.{tally, fires, delivers, loses, links, signals, left, right, shift, exchanged, bytes, zeros}

-- whether some event of l clashes with some event of m
abbrev pub clashes_any : Entry → List Entry → Bool
clashes_any e [] = false
clashes_any e (f ∷ m) = entries_clash e f || clashes_any e m

abbrev pub some_clash : List Entry → List Entry → Bool
some_clash [] m = false
some_clash (e ∷ l) m = clashes_any e m || some_clash l m

-- whether each of the five kinds of event is in l
abbrev pub every_kind : List Entry → List Bool
every_kind l = map (λ t. among t (map (λ e. e.tag) l)) (0x10 ∷ 0x11 ∷ 0x12 ∷ 0x13 ∷ 0x14 ∷ [])

-- the two runs, and the answer that the second gives to copy k of e (counted from 0)
abbrev pub first : Result
first = run tally fresh (bytes shift) zeros

abbrev pub second : Result
second = run tally fresh (bytes exchanged) zeros

abbrev pub answer : Entry → ℕ → Answer
answer e k = answer_at second.space (place same_entry e k exchanged)

-- a cell after the second run
abbrev pub cell : ℕ → ℤ
cell c = get_or second.network c (pos 0)

pub record Met : Type 0 where
  -- the two orders differ: every event of the one stretch has changed places with every event of the other, and both have events of each kind
  pub differ : shift ≡ exchanged → ⊥
  pub free : some_clash left right ≡ false
  pub kinds : (every_kind left ≡ true ∷ true ∷ true ∷ true ∷ true ∷ []) × (every_kind right ≡ true ∷ true ∷ true ∷ true ∷ true ∷ [])
  -- some clash, within a stretch and with what stands behind both, and keep their order
  pub clashing : (entries_clash (links 1 2 10) (fires 1) ≡ true) × (entries_clash (fires 1) (loses 1 2) ≡ true) × (entries_clash (delivers 1 3) (fires 3) ≡ true)
      × (entries_clash (signals 3 0 1) (fires 3) ≡ true)
  -- they are what demand 3 is given, and it concludes
  pub given : Given entries_clash same_entry tally fresh fresh (bytes shift) (bytes exchanged) zeros zeros shift exchanged
  pub alike : EndAlike same_entry shift exchanged first second
  -- read off it, of the second run: the second copy of fire 1 and of fire 2 answers 1, where the first answers 0
  pub copies : (count same_entry (fires 1) shift ≡ 2) × (place same_entry (fires 1) 1 shift ≡ 6) × (place same_entry (fires 1) 1 exchanged ≡ 18)
  pub first-copy : (answer (fires 1) 0 ≡ (pos 0, pos 0)) × (answer (fires 2) 0 ≡ (pos 0, pos 0))
  pub second-copy : (answer (fires 1) 1 ≡ (pos 0, pos 1)) × (answer (fires 2) 1 ≡ (pos 0, pos 1))
  -- the message from 1 was received by 3
  pub heard : answer (fires 3) 0 ≡ (pos 0, pos 6)
  -- faults at node 8, both copies; refusals
  pub faults : (answer (fires 6) 0 ≡ (pos 17, pos 8)) × (answer (fires 6) 1 ≡ (pos 17, pos 8))
  pub refused : (answer (fires 17) 0 ≡ (pos 14, pos 0)) × (answer (delivers 1 1) 0 ≡ (pos 15, pos 0)) × (answer (loses 1 4) 0 ≡ (pos 16, pos 0))
  -- and cells: device 1's variable is 1, its second message to 2 is pending, 3 has heard 6 from it
  pub cells : (cell (base 1) ≡ pos 1) × (cell (pending_to 1 2) ≡ pos 1) × (cell (heard_from 3 1 + 1) ≡ pos 6)
  -- L1: "reorderings must leave the ages equal too": 3 has fired once since it heard 1, 4 not since it heard 2
  pub ages : (cell (age_of 3 1) ≡ pos 1) × (cell (age_of 4 2) ≡ pos 0)
  -- "empty ones too"
  pub empty : Given entries_clash same_entry counter fresh fresh [] [] [] [] [] []
  pub alike-empty : EndAlike same_entry [] [] (run counter fresh [] []) (run counter fresh [] [])
