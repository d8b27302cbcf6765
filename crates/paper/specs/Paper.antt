-- 01's 'Runs on paper', in one table. `proofs/Runs.antt` computes it. Definitions only: nothing is assumed.
use Rattle.std.specs.Prelude.{◌≡◌, List, [], ◌∷◌, ◌++◌, ℕ, ◌*◌, replicate, ℤ, pos, negsuc}
use Rattle.number.specs.Number.{floor, inf, mark, operation_result, add, sub, mul, div}
use Rattle.network.specs.Cells.{row}
use Rattle.network.specs.Network.{fresh}
use Rattle.event.specs.Step.{pending_to}
use Rattle.event.specs.Calls.{Result, run}
use Rattle.paper.specs.Programs.{counter, counter_hex, lamp, distance_to, condition_two, fold_more, fires, delivers, links, signals, neighbours, unranged, heard_two}

-- run with room for k answers
abbrev pub ran : List ℕ → List ℤ → List ℕ → ℕ → Result
ran program network list k = run program network list (replicate (2 * k) mark)

-- the answers 0 and z; a refusal
abbrev pub value : ℤ → List ℤ
value z = pos 0 ∷ z ∷ []

abbrev pub code : ℕ → List ℤ
code r = pos r ∷ pos 0 ∷ []

pub record Paper : Type 0 where
  -- "(i) (rep x 0 (+ x 1)) fired three times: 0, 1, 2"
  pub i : (ran counter fresh (fires 1 ++ (fires 1 ++ fires 1)) 3).space ≡ value (pos 0) ++ (value (pos 1) ++ value (pos 2))
  pub i-hex : counter ≡ counter_hex
  -- "Events 10 0001 01 11 0002 01 01 10 0001 01 11 0002 01 02 print"
  pub i-replay : (ran counter fresh (fires 1 ++ (delivers 1 1 ++ (fires 1 ++ delivers 1 2))) 4).space
      ≡ value (pos 0) ++ (code 15 ++ (value (pos 1) ++ code 16))
  -- "(ii) (if (sense 1) that 7): lit 0, 1; unlit 7; lit 0"
  pub ii : (ran lamp fresh (signals 1 1 1 ++ (fires 1 ++ (fires 1 ++ (signals 1 1 0 ++ (fires 1 ++ (signals 1 1 1 ++ fires 1)))))) 7).space
      ≡ code 0 ++ (value (pos 0) ++ (value (pos 1) ++ (code 0 ++ (value (pos 7) ++ (code 0 ++ value (pos 0))))))
  -- "(iii) .. 20, sending inf and 0"
  pub iii : (ran distance_to neighbours (fires 2) 1).space ≡ value (pos 20)
  pub iii-sent : row (ran distance_to neighbours (fires 2) 1).network (pending_to 2 1) 16 ≡ pos 1 ∷ inf ∷ pos 0 ∷ replicate 13 mark
  pub iii-sent-too : row (ran distance_to neighbours (fires 2) 1).network (pending_to 2 3) 16 ≡ pos 1 ∷ inf ∷ pos 0 ∷ replicate 13 mark
  -- "(iv) The same, slot 2 unheard: inf"
  pub iv : (ran distance_to unranged (fires 2) 1).space ≡ value inf
  -- "(v) inf + -5 = inf. (vi) 5 - inf = floor. (vii) -7 / 2 = -3. (viii) 65,536 × 32,768 = inf"
  pub v : operation_result add inf (negsuc 4) ≡ inf
  pub vi : operation_result sub (pos 5) inf ≡ floor
  pub vii : operation_result div (negsuc 6) (pos 2) ≡ negsuc 2
  pub viii : operation_result mul (pos 65536) (pos 32768) ≡ inf
  -- "(ix) Condition 2 takes else", of an if and of a mux
  pub ix : (ran (condition_two 6) fresh (fires 1) 1).space ≡ value (pos 6)
  pub ix-mux : (ran (condition_two 7) fresh (fires 1) 1).space ≡ value (pos 6)
  -- "(x) Fold by >, 5 over 1↦3, 3↦0: 1"
  pub x : (ran fold_more heard_two (fires 2) 1).space ≡ value (pos 1)
  -- "Distance 1,000,000 passes, 1,000,001 gets 14; sensor 15 passes, 16 gets 14"
  pub distance : (ran counter fresh (links 1 2 (0x00 ∷ 0x0f ∷ 0x42 ∷ 0x40 ∷ [])) 1).space ≡ code 0
  pub distance-more : (ran counter fresh (links 1 2 (0x00 ∷ 0x0f ∷ 0x42 ∷ 0x41 ∷ [])) 1).space ≡ code 14
  pub sensor : (ran counter fresh (signals 1 15 1) 1).space ≡ code 0
  pub sensor-more : (ran counter fresh (signals 1 16 1) 1).space ≡ code 14
