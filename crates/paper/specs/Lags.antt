-- L2, "Lag beside range", as a table of runs on paper. `proofs/Lags.antt` computes it. Definitions only: nothing is assumed.
use Rattle.std.specs.Prelude.{◌≡◌, List, [], ◌∷◌, ◌++◌, ℕ, replicate, ℤ, pos}
use Rattle.number.specs.Number.{mark}
use Rattle.program.specs.Conditions.{program_bytes}
use Rattle.network.specs.Cells.{row, write}
use Rattle.network.specs.Network.{fresh}
use Rattle.event.specs.Step.{heard_from, pending_to, age_of}
use Rattle.paper.specs.Programs.{x, fires, delivers, links, signals}
use Rattle.paper.specs.Fading.{ten, times, heard}
use Rattle.paper.specs.Paper.{ran, value, code}

-- (fold-hood* + 0 (+ 10 (nbr-lag))), and with (nbr-range), in slot 1: 10 and the measure of each device in the field
abbrev pub measures : ℕ → List ℕ
measures kind = program_bytes (x 0 (0 ∷ []) ∷ x 0 (10 ∷ []) ∷ x kind (1 ∷ []) ∷ x 3 (0 ∷ 1 ∷ 2 ∷ []) ∷ x 10 (0 ∷ 0 ∷ 3 ∷ []) ∷ []) 4

abbrev pub lags : List ℕ
lags = measures 13

abbrev pub ranges : List ℕ
ranges = measures 9

-- the bytes of `lags`
abbrev pub lags_hex : List ℕ
lags_hex =
    0x01 ∷ 0x00 ∷ 0x05 ∷ 0x00 ∷ 0x00 ∷ 0x00 ∷ 0x00 ∷ 0x00
    ∷ 0x01 ∷ 0x00 ∷ 0x05 ∷ 0x00 ∷ 0x00 ∷ 0x00 ∷ 0x00 ∷ 0x0a
    ∷ 0x01 ∷ 0x00 ∷ 0x02 ∷ 0x0d ∷ 0x01
    ∷ 0x01 ∷ 0x00 ∷ 0x04 ∷ 0x03 ∷ 0x00 ∷ 0x01 ∷ 0x02
    ∷ 0x01 ∷ 0x00 ∷ 0x04 ∷ 0x0a ∷ 0x00 ∷ 0x00 ∷ 0x03
    ∷ 0x03 ∷ 0x00 ∷ 0x01 ∷ 0x04
    ∷ []

-- (fold-hood* + 0 (* (nbr 100) (- 3 (nbr-lag)))), in the slots 1 and 2: each neighbour's 100, times 3 less its lag
abbrev pub weighted : List ℕ
weighted =
    program_bytes (
    x 0 (0 ∷ []) ∷ x 0 (100 ∷ []) ∷ x 8 (1 ∷ 1 ∷ []) ∷ x 0 (3 ∷ []) ∷ x 13 (2 ∷ []) ∷ x 3 (1 ∷ 3 ∷ 4 ∷ []) ∷ x 3 (2 ∷ 2 ∷ 5 ∷ []) ∷ x 10 (0 ∷ 0 ∷ 6 ∷ []) ∷ [])
    7

-- (if (sense 1) (fold-hood* + 0 (nbr-lag)) 7), in slot 1
abbrev pub when_lit : List ℕ
when_lit = program_bytes (x 0 (1 ∷ []) ∷ x 4 (0 ∷ []) ∷ x 0 (0 ∷ []) ∷ x 13 (1 ∷ []) ∷ x 10 (0 ∷ 2 ∷ 3 ∷ []) ∷ x 0 (7 ∷ []) ∷ x 6 (1 ∷ 4 ∷ 5 ∷ []) ∷ []) 6

-- device 2 heard, in slot 1, 5 from 1 and 0 from 3, at 10 and 20, what 3 sent two rounds ago
abbrev pub heard_five : List ℤ
heard_five = write fresh ((heard_from 2 1, pos 10 ∷ pos 5 ∷ []) ∷ (heard_from 2 3, pos 20 ∷ pos 0 ∷ []) ∷ (age_of 2 1, pos 0 ∷ mark ∷ pos 2 ∷ []) ∷ [])

-- 1 has a link to 2; with one back, 2 also has a distance to 1
abbrev pub one_way : List ℕ
one_way = links 1 2 ten

abbrev pub both_ways : List ℕ
both_ways = one_way ++ links 2 1 ten

pub record Lags : Type 0 where
  -- "Node kind 13 carries a slot"
  pub hex : lags ≡ lags_hex
  -- "a field of ages": 0 on delivery, 1 and 2 after one and two rounds, and gone with what was heard
  pub grows : (ran lags fresh (both_ways ++ (heard ++ times 4 (fires 2))) 8).space
      ≡ times 4 (code 0) ++ (value (pos 10) ++ (value (pos 11) ++ (value (pos 12) ++ value (pos 0))))
  -- a delivery starts it anew
  pub anew : (ran lags fresh (one_way ++ (heard ++ (times 2 (fires 2) ++ (heard ++ fires 2)))) 8).space
      ≡ times 3 (code 0) ++ (value (pos 10) ++ (value (pos 11) ++ (times 2 (code 0) ++ value (pos 10))))
  -- "link or none": where 2 has no distance to 1, in for lag and out for range; with one, in for both
  pub no-link : (ran lags fresh (one_way ++ (heard ++ fires 2)) 4).space ≡ times 3 (code 0) ++ value (pos 10)
  pub no-link-range : (ran ranges fresh (one_way ++ (heard ++ fires 2)) 4).space ≡ times 3 (code 0) ++ value (pos 0)
  pub linked-range : (ran ranges fresh (both_ways ++ (heard ++ fires 2)) 5).space ≡ times 4 (code 0) ++ value (pos 20)
  -- "devices heard with 0 in that slot": 1, heard with 5, is out of both, 3 is in with its lag 2 and its distance 20
  pub heard-5 : (ran lags heard_five (fires 2) 1).space ≡ value (pos 12)
  pub heard-5-range : (ran ranges heard_five (fires 2) 1).space ≡ value (pos 30)
  -- "sends 0", with nobody heard too
  pub sent : row (ran lags heard_five (fires 2) 1).network (pending_to 2 1) 16 ≡ pos 1 ∷ pos 0 ∷ replicate 14 mark
  pub sent-unheard : row (ran lags fresh (both_ways ++ fires 2) 3).network (pending_to 2 1) 16 ≡ pos 1 ∷ pos 0 ∷ replicate 14 mark
  -- "to weight a neighbour by how stale it is": 1 alone 300; a round on 200, with 3, newly heard, 500; then 100 and 200; then 100 of 3
  pub weights : (ran weighted fresh (one_way ++ (links 3 2 ten ++ (heard ++ (fires 2 ++ (fires 3 ++ (delivers 3 2 ++ times 4 (fires 2))))))) 11).space
      ≡ times 4 (code 0) ++ (value (pos 300) ++ (times 2 (code 0) ++ (value (pos 500) ++ (value (pos 300) ++ (value (pos 100) ++ value (pos 0))))))
  -- a branch not taken sends nothing: 2, unlit, answers 7 with an empty message; lit, it sends 0
  pub untaken : row (ran when_lit fresh (both_ways ++ fires 2) 3).network (pending_to 2 1) 16 ≡ pos 1 ∷ replicate 15 mark
  pub taken : row (ran when_lit fresh (both_ways ++ (signals 2 1 1 ++ fires 2)) 4).network (pending_to 2 1) 16 ≡ pos 1 ∷ pos 0 ∷ replicate 14 mark
