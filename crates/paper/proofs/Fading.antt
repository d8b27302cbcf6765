-- L1's runs on paper, by computation.
use mathlib.Core.Path.{◌≡◌, refl, ap}
use mathlib.Core.List.{◌++◌}
use Prim.Native.Nat.{ℕ, ◌+◌}
use lib.ListN.{get_or}
use lib.IntN.{pos}
use Rattle.network.specs.Cells.{row}
use Rattle.network.specs.Network.{fresh, heard_sound, pending_sound, any_present, age_sound, cell_sound, first_not, lowest_unsound, soundness}
use Rattle.event.specs.Step.{heard_from, age_of}
use Rattle.event.specs.Calls.{Result}
use Rattle.paper.specs.Programs.{counter, fires, delivers, loses, signals}
use Rattle.paper.specs.Fading.{sums, times, ready, heard, Fading}
use Rattle.paper.proofs.Computed.{computed}
use Rattle.paper.proofs.Fresh.{fresh-sound}
use Rattle.paper.proofs.Runs.{space, performs}

-- n cells of the network that a run left, from cell c on; one of them
cells : (c n : ℕ) (r q : Result) → r ≡ q → row r.network c n ≡ row q.network c n
cells c n r q e = ap (λ (z : Result). row z.network c n) e

cell : (c : ℕ) (r q : Result) → r ≡ q → get_or r.network c (pos 9) ≡ get_or q.network c (pos 9)
cell c r q e = ap (λ (z : Result). get_or z.network c (pos 9)) e

age : ℕ
age = age_of 2 1

pub fading : Fading
unfolding computed heard_sound pending_sound any_present age_sound cell_sound first_not lowest_unsound soundness age
fading =
    record {
      three-rounds = space _ _ (performs sums fresh (ready ++ (heard ++ times 5 (fires 2))) 13 _ fresh-sound refl refl refl);
      gone = cells (heard_from 2 1) 16 _ _ (performs sums fresh (ready ++ (heard ++ times 3 (fires 2))) 11 _ fresh-sound refl refl refl);
      ages = (
        cell age _ _ (performs sums fresh (ready ++ heard) 8 _ fresh-sound refl refl refl),
        cell age _ _ (performs sums fresh (ready ++ (heard ++ times 1 (fires 2))) 9 _ fresh-sound refl refl refl),
        cell age _ _ (performs sums fresh (ready ++ (heard ++ times 2 (fires 2))) 10 _ fresh-sound refl refl refl),
        cell age _ _ (performs sums fresh (ready ++ (heard ++ times 3 (fires 2))) 11 _ fresh-sound refl refl refl),
      );
      fault-between =
          space _ _
          (performs sums fresh (ready ++ (heard ++ (fires 2 ++ (signals 2 0 0 ++ (times 3 (fires 2) ++ (signals 2 0 1 ++ times 3 (fires 2))))))) 17 _ fresh-sound refl refl refl);
      anew = space _ _ (performs sums fresh (ready ++ (heard ++ (times 2 (fires 2) ++ (heard ++ times 4 (fires 2))))) 16 _ fresh-sound refl refl refl);
      empty = (
        cell age _ _ (performs counter fresh (ready ++ heard) 8 _ fresh-sound refl refl refl),
        cell age _ _ (performs counter fresh (ready ++ (heard ++ times 2 (fires 2))) 10 _ fresh-sound refl refl refl),
        cell age _ _ (performs counter fresh (ready ++ (heard ++ times 3 (fires 2))) 11 _ fresh-sound refl refl refl),
      );
      two-senders = space _ _ (performs sums fresh (ready ++ (heard ++ (fires 2 ++ (fires 3 ++ (delivers 3 2 ++ times 4 (fires 2)))))) 15 _ fresh-sound refl refl refl);
      unheard = cells (age_of 1 1) 16 _ _ (performs sums fresh (ready ++ times 4 (fires 1)) 10 _ fresh-sound refl refl refl);
      sender-fires = space _ _ (performs sums fresh (ready ++ (heard ++ (times 3 (fires 1) ++ fires 2))) 12 _ fresh-sound refl refl refl);
      lost = cells age 16 _ _ (performs sums fresh (ready ++ (fires 1 ++ (loses 1 2 ++ delivers 1 2))) 9 _ fresh-sound refl refl refl);
      refused-16 = space _ _ (performs sums fresh (ready ++ (heard ++ (fires 2 ++ (delivers 1 2 ++ times 3 (fires 2))))) 13 _ fresh-sound refl refl refl);
      ageless-first = refl;
      ageless-last = refl;
      age-3 = refl;
      age-below = refl;
      own-age = refl;
      mark-first = refl;
      without-slot = refl;
      with-age = refl;
    }
