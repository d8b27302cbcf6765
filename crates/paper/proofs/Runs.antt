-- 01's runs on paper, by computation.
use mathlib.Core.Path.{◌≡◌, refl, ap}
use mathlib.Core.List.{List, ◌++◌}
use Prim.Native.Nat.{ℕ, ◌*◌}
use lib.ListN.{replicate}
use lib.IntN.{ℤ}
use Rattle.number.specs.Number.{mark}
use Rattle.program.specs.Check.{check, main_of}
use Rattle.network.specs.Cells.{row}
use Rattle.network.specs.Network.{fresh, soundness}
use Rattle.event.specs.Event.{Entry, entries, read_list}
use Rattle.event.specs.Step.{pending_to}
use Rattle.event.specs.Calls.{room, Result, performed}
use Rattle.event.proofs.Passed.{run-performed}
use Rattle.paper.specs.Programs.{counter, lamp, distance_to, condition_two, fold_more, fires, delivers, signals, neighbours, unranged, heard_two}
use Rattle.paper.specs.Paper.{Paper, ran}
use Rattle.paper.proofs.Computed.{computed}
use Rattle.paper.proofs.Fresh.{fresh-sound, neighbours-sound, unranged-sound, heard_two-sound}

-- a run of a sound network is what performing its entries gives
pub performs : (program : List ℕ) (n : List ℤ) (list : List ℕ) (k : ℕ) (l : List Entry) → soundness n ≡ (0, 0) → check program ≡ (0, 0)
    → read_list list ≡ entries l → room l (replicate (2 * k) mark) ≡ (0, 0)
    → ran program n list k ≡ performed (main_of program) n l (replicate (2 * k) mark)
performs program n list k l sound accepted read roomy = run-performed program n list (replicate (2 * k) mark) l accepted sound read roomy

pub space : (r q : Result) → r ≡ q → r.space ≡ q.space
space r q e = ap (λ (z : Result). z.space) e

pub paper : Paper
unfolding computed
paper =
    record {
      i = space _ _ (performs counter fresh (fires 1 ++ (fires 1 ++ fires 1)) 3 _ fresh-sound refl refl refl);
      i-hex = refl;
      i-replay = space _ _ (performs counter fresh (fires 1 ++ (delivers 1 1 ++ (fires 1 ++ delivers 1 2))) 4 _ fresh-sound refl refl refl);
      ii = space _ _ (performs lamp fresh (signals 1 1 1 ++ (fires 1 ++ (fires 1 ++ (signals 1 1 0 ++ (fires 1 ++ (signals 1 1 1 ++ fires 1)))))) 7 _ fresh-sound refl refl refl);
      iii = space _ _ (performs distance_to neighbours (fires 2) 1 _ neighbours-sound refl refl refl);
      iii-sent = ap (λ (z : Result). row z.network (pending_to 2 1) 16) (performs distance_to neighbours (fires 2) 1 _ neighbours-sound refl refl refl);
      iii-sent-too = ap (λ (z : Result). row z.network (pending_to 2 3) 16) (performs distance_to neighbours (fires 2) 1 _ neighbours-sound refl refl refl);
      iv = space _ _ (performs distance_to unranged (fires 2) 1 _ unranged-sound refl refl refl);
      v = refl;
      vi = refl;
      vii = refl;
      viii = refl;
      ix = space _ _ (performs (condition_two 6) fresh (fires 1) 1 _ fresh-sound refl refl refl);
      ix-mux = space _ _ (performs (condition_two 7) fresh (fires 1) 1 _ fresh-sound refl refl refl);
      x = space _ _ (performs fold_more heard_two (fires 2) 1 _ heard_two-sound refl refl refl);
      distance = space _ _ (performs counter fresh _ 1 _ fresh-sound refl refl refl);
      distance-more = space _ _ (performs counter fresh _ 1 _ fresh-sound refl refl refl);
      sensor = space _ _ (performs counter fresh (signals 1 15 1) 1 _ fresh-sound refl refl refl);
      sensor-more = space _ _ (performs counter fresh (signals 1 16 1) 1 _ fresh-sound refl refl refl);
    }
