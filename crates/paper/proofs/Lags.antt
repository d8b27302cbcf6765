-- L2's runs on paper, by computation.
use mathlib.Core.Path.{◌≡◌, refl, ap}
use mathlib.Core.List.{◌++◌}
use Rattle.network.specs.Cells.{row}
use Rattle.network.specs.Network.{fresh, heard_sound, pending_sound, any_present, age_sound, cell_sound, first_not, lowest_unsound, soundness}
use Rattle.event.specs.Step.{pending_to}
use Rattle.event.specs.Calls.{Result}
use Rattle.paper.specs.Programs.{fires, delivers, links, signals}
use Rattle.paper.specs.Fading.{ten, times, heard}
use Rattle.paper.specs.Lags.{lags, ranges, weighted, when_lit, heard_five, one_way, both_ways, Lags}
use Rattle.paper.proofs.Computed.{computed}
use Rattle.paper.proofs.Fresh.{fresh-sound}
use Rattle.paper.proofs.Runs.{space, performs}

-- a message of the network that a run left
message : (r q : Result) → r ≡ q → row r.network (pending_to 2 1) 16 ≡ row q.network (pending_to 2 1) 16
message r q e = ap (λ (z : Result). row z.network (pending_to 2 1) 16) e

five-sound : soundness heard_five ≡ (0, 0)
unfolding computed heard_sound pending_sound any_present age_sound cell_sound first_not lowest_unsound soundness
five-sound = refl

pub lag-runs : Lags
unfolding computed
lag-runs =
    record {
      hex = refl;
      grows = space _ _ (performs lags fresh (both_ways ++ (heard ++ times 4 (fires 2))) 8 _ fresh-sound refl refl refl);
      anew = space _ _ (performs lags fresh (one_way ++ (heard ++ (times 2 (fires 2) ++ (heard ++ fires 2)))) 8 _ fresh-sound refl refl refl);
      no-link = space _ _ (performs lags fresh (one_way ++ (heard ++ fires 2)) 4 _ fresh-sound refl refl refl);
      no-link-range = space _ _ (performs ranges fresh (one_way ++ (heard ++ fires 2)) 4 _ fresh-sound refl refl refl);
      linked-range = space _ _ (performs ranges fresh (both_ways ++ (heard ++ fires 2)) 5 _ fresh-sound refl refl refl);
      heard-5 = space _ _ (performs lags heard_five (fires 2) 1 _ five-sound refl refl refl);
      heard-5-range = space _ _ (performs ranges heard_five (fires 2) 1 _ five-sound refl refl refl);
      sent = message _ _ (performs lags heard_five (fires 2) 1 _ five-sound refl refl refl);
      sent-unheard = message _ _ (performs lags fresh (both_ways ++ fires 2) 3 _ fresh-sound refl refl refl);
      weights =
          space _ _
          (performs weighted fresh (one_way ++ (links 3 2 ten ++ (heard ++ (fires 2 ++ (fires 3 ++ (delivers 3 2 ++ times 4 (fires 2))))))) 11 _ fresh-sound refl refl refl);
      untaken = message _ _ (performs when_lit fresh (both_ways ++ fires 2) 3 _ fresh-sound refl refl refl);
      taken = message _ _ (performs when_lit fresh (both_ways ++ (signals 2 1 1 ++ fires 2)) 4 _ fresh-sound refl refl refl);
    }
