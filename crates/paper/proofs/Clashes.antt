-- Each clause of the clash list is needed, by computation.
use mathlib.Core.Path.{◌≡◌, refl, sym, ap, ◌∙◌}
use mathlib.Core.Bool.{true, false, true≢false}
use mathlib.Core.List.{List, ◌++◌}
use Prim.Native.Nat.{ℕ}
use lib.ListN.{get_or, take, drop, replicate}
use lib.IntN.{ℤ, pos, negsuc}
use borrow.Author.Tests.{eq-eqb}
use Rattle.number.specs.Number.{eq_z, mark}
use Rattle.program.specs.Check.{check, main_of}
use Rattle.network.specs.Network.{fresh, heard_sound, pending_sound, any_present, age_sound, cell_sound, first_not, lowest_unsound, soundness}
use Rattle.event.specs.Event.{Entry, entries, read_list}
use Rattle.event.specs.Step.{pending_to, heard_from, sensors_of}
use Rattle.event.specs.Calls.{room, Result, performed}
use Rattle.paper.specs.Programs.{counter, lamp, fold_more, fires, delivers, loses, links, signals}
use Rattle.paper.specs.Paper.{ran}
use Rattle.paper.specs.Needed.{OrderMatters, Needed, pending, ten, twenty}
use Rattle.paper.proofs.Computed.{computed}
use Rattle.paper.proofs.Fresh.{fresh-sound}
use Rattle.paper.proofs.Runs.{performs}

pending-sound : soundness pending ≡ (0, 0)
unfolding fresh heard_sound pending_sound any_present age_sound cell_sound first_not lowest_unsound soundness
pending-sound = refl

eq_z-refl : (z : ℤ) → eq_z z z ≡ true
eq_z-refl (pos n) = eq-eqb n n refl
eq_z-refl (negsuc n) = eq-eqb n n refl

unlike : {x y : ℤ} → eq_z x y ≡ false → x ≡ y → ⊥
unlike {x} {y} h e = true≢false (sym (eq_z-refl x) ∙ ap (eq_z x) e ∙ h)

module _ (program : List ℕ) (n : List ℤ) (e f : List ℕ) (l m : List Entry) (sound : soundness n ≡ (0, 0)) (accepted : check program ≡ (0, 0))
    (here : read_list (e ++ f) ≡ entries l) (there : read_list (f ++ e) ≡ entries m) (enough : room l (replicate 4 mark) ≡ (0, 0))
    (too : room m (replicate 4 mark) ≡ (0, 0)) where
  first : Result
  first = performed (main_of program) n l (replicate 4 mark)

  second : Result
  second = performed (main_of program) n m (replicate 4 mark)

  first-is : ran program n (e ++ f) 2 ≡ first
  unfolding first
  first-is = performs program n (e ++ f) 2 l sound accepted here enough

  second_is : ran program n (f ++ e) 2 ≡ second
  unfolding second
  second_is = performs program n (f ++ e) 2 m sound accepted there too

  -- the runs differ in cell c of the networks
  by-cell : (c : ℕ) → eq_z (get_or first.network c (pos 0)) (get_or second.network c (pos 0)) ≡ false → OrderMatters program n e f
  by-cell c h =
      record {
        accepted = accepted;
        sound = sound;
        differ = λ same _ _. unlike h (ap (λ (w : List ℤ). get_or w c (pos 0)) (ap (λ (z : Result). z.network) (sym first-is) ∙ same ∙ ap (λ (z : Result). z.network) second_is));
      }

  -- they differ in number k of the answer to f
  by_answer : (k : ℕ) → eq_z (get_or (drop 2 first.space) k (pos 0)) (get_or (take 2 second.space) k (pos 0)) ≡ false → OrderMatters program n e f
  by_answer k h =
      record {
        accepted = accepted;
        sound = sound;
        differ = λ _ _ same. unlike h (ap (λ (w : List ℤ). get_or w k (pos 0)) (ap (λ (z : Result). drop 2 z.space) (sym first-is) ∙ same ∙ ap (λ (z : Result). take 2 z.space) second_is));
      }

pub needed : Needed
unfolding computed first second
needed =
    record {
      signals-it = by_answer lamp fresh (signals 1 1 1) (fires 1) _ _ fresh-sound refl refl refl refl refl 1 refl;
      links-from = by-cell counter fresh (fires 1) (links 1 2 ten) _ _ fresh-sound refl refl refl refl refl (pending_to 1 2) refl;
      delivers-from = by_answer counter pending (fires 1) (delivers 1 2) _ _ pending-sound refl refl refl refl refl 0 refl;
      delivers-to = by_answer fold_more pending (delivers 1 2) (fires 2) _ _ pending-sound refl refl refl refl refl 1 refl;
      loses-from = by_answer counter pending (fires 1) (loses 1 2) _ _ pending-sound refl refl refl refl refl 0 refl;
      same-pair = by_answer counter pending (delivers 1 2) (loses 1 2) _ _ pending-sound refl refl refl refl refl 0 refl;
      one-sensor = by-cell counter fresh (signals 1 1 0) (signals 1 1 1) _ _ fresh-sound refl refl refl refl refl (sensors_of 1) refl;
      one-pair = by-cell counter fresh (links 1 2 ten) (links 1 2 twenty) _ _ fresh-sound refl refl refl refl refl (heard_from 1 2) refl;
    }
