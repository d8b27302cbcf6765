-- What demand 3 is given can be met, and what it then concludes, by computation and by demand 3.
use mathlib.Core.Path.{◌≡◌, refl, sym, ap, ◌∙◌}
use mathlib.Core.List.{List, []}
use Prim.Native.Nat.{ℕ, ◌+◌, ◌<◌}
use native.Mathlib.Decide.{ℕ_discrete}
use native.Mathlib.Omega.{arith}
use lib.ListN.{get_or}
use lib.IntN.{ℤ, pos}
use Rattle.order.specs.Order.{count, place, SameEvents, KeepsOrder}
use Rattle.order.proofs.Agree.{agree-sound}
use Rattle.network.specs.Network.{fresh, base}
use Rattle.event.specs.Event.{Entry}
use Rattle.event.specs.Step.{Answer, heard_from, pending_to, age_of}
use Rattle.event.specs.Calls.{Result, performed}
use Rattle.program.specs.Check.{main_of}
use Rattle.event.proofs.Passed.{run-performed}
use Rattle.paper.specs.Programs.{counter}
use Rattle.paper.proofs.Computed.{computed}
use Rattle.paper.proofs.Fresh.{fresh-sound}
use Rattle.clash.specs.Clash.{entries_clash}
use Rattle.clash.specs.Same.{same_both, same_bytes, same_parts, same_entry}
use Rattle.clash.specs.Demand3.{answer_at, Given, EndAlike}
use Rattle.clash.proofs.Symmetric.{entries-symmetric}
use Rattle.clash.proofs.Whole.{demand-3}
use Rattle.witness.specs.Shift.{tally, fires, delivers, loses, shift, exchanged, bytes, zeros}
use Rattle.witness.specs.Met.{first, second, answer, cell, Met}

orders : SameEvents same_entry shift exchanged × KeepsOrder same_entry entries_clash shift exchanged
unfolding computed same_entry same_parts same_bytes same_both ℕ_discrete
orders = agree-sound same_entry entries_clash entries-symmetric shift exchanged refl

given : Given entries_clash same_entry tally fresh fresh (bytes shift) (bytes exchanged) zeros zeros shift exchanged
unfolding computed
given =
    record {
      accepted = refl;
      sound = fresh-sound;
      sound' = fresh-sound;
      alike = λ c. refl;
      read = refl;
      read' = refl;
      fits = refl;
      fits' = refl;
      events = orders.0;
      order = orders.1;
    }

alike : EndAlike same_entry shift exchanged first second
alike = demand-3 same_entry tally fresh fresh _ _ zeros zeros _ _ given

performs : first ≡ performed (main_of tally) fresh shift zeros
performs = run-performed tally fresh (bytes shift) zeros shift given.accepted fresh-sound given.read given.fits

-- what the first run answers, computed; the second answers alike
answered : (e : Entry) (k : ℕ) (a : Answer) → k < count same_entry e shift → answer_at (performed (main_of tally) fresh shift zeros).space (place same_entry e k shift) ≡ a
    → answer e k ≡ a
answered e k a h q = sym (alike.answers e k h) ∙ ap (λ (r : Result). answer_at r.space (place same_entry e k shift)) performs ∙ q

-- likewise its cells
ends : (c : ℕ) (z : ℤ) → get_or (performed (main_of tally) fresh shift zeros).network c (pos 0) ≡ z → cell c ≡ z
ends c z q =
    ap (λ (n : List ℤ). get_or n c (pos 0)) (sym alike.cells)
    ∙ ap (λ (r : Result). get_or r.network c (pos 0)) performs
    ∙ q

empty : Given entries_clash same_entry counter fresh fresh [] [] [] [] [] []
unfolding computed
empty =
    record {
      accepted = refl;
      sound = fresh-sound;
      sound' = fresh-sound;
      alike = λ c. refl;
      read = refl;
      read' = refl;
      fits = refl;
      fits' = refl;
      events = λ e. refl;
      order = λ e f c i j hi hj. absurd (omega arith);
    }

one : 0 < 1
one = omega arith

one_of_two : 0 < 2
one_of_two = omega arith

two : 1 < 2
two = omega arith

pub met : Met
unfolding computed same_entry same_parts same_bytes same_both ℕ_discrete
met =
    record {
      differ = λ q. omega (arith, ap (λ (l : List Entry). get_or (get_or l 0 (fires 0)).body 0 0) q);
      free = refl;
      kinds = (refl, refl);
      clashing = (refl, refl, refl, refl);
      given = given;
      alike = alike;
      copies = (refl, refl, refl);
      first-copy = (answered (fires 1) 0 _ one_of_two refl, answered (fires 2) 0 _ one_of_two refl);
      second-copy = (answered (fires 1) 1 _ two refl, answered (fires 2) 1 _ two refl);
      heard = answered (fires 3) 0 _ one refl;
      faults = (answered (fires 6) 0 _ one_of_two refl, answered (fires 6) 1 _ two refl);
      refused = (answered (fires 17) 0 _ one refl, answered (delivers 1 1) 0 _ one refl, answered (loses 1 4) 0 _ one refl);
      cells = (ends (base 1) _ refl, ends (pending_to 1 2) _ refl, ends (heard_from 3 1 + 1) _ refl);
      ages = (ends (age_of 3 1) _ refl, ends (age_of 4 2) _ refl);
      empty = empty;
      alike-empty = demand-3 same_entry counter fresh fresh _ _ _ _ _ _ empty;
    }
