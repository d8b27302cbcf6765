-- Demand 3: two runs of one program on the same events, in which clashing events keep their order, end alike. Definitions only: nothing is assumed.
-- `proofs/Whole.antt` proves it.
use Rattle.std.specs.Prelude.{◌≡◌, Bool, List, ℕ, ◌+◌, ◌*◌, ◌<◌, get_or, ℤ, pos}
use mathlib.Core.HLevel.{Discrete}
use Rattle.order.specs.Order.{count, place, SameEvents, KeepsOrder}
use Rattle.program.specs.Check.{check}
use Rattle.network.specs.Network.{soundness}
use Rattle.event.specs.Event.{Entry, entries, read_list}
use Rattle.event.specs.Step.{Answer}
use Rattle.event.specs.Calls.{answer_width, room, Result, run}
use Rattle.clash.specs.Clash.{entries_clash}

-- the answer of the event at place p of a list, as the answer space holds it
abbrev pub answer_at : List ℤ → ℕ → Answer
answer_at space p = (get_or space (answer_width * p) (pos 0), get_or space (answer_width * p + 1) (pos 0))

-- "both return 0 and 0, end with every cell equal, and answer the k-th copy of each event with the same numbers": the runs r of l and q of m
pub record EndAlike (same : Discrete Entry) (l m : List Entry) (r q : Result) : Type 0 where
  pub first : r.verdict ≡ (0, 0)
  pub second : q.verdict ≡ (0, 0)
  pub cells : r.network ≡ q.network
  pub answers : (e : Entry) (k : ℕ) → k < count same e l → answer_at r.space (place same e k l) ≡ answer_at q.space (place same e k m)

-- "two runs of one accepted program, each on a network slice of its own, both sound and alike in every cell at the start", of lists s and t that read as
-- the entries l and m, orders of the same events in which clashing events keep their order, with room for the answers in x and y. Copies are counted from 0 here
pub record Given (clash : Entry → Entry → Bool) (same : Discrete Entry) (program : List ℕ) (n n' : List ℤ) (s t : List ℕ) (x y : List ℤ) (l m : List Entry) : Type 0 where
  pub accepted : check program ≡ (0, 0)
  pub sound : soundness n ≡ (0, 0)
  pub sound' : soundness n' ≡ (0, 0)
  pub alike : (c : ℕ) → get_or n c (pos 0) ≡ get_or n' c (pos 0)
  pub read : read_list s ≡ entries l
  pub read' : read_list t ≡ entries m
  pub fits : room l x ≡ (0, 0)
  pub fits' : room m y ≡ (0, 0)
  pub events : SameEvents same l m
  pub order : KeepsOrder same clash l m

abbrev pub Demand3 : Discrete Entry → Type 0
Demand3 same =
    (program : List ℕ) (n n' : List ℤ) (s t : List ℕ) (x y : List ℤ) (l m : List Entry)
    → Given entries_clash same program n n' s t x y l m
    → EndAlike same l m (run program n s x) (run program n' t y)
