-- Demand 3 of the code: what two runs side by side leave. Definitions only: nothing is assumed.
use Rattle.std.specs.Prelude.{◌≡◌, List, ℕ, ℤ}
use Rattle.event.specs.Event.{Entry}
use Rattle.event.specs.Calls.{Result, run}
use Rattle.clash.specs.Clash.{entries_clash}
use Rattle.clash.specs.Same.{same_entry}
use Rattle.clash.specs.Demand3.{Given, EndAlike}
use Rattle.both.specs.declared.Verdicts.{Verdicts}

-- what each run returned and left
abbrev pub first : Verdicts → List ℤ → List ℤ → Result
first v network space = record { verdict = (v.number1, v.place1); network = network; space = space }

abbrev pub second : Verdicts → List ℤ → List ℤ → Result
second v network space = record { verdict = (v.number2, v.place2); network = network; space = space }

-- the runs r and q are those of the definitions; where the lists are orders of the same events, they end alike
pub record Both (program : List ℕ) (n n' : List ℤ) (s t : List ℕ) (x y : List ℤ) (r q : Result) : Type 0 where
  pub one : r ≡ run program n s x
  pub other : q ≡ run program n' t y
  pub alike : (l m : List Entry) → Given entries_clash same_entry program n n' s t x y l m → EndAlike same_entry l m r q
