-- What a call that takes events returns and leaves, as the definitions have it. Definitions only: nothing is assumed.
use Rattle.std.specs.Prelude.{◌≡◌, List, ℕ, ℤ}
use Rattle.std.specs.Prelude as std
use Rattle.verdict.specs.declared.Refusal.{Refusal}
use Rattle.verdict.specs.declared.Verdict.{Verdict}
use Rattle.verdict.specs.Outcome.{outcome}
use Rattle.verdict.specs.Pair.{pair}
use Rattle.event.specs.Event.{Entry, Read, entries, read_list}
use Rattle.event.specs.Calls.{Result}
use Rattle.lists.specs.Listed.{count_of}

-- of a call that answers a Result, and of one that answers its verdict
abbrev pub left_by : std.Result Unit Refusal → List ℤ → List ℤ → Result
left_by r network space = record { verdict = outcome r; network = network; space = space }

abbrev pub result_of : Verdict → List ℤ → List ℤ → Result
result_of v network space = record { verdict = pair v; network = network; space = space }

-- a call that may answer as `post` says counts the list s, read so; and where it is not refused, the entries read are those of the list
pub record Counts (post : std.Result ℕ Refusal → Type 0) (s : List ℕ) (read : Read) : Type 0 where
  pub count : (r : std.Result ℕ Refusal) → post r → r ≡ count_of read
  pub list : (l : List Entry) → read ≡ entries l → read_list s ≡ entries l
