-- `token_scans::count` keeps this in its loop.
use Rattle.std.specs.Prelude.{◌≡◌, ℕ, Bool, ◌-◌, ◌≤◌, length}
use Rattle.token_scans.specs.declared.Mode.{Mode}
use Rattle.token_scans.specs.Sought.{number_of}
use Rattle.token_scans.proofs.Counts.{Counting}
use Rattle.token_scans.proofs.count.Given as goal

abbrev pub invariant-loop-l : goal.invariant-loop-l
invariant-loop-l g l = record {
  within : l.at ≤ length l.part;
  few : l.n ≤ l.at;
  passed : (f : ℕ → ℕ → Bool) → ((m : Mode) (code : ℕ) (r : Bool) → goal.F-post g l.passes m code r → r ≡ f (number_of m) code) → Counting f l.part l.at (number_of l.m) l.n;
}

abbrev pub decreases-loop-l : goal.decreases-loop-l
decreases-loop-l g l = length l.part - l.at
