-- Flags of numbers that are taken, near the code. Internal: `proofs/Agree.antt` proves that they say what program's lists of numbers say.
use Rattle.std.specs.Prelude.{◌≡◌, Bool, true, false, not, cond, ◌||◌, List, [], ◌∷◌, ℕ, zero, suc, length, get_or, set, Result, Ok, Err}
use Rattle.shapes.specs.Shapes.{byte_values}
use Rattle.verdict.specs.declared.Reason.{Reason}
use Rattle.verdict.specs.Outcome.{number_of}
use Rattle.program.specs.Table.{beyond}

-- the number of a refusal, 0 where there is none
abbrev pub code : {A : Type 0} → Result A Reason → ℕ
code (Ok x) = 0
code (Err e) = number_of e

-- some number is taken or stands twice
unfoldable pub taken_in : List Bool → List ℕ → Bool
taken_in m [] = false
taken_in m (k ∷ ks) = get_or m k false || taken_in (set m k true) ks

unfoldable pub with_taken : List Bool → List ℕ → List Bool
with_taken m [] = m
with_taken m (k ∷ ks) = with_taken (set m k true) ks

abbrev pub take_if : Bool → ℕ → List Bool → List Bool
take_if on k m = cond on (set m k true) m

-- some number below the bound is not taken
unfoldable pub untaken : ℕ → List Bool → Bool
untaken zero m = false
untaken (suc k) m = not (get_or m k false) || untaken k m

-- a number, a byte, is looked for and taken: r is the refusal, and m' are the flags where there is none
pub record Takes (k : ℕ) (m : List Bool) (r : Result Unit Reason) (m' : List Bool) : Type 0 where
  pub number : code r ≡ cond (get_or m k false) 5 0
  pub after : code r ≡ 0 → m' ≡ set m k true
  pub long : length m' ≡ byte_values

-- children that are looked for among n nodes and taken: r is the refusal, and named' are the flags where there is none
pub record TakesKids (ks : List ℕ) (n : ℕ) (named : List Bool) (r : Result Unit Reason) (named' : List Bool) : Type 0 where
  pub number : code r ≡ cond (beyond n ks) 4 (cond (taken_in named ks) 5 0)
  pub after : code r ≡ 0 → named' ≡ with_taken named ks
