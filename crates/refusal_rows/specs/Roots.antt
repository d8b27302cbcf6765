-- What testing a field that is no node comes to. Internal: no contract of a C function cites it. Definitions only: nothing is assumed.
use Rattle.std.specs.Prelude.{◌≡◌, Bool, true, List, ℕ, get_or, set, Result, IfOk}
use Rattle.verdict.specs.declared.Reason.{Reason}
use Rattle.taken.specs.Taken.{code}
use Rattle.kinds.specs.Taken.{taken_of}
use Rattle.refusal_rows.specs.declared.Root.{Root}
use Rattle.refusal_rows.specs.declared.Root.TheVariants.{Definition, Main}
use Rattle.refusal_rows.specs.Numbers.{definition_number, main_number, field_number}

-- what a field of this tag and body gives, and what is taken after it
abbrev pub GivesRoot : ℕ → List ℕ → List Bool → List Bool → Root → Type 0
GivesRoot tag b named named' (Definition parameters body) =
    (tag ≡ 2) × (parameters ≡ get_or b 0 0) × (body ≡ get_or b 1 0) × (named' ≡ set named (get_or b 1 0) true)
GivesRoot tag b named named' (Main main) = (tag ≡ 3) × (main ≡ get_or b 0 0) × (named' ≡ set named (get_or b 0 0) true)

-- each: the refusal, or what the field gives
pub record TakesDefinition (b : List ℕ) (n defs : ℕ) (named : List Bool) (r : Result Root Reason) (named' : List Bool) : Type 0 where
  pub number : code r ≡ definition_number b n defs named
  pub gives : IfOk r (GivesRoot 2 b named named')

pub record TakesMain (b : List ℕ) (n : ℕ) (named : List Bool) (r : Result Root Reason) (named' : List Bool) : Type 0 where
  pub number : code r ≡ main_number b n named
  pub gives : IfOk r (GivesRoot 3 b named named')

-- a field that is no node
pub record TakesRoot (tag : ℕ) (b : List ℕ) (n defs : ℕ) (named : List Bool) (r : Result Root Reason) (named' : List Bool) : Type 0 where
  pub number : (counts : List ℕ) (slots kept : List Bool) → code r ≡ field_number tag b n defs counts (taken_of named slots kept)
  pub gives : IfOk r (GivesRoot tag b named named')
