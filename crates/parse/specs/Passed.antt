-- What one pass over a text finds, and what all of them come to. Definitions only: nothing is assumed.
use Rattle.std.specs.Prelude.{◌≡◌, Bool, true, false, Result, Ok, Err, List, [], ◌∷◌, ℕ, suc, ◌+◌, ◌≤◌, ◌<◌, min, length}
use Rattle.std.proofs.Math.Option.{Option, none, some}
use Rattle.notation.proofs.Machine.{Symbol, run, start as outset}
use Rattle.notation.proofs.Lexing.{lex}
use Rattle.notation.proofs.Place.{place}
use Rattle.levels.specs.Levels.{levels_at, window}

-- how many levels there are where the machine refuses a token, or at the end of the text
abbrev pub levels : List ℕ → ℕ
levels s = levels_at (0 ∷ []) (lex s)

abbrev pub is_empty : List Symbol → Bool
is_empty [] = true
is_empty (x ∷ st) = false

-- A pass that holds the levels from base on: it refuses a token only behind the machine's first refusal, and that very token if it stands on a level that is held
pub record Passed (s : List ℕ) (base : ℕ) (refused : Bool) (at deepest : ℕ) (done : Bool) : Type 0 where
  pub least : place s ≤ at
  pub within : at ≤ length s
  pub stops : refused ≡ true → run outset (lex s) ≡ none
  pub exact : run outset (lex s) ≡ none → base < levels s → levels s ≤ base + window → (refused ≡ true) × (at ≡ place s)
  pub deep : levels s ≤ suc deepest
  -- a text that is a beginning is shared whole; the first pass sees whether it ends a program
  pub whole : (st : List Symbol) → run outset (lex s) ≡ some st → (place s ≡ length s) × (base ≡ 0 → done ≡ is_empty st)

-- by what a pass gives: whether the text ended where a program may, or the place of the token that it refused
abbrev pub PassedBy : List ℕ → ℕ → Result Bool ℕ → ℕ → Type 0
PassedBy s base (Ok done) deepest = Passed s base false (length s) deepest done
PassedBy s base (Err at) deepest = Passed s base true at deepest false

-- of two passes the first's end counts, or the lesser place where a token was refused
abbrev pub sooner : Result Bool ℕ → Result Bool ℕ → Result Bool ℕ
sooner (Ok done) (Ok done') = Ok done
sooner (Ok done) (Err at) = Err at
sooner (Err at) (Ok done) = Err at
sooner (Err at) (Err at') = Err (min at at')

-- whether the machine ends with nothing to come
abbrev pub ends : Option (List Symbol) → Bool
ends none = false
ends (some st) = is_empty st
