-- 01's example of what the replay prints. `proofs/Shown.antt` computes it. Definitions only: nothing is assumed.
use Rattle.std.specs.Prelude.{◌≡◌, List, [], ◌∷◌, ℕ}
use Rattle.paper.specs.Programs.{counter_hex}
use Rattle.shift.specs.Replayed.{replayed}

-- "Events 10 0001 01 11 0002 01 01 10 0001 01 11 0002 01 02"
abbrev pub events : List ℕ
events = 0x10 ∷ 0 ∷ 1 ∷ 1 ∷ 0x11 ∷ 0 ∷ 2 ∷ 1 ∷ 1 ∷ 0x10 ∷ 0 ∷ 1 ∷ 1 ∷ 0x11 ∷ 0 ∷ 2 ∷ 1 ∷ 2 ∷ []

-- "0 0 0", "1 15 0", "2 0 1", "3 16 0", a line each
abbrev pub text : List ℕ
text = 48 ∷ 32 ∷ 48 ∷ 32 ∷ 48 ∷ 10 ∷ 49 ∷ 32 ∷ 49 ∷ 53 ∷ 32 ∷ 48 ∷ 10 ∷ 50 ∷ 32 ∷ 48 ∷ 32 ∷ 49 ∷ 10 ∷ 51 ∷ 32 ∷ 49 ∷ 54 ∷ 32 ∷ 48 ∷ 10 ∷ []

pub record Example : Type 0 where
  pub prints : replayed counter_hex events ≡ text
  -- a program with no main: "refused 6 0"
  pub no_main : replayed [] events ≡ 114 ∷ 101 ∷ 102 ∷ 117 ∷ 115 ∷ 101 ∷ 100 ∷ 32 ∷ 54 ∷ 32 ∷ 48 ∷ 10 ∷ []
  -- no event, no line
  pub none : replayed counter_hex [] ≡ []
