-- What the replay program prints. Definitions only: nothing is assumed, and nothing can be said of which bytes a file holds.
use Rattle.std.specs.Prelude.{List, ℕ, Option, Some, None, ◌≡◌, take}
use Rattle.files.specs.Whole.{Shorter}
use Rattle.lines.specs.Text.{refused_line}
use Rattle.shift.specs.Replayed.{replayed}

-- the text of two files, by what their reads answered and left in the buffers. "18: a file absent or over 4,096 bytes"
unfoldable pub text_of : Option ℕ → List ℕ → Option ℕ → List ℕ → List ℕ
text_of (Some p) program (Some n) list = replayed (take p program) (take n list)
text_of (Some p) program None list = refused_line 18 0
text_of None program second list = refused_line 18 0

-- the text is that of two reads that left these buffers. What the reads answered is not said: no contract of the kit tells it
pub record Printed (program list text : List ℕ) : Type 0 where
  pub first : Option ℕ
  pub second : Option ℕ
  pub shorter : Shorter first program × Shorter second list
  pub is : text ≡ text_of first program second list
