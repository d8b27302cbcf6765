-- What is known of a file that was read. Definitions only: nothing is assumed, and nothing can be said of which bytes a file holds.
use Rattle.std.specs.Prelude.{List, Option, Some, None, ◌≡◌, ℕ, ◌<◌, length, take}

-- the bytes read stand at the start of the buffer, and it is not full. The second part follows from the first; a slice of n bytes asks for both
abbrev pub Shorter : Option ℕ → List ℕ → Type 0
Shorter (Some n) buf = (n < length buf) × (n ≡ length (take n buf))
Shorter None buf = Unit {0}
