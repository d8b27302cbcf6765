-- What the tests of devices say. Assumes nothing.
use mathlib.Core.Path.{◌≡◌}
use mathlib.Core.Bool.{true, ◌&&◌}
use Prim.Native.Nat.{ℕ, ◌≤◌}
use lib.Dec.{leb}
use borrow.Author.Tests.{leb-true}
use Rattle.field.specs.Field.{devices}
use Rattle.decide.proofs.Picks.{both}
use Rattle.event.specs.Step.{is_device}

abbrev pub Device : ℕ → Type 0
Device a = (1 ≤ a) × (a ≤ devices)

abbrev pub Pair : ℕ → ℕ → Type 0
Pair a b = Device a × Device b

pub device : (a : ℕ) → is_device a ≡ true → Device a
device a q = let h = both (leb 1 a) (leb a devices) q in (leb-true 1 a h.0, leb-true a devices h.1)

pub pair_of : (a b : ℕ) → (is_device a && is_device b) ≡ true → Pair a b
pair_of a b q = let h = both (is_device a) (is_device b) q in (device a h.0, device b h.1)
