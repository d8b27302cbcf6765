-- `lists::event_of` meets its contract. Assumes nothing.
use mathlib.Core.Path.{◌≡◌, refl, ◌∙◌}
use mathlib.Core.List.{List, [], ◌∷◌}
use mathlib.Core.Option.{Option, some}
use Prim.Native.Nat.{ℕ, suc, ◌-◌, ◌^◌}
use native.Mathlib.Omega.{arith}
use borrow.Author.Rules.{sfits_of}
use lib.ListN.{length, get_or}
use lib.IntN.{ℤ}
use mir.Syntax.{w32}
use mir.Val.{to_z}
use mir.Facts.{to_z-of_z}
use Rattle.std.specs.Int.{from_be_bytes}
use Rattle.program.specs.Tree.{signed}
use Rattle.wire.specs.Wire.{big}
use Rattle.wire_reader.proofs.Laws.{big_by_bytes}
use Rattle.event.specs.Event.{Event, link, read_as}
use Rattle.lists.proofs.event_of.Goals as goal

signed-is : (n : ℕ) → to_z w32 n ≡ signed n
signed-is n = let e : 2 ^ 32 - suc n ≡ 4294967295 - n = omega arith in rw e

link-read : (tag : ℕ) (s : List ℕ) (z : ℤ) → tag ≡ 0x13 → length s ≡ 6 → z ≡ to_z w32 (from_be_bytes w32 (get_or s 2 0 ∷ get_or s 3 0 ∷ get_or s 4 0 ∷ get_or s 5 0 ∷ []))
    → ◌≡◌ {A = Option Event} (some (link (get_or s 0 0) (get_or s 1 0) z)) (read_as tag s)
unfolding read_as
link-read tag (a ∷ b ∷ c ∷ d ∷ e ∷ f ∷ []) z t l q = rw (t, q) (rw (← (signed-is (big (c ∷ d ∷ e ∷ f ∷ []))), big_by_bytes (c ∷ d ∷ e ∷ f ∷ []) refl))
link-read tag [] z t l q = absurd (omega arith)
link-read tag (a ∷ []) z t l q = absurd (omega arith)
link-read tag (a ∷ b ∷ []) z t l q = absurd (omega arith)
link-read tag (a ∷ b ∷ c ∷ []) z t l q = absurd (omega arith)
link-read tag (a ∷ b ∷ c ∷ d ∷ []) z t l q = absurd (omega arith)
link-read tag (a ∷ b ∷ c ∷ d ∷ e ∷ []) z t l q = absurd (omega arith)
link-read tag (a ∷ b ∷ c ∷ d ∷ e ∷ f ∷ g ∷ s) z t l q = absurd (omega arith)

pub returns-in-19-len6 : goal.returns-in-19-len6
returns-in-19-len6 c =
    link-read c.args.tag c.args.body.now _ (omega arith) (omega arith) (to_z-of_z {w = w32} (sfits_of c.from_be_bytes-distance.type_inv) ∙ c.from_be_bytes-distance.ensures)
