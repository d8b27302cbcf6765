-- An answer that may be missing. Assumes nothing.
use mathlib.Core.Path.{◌≡◌}
use mathlib.Core.Option.{Option, none, some, none-ne-some, some-injective}

module _ {A : Type 0} {a : A} where
  pub none-some : {B : Type 0} → ◌≡◌ {A = Option A} none (some a) → B
  none-some e = absurd (none-ne-some a e)

  pub some_of : {b : A} → ◌≡◌ {A = Option A} (some a) (some b) → a ≡ b
  some_of {b} e = some-injective a b e
