-- The lowest of some nodes that are fields, one node after the other. Assumes nothing.
use mathlib.Core.Path.{◌≡◌, sym, ap, ◌∙◌}
use mathlib.Core.List.{List}
use Prim.Native.Nat.{ℕ, ◌+◌, ◌≤◌, ◌<◌}
use native.Mathlib.Numerals.{add-one}
use lib.ListN.{length, get_or, drop, drop_of_length-le}
use lib.Seq.{drop-cons}
use Rattle.sorts.specs.Sorts.{lower_field, lowest_field}

module _ (ws ks : List ℕ) (r : ℕ) where
  pub all-lowered : (i low : ℕ) → length ks ≤ i → lowest_field ws ks r ≡ lowest_field ws (drop i ks) low → low ≡ lowest_field ws ks r
  unfolding lowest_field
  all-lowered i low h e = sym (e ∙ ap (λ (l : List ℕ). lowest_field ws l low) (drop_of_length-le ks h))

  pub lower-next : (i low : ℕ) {m : ℕ} → i < length ks → lowest_field ws ks r ≡ lowest_field ws (drop i ks) low → m ≡ lower_field ws (get_or ks i 0) low
      → lowest_field ws ks r ≡ lowest_field ws (drop (i + 1) ks) m
  unfolding lowest_field
  lower-next i low h e q = rw (q, add-one) (e ∙ ap (λ (l : List ℕ). lowest_field ws l low) (drop-cons ks i 0 h))
