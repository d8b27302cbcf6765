-- A law over the measure, for nbr-range and nbr-lag; what a round reads is what stands in the device's cells: what was heard, the distances, the ages. Assumes nothing.
use mathlib.Core.Path.{◌≡◌, ◌∙◌}
use mathlib.Core.List.{List}
use Prim.Native.Nat.{ℕ, ◌+◌, ◌-◌, ◌≤◌, ◌<◌}
use native.Mathlib.Omega.{arith}
use lib.ListN.{length, take, drop, length-take, get_or-append}
use lib.Seq.{get_or-append-add, get_or-take, get_or-drop, take-append-le, take-take}
use lib.IntN.{ℤ, pos}
use Rattle.field.specs.Field.{devices}
use Rattle.field.proofs.Each.{from-same}
use Rattle.network.specs.Network.{heard_at, pending_at, age_at}
use Rattle.round.specs.Round.{heard, distance, age, ages, own, lag_of, measured, range_in, lag_in}

-- where the same is heard and two measures agree, they give one field
pub measured-same : (m n : List ℤ → ℕ → ℤ) (here there : List ℤ) (i : ℕ) → ((j : ℕ) → j < devices → heard here i (1 + j) ≡ heard there i (1 + j))
    → ((j : ℕ) → j < devices → m here (1 + j) ≡ n there (1 + j)) → measured m here i ≡ measured n there i
unfolding measured
measured-same m n here there i h k = from-same _ _ devices 1 (λ j l. rw (h j l, k j l))

module _ (block : List ℤ) (l : pending_at 1 ≤ length block) where
  first-length : length (take (pending_at 1) block) ≡ pending_at 1
  first-length = omega (arith, length-take (pending_at 1) block)

  pub own-heard : (i b : ℕ) → heard_at b + i < pending_at 1 → heard (own block) i b ≡ heard block i b
  own-heard i b h =
      get_or-append (take (pending_at 1) block) (ages block) (pos 0) (heard_at b + i) (omega (arith, first-length))
      ∙ get_or-take (pending_at 1) block (heard_at b + i) (pos 0) h

  pub own-lag : (b : ℕ) → b ≤ devices → lag_of (own block) b ≡ age block b
  own-lag b h =
      (rw first-length at (get_or-append-add (take (pending_at 1) block) (ages block) (b - 1) (pos 0)))
      ∙ (get_or-take devices (drop (age_at 1) block) (b - 1) (pos 0) (omega arith)
      ∙ get_or-drop (age_at 1) block (b - 1) (pos 0))

  pub own-variables : take 16 (own block) ≡ take 16 block
  own-variables = take-append-le 16 (take (pending_at 1) block) (ages block) (omega (arith, first-length)) ∙ take-take 16 (pending_at 1) block (omega arith)

  -- so nbr-range gives the distances of the device's cells, and nbr-lag their ages
  heard-same : (i : ℕ) → i < 16 → (j : ℕ) → j < devices → heard (own block) i (1 + j) ≡ heard block i (1 + j)
  heard-same i h j k = own-heard i (1 + j) (omega arith)

  pub own_range : (i : ℕ) → i < 16 → range_in (own block) i ≡ measured distance block i
  own_range i h = measured-same distance distance (own block) block i (heard-same i h) (heard-same 0 (omega arith))

  pub own-lags : (i : ℕ) → i < 16 → lag_in (own block) i ≡ measured age block i
  own-lags i h = measured-same lag_of age (own block) block i (heard-same i h) (λ j k. own-lag (1 + j) (omega arith))
