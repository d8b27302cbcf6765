-- The lowest of the nodes that offend: there is none, or it is r. Assumes nothing.
use mathlib.Core.Path.{◌≡◌, refl, sym, ap, ◌∙◌}
use mathlib.Core.Bool.{Bool, true, false, cond, true≢false}
use mathlib.Core.List.{◌∷◌}
use mathlib.Core.Option.{none, some}
use Prim.Native.Nat.{ℕ, zero, suc, ◌<◌}
use native.Mathlib.Nat.{min-eq_right}
use native.Mathlib.Omega.{arith}
use lib.Dec.{eqb}
use borrow.Author.Tests.{eqb-true, eqb-false}
use Rattle.program.specs.Check.{lowest, offending}

module _ (p : ℕ → Bool) where
  pub none-offends : (n : ℕ) → ((k : ℕ) → k < n → p k ≡ false) → lowest (offending p n) ≡ none
  unfolding lowest offending
  none-offends zero h = refl
  none-offends (suc n) h = rw (h n (omega arith)) (none-offends n (λ k l. h k (omega arith)))

  pub one-offends : (n r : ℕ) → r < n → ((k : ℕ) → k < r → p k ≡ false) → p r ≡ true → lowest (offending p n) ≡ some r
  unfolding lowest offending
  one-offends zero r l h e = absurd (omega arith)
  one-offends (suc n) r l h e = go (eqb r n) refl (p n) refl (one-offends n r)
    where
      go : (b : Bool) → eqb r n ≡ b → (c : Bool) → p n ≡ c
          → (r < n → ((k : ℕ) → k < r → p k ≡ false) → p r ≡ true → lowest (offending p n) ≡ some r)
          → lowest (cond c (n ∷ offending p n) (offending p n)) ≡ some r
      go true f true g ih = let q : r ≡ n = eqb-true r n f in rw (none-offends n (λ k l. h k (omega arith)), q)
      go true f false g ih = absurd (true≢false (sym e ∙ ap p (eqb-true r n f) ∙ g))
      go false f c g ih =
          let q = eqb-false r n f in
          let i = ih (omega arith) h e in
          pick c i
        where
          pick : (c : Bool) → lowest (offending p n) ≡ some r → lowest (cond c (n ∷ offending p n) (offending p n)) ≡ some r
          pick true i = rw i (ap some (min-eq_right (omega arith)))
          pick false i = i
