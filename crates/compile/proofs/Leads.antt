-- How many items lead a form's operands, by its head's code. Assumes nothing.
use mathlib.Core.Path.{◌≡◌, refl}
use mathlib.Core.Bool.{Bool, true, false, cond}
use mathlib.Core.Logic.{◌⊎◌, inl, inr}
use Prim.Native.Nat.{ℕ, zero, suc, ◌-◌}
use native.Mathlib.Omega.{arith}
use lib.Dec.{ltb}
use lib.ListN.{get_or}
use borrow.Author.Tests.{ltb-false}
use Rattle.notation.specs.Words.{operation, nothing}
use Rattle.vocabulary.specs.Codes.{form_heads, head_by_code}
use Rattle.tabling.specs.Emit.{leads}

by_place : (i : ℕ) → (i ≡ 2 → ⊥) → (i ≡ 8 → ⊥) → leads (get_or form_heads i nothing) ≡ 1
by_place zero p q = refl
by_place (suc zero) p q = refl
by_place (suc (suc zero)) p q = absurd (p refl)
by_place (suc (suc (suc zero))) p q = refl
by_place (suc (suc (suc (suc zero)))) p q = refl
by_place (suc (suc (suc (suc (suc zero))))) p q = refl
by_place (suc (suc (suc (suc (suc (suc zero)))))) p q = refl
by_place (suc (suc (suc (suc (suc (suc (suc zero))))))) p q = refl
by_place (suc (suc (suc (suc (suc (suc (suc (suc zero)))))))) p q = absurd (q refl)
by_place (suc (suc (suc (suc (suc (suc (suc (suc (suc zero))))))))) p q = refl
by_place (suc (suc (suc (suc (suc (suc (suc (suc (suc (suc zero)))))))))) p q = refl
by_place (suc (suc (suc (suc (suc (suc (suc (suc (suc (suc (suc i))))))))))) p q = refl

pub one-lead : (k : ℕ) → ((k ≡ 11) ⊎ (k ≡ 17) → ⊥) → leads (head_by_code k) ≡ 1
unfolding head_by_code
one-lead k p = go (ltb k 9) refl
  where
    go : (b : Bool) → ltb k 9 ≡ b → leads (cond b operation (get_or form_heads (k - 9) nothing)) ≡ 1
    go true e = refl
    go false e = let l = ltb-false k 9 e in by_place (k - 9) (λ x. p (inl (omega (arith, l, x)))) (λ x. p (inr (omega (arith, l, x))))

pub two-leads : (k : ℕ) → (k ≡ 11) ⊎ (k ≡ 17) → leads (head_by_code k) ≡ 2
unfolding head_by_code
two-leads k (inl e) = rw e
two-leads k (inr e) = rw e
