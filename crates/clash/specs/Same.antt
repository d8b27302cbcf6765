-- Whether two events are the same, "byte for byte". Definitions only: nothing is assumed.
use Rattle.std.specs.Prelude.{◌≡◌, refl, List, [], ◌∷◌, ℕ, length, get_or, drop}
use Rattle.std.proofs.Common.{ap, arith}
use mathlib.Core.HLevel.{Discrete}
use Rattle.std.proofs.Math.Decide.{ℕ_discrete}
use Rattle.event.specs.Event.{Entry}

unfoldable pub same_both : (x y : ℕ) (l m : List ℕ) → Dec (x ≡ y) → Dec (l ≡ m) → Dec (x ∷ l ≡ y ∷ m)
same_both x y l m (yes e) (yes f) = yes (λ i. e i ∷ f i)
same_both x y l m (yes e) (no h) = no (λ q. h (ap (drop 1) q))
same_both x y l m (no h) d = no (λ q. h (ap (λ (k : List ℕ). get_or k 0 0) q))

unfoldable pub same_bytes : Discrete (List ℕ)
same_bytes [] [] = yes refl
same_bytes [] (y ∷ m) = no (λ q. omega (arith, ap length q))
same_bytes (x ∷ l) [] = no (λ q. omega (arith, ap length q))
same_bytes (x ∷ l) (y ∷ m) = same_both x y l m (ℕ_discrete x y) (same_bytes l m)

unfoldable pub same_parts : (e f : Entry) → Dec (e.tag ≡ f.tag) → Dec (e.body ≡ f.body) → Dec (e ≡ f)
same_parts e f (yes t) (yes b) = yes (λ i. record { tag = t i; body = b i })
same_parts e f (yes t) (no h) = no (λ q. h (ap (λ (d : Entry). d.body) q))
same_parts e f (no h) d = no (λ q. h (ap (λ (d : Entry). d.tag) q))

unfoldable pub same_entry : Discrete Entry
same_entry e f = same_parts e f (ℕ_discrete e.tag f.tag) (same_bytes e.body f.body)
