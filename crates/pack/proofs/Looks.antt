-- The lowest node that offends, as the pass looks for it. Assumes nothing.
use mathlib.Core.Path.{◌≡◌, refl, sym, ap, subst, ◌∙◌}
use mathlib.Core.Bool.{Bool, true, false, cond, ◌&&◌, ◌||◌, or-true, or-false}
use mathlib.Core.List.{List, [], ◌∷◌}
use mathlib.Core.Option.{none, some}
use Prim.Native.Nat.{ℕ, ◌+◌, ◌≤◌, ◌<◌}
use native.Mathlib.Omega.{arith}
use lib.Dec.{eqb, ltb}
use borrow.Author.Count.{below_none, below_more}
use borrow.Author.Tests.{eqb-true, eq-eqb, ltb-true, ltb-false}
use Rattle.operands.specs.Found.{found}
use Rattle.program.specs.Table.{among, node_limit}
use Rattle.program.specs.Check.{lowest, offending}
use Rattle.decide.proofs.Picks.{or-fails, and-fails}
use Rattle.sorts.specs.Sorts.{is_field_at, first_bad, lower_field, lowest_field}
use Rattle.operands.proofs.Found.{none-offends, one-offends}

-- r is the lowest of the nodes below i that offend, or that of no node
pub record Looked (p : ℕ → Bool) (r i : ℕ) : Type 0 where
  pub most : r ≤ node_limit
  pub clean : (k : ℕ) → k < i → k < r → p k ≡ false
  pub bad : r < node_limit → (r < i) × (p r ≡ true)

module _ (p : ℕ → Bool) where
  pub look_none : Looked p node_limit 0
  look_none = record { most = omega arith; clean = below_none _; bad = λ l. absurd (omega arith) }

  -- a node that does not offend
  pub look-clean : (r i : ℕ) → Looked p r i → p i ≡ false → Looked p r (i + 1)
  look-clean r i l e =
      record {
        most = l.most;
        clean = below_more (λ (k : ℕ). k < r → p k ≡ false) i l.clean (λ _. e);
        bad = λ m. (omega (arith, (l.bad m).0), (l.bad m).1);
      }

  pub look : (r i : ℕ) (b : Bool) → Looked p r i → i < node_limit → b ≡ p i → Looked p (first_bad r i b) (i + 1)
  look r i b l h e = go (ltb r node_limit) refl b refl
    where
      go : (x : Bool) → ltb r node_limit ≡ x → (y : Bool) → b ≡ y → Looked p (cond x r (cond y i node_limit)) (i + 1)
      go true q y f =
          let (o, a) = l.bad (ltb-true r node_limit q) in
          record { most = l.most; clean = λ k _ m. l.clean k (omega arith) m; bad = λ _. (omega arith, a) }
      go false q true f =
          let z : r ≡ node_limit = omega (arith, ltb-false r node_limit q, l.most) in
          record { most = omega arith; clean = λ k _ m. l.clean k m (omega arith); bad = λ _. (omega arith, sym e ∙ f) }
      go false q false f =
          let z : r ≡ node_limit = omega (arith, ltb-false r node_limit q, l.most) in
          subst (λ (m : ℕ). Looked p m (i + 1)) z (look-clean r i l (sym e ∙ f))

  pub answer : (r n : ℕ) → n ≤ node_limit → Looked p r n → lowest (offending p n) ≡ found r
  answer r n h l = go (ltb r node_limit) refl
    where
      go : (x : Bool) → ltb r node_limit ≡ x → lowest (offending p n) ≡ cond x (some r) none
      go true q = let (o, a) = l.bad (ltb-true r node_limit q) in one-offends p n r o (λ k m. l.clean k (omega arith) m) a
      go false q = none-offends p n (λ k m. l.clean k m (omega (arith, ltb-false r node_limit q)))

-- the same nodes offend
pub alike : {p q : ℕ → Bool} {r n : ℕ} → ((k : ℕ) → k < n → q k ≡ p k) → Looked p r n → Looked q r n
alike {p} {q} {r} e l =
    record { most = l.most; clean = λ k h m. e k h ∙ l.clean k h m; bad = λ m. ((l.bad m).0, e r (l.bad m).0 ∙ (l.bad m).1) }

-- ---- some nodes offend as fields too: the lowest is the lower of both
joined : (p e a f : Bool) → (p || (e || a) && f) ≡ ((p || e && f) || a && f)
joined true e a f = refl
joined false true a true = refl
joined false true true false = refl
joined false true false false = refl
joined false false a f = refl

module _ (ws : List ℕ) (n : ℕ) (few : n ≤ node_limit) (there : (k : ℕ) → is_field_at ws k ≡ true → k < n) where
  lower : {p : ℕ → Bool} {r : ℕ} (b : ℕ) → Looked p r n → Looked (λ k. p k || eqb k b && is_field_at ws k) (lower_field ws b r) n
  lower {p} {r} b l = go (is_field_at ws b) refl (ltb b r) refl
    where
      -- a node that did not offend, and does not as b
      still : (k : ℕ) → p k ≡ false → (eqb k b ≡ true → is_field_at ws k ≡ false) → (p k || eqb k b && is_field_at ws k) ≡ false
      still k e f = or-fails e (and-fails (eqb k b) (is_field_at ws k) f)

      stays : (k : ℕ) → p k ≡ true → (p k || eqb k b && is_field_at ws k) ≡ true
      stays k e = rw e

      go : (x : Bool) → is_field_at ws b ≡ x → (y : Bool) → ltb b r ≡ y → Looked (λ k. p k || eqb k b && is_field_at ws k) (cond (x && y) b r) n
      go true q true o =
          let m : b < n = there b q in
          let h : b < r = ltb-true b r o in
          record {
            most = omega arith;
            clean = λ k u v. still k (l.clean k u (omega arith)) (λ e. absurd (omega (arith, eqb-true k b e)));
            bad = λ _. (m, rw (eq-eqb b b refl, q) (or-true (p b)));
          }
      go true q false o =
          let h : r ≤ b = ltb-false b r o in
          record {
            most = l.most;
            clean = λ k u v. still k (l.clean k u v) (λ e. absurd (omega (arith, eqb-true k b e)));
            bad = λ m. ((l.bad m).0, stays r (l.bad m).1);
          }
      go false q y o =
          record {
            most = l.most;
            clean = λ k u v. still k (l.clean k u v) (λ e. ap (is_field_at ws) (eqb-true k b e) ∙ q);
            bad = λ m. ((l.bad m).0, stays r (l.bad m).1);
          }

  pub lowest-of : (ks : List ℕ) {p : ℕ → Bool} {r : ℕ} → Looked p r n → Looked (λ k. p k || among k ks && is_field_at ws k) (lowest_field ws ks r) n
  unfolding among lowest_field
  lowest-of [] {p} l = alike (λ k _. or-false (p k)) l
  lowest-of (b ∷ ks) {p} l = alike (λ k _. joined (p k) (eqb k b) (among k ks) (is_field_at ws k)) (lowest-of ks (lower b l))
