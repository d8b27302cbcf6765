-- A domain's lowest member is the count of its trailing zeros, and the others are those of the domain without that bit. Assumes nothing.
use mathlib.Core.Path.{◌≡◌, refl, sym, ap, ◌∙◌}
use mathlib.Core.Logic.{⊎_elim}
use mathlib.Core.List.{List, [], ◌∷◌}
use Prim.Native.Nat.{ℕ, zero, suc, ◌+◌, ◌-◌, ◌*◌, ◌/◌, ◌%◌, ◌^◌, ◌≤◌, ◌<◌}
use native.Mathlib.Nat.{pow-suc, suc-add, add-suc, add-zero, zero-add, div-div-eq-div-mul, div-one}
use native.Mathlib.Omega.{arith}
use lib.Dec.{eqb}
use lib.Count.{count_trailing_zeros, under, ones, ones_in, ones_step}
use lib.ListN.{length}
use lib.Arith.{lt-one}
use Rattle.bits.proofs.Bits.{parity}
use Rattle.bits.specs.Bits.{has_bit}
use Rattle.domain.specs.Members.{before, those, members}

-- the set ones of d's k lowest bits, the first of which stands for `at`: the members, by halving
unfoldable pub devs : ℕ → ℕ → ℕ → List ℕ
devs zero at d = []
devs (suc k) at d = before (eqb (d % 2) 1) at (devs k (suc at) (d / 2))

halves : (k at d : ℕ) → those at k (λ (j : ℕ). has_bit j d) ≡ devs k at (d / 2 ^ at)
unfolding those devs
halves zero at d = refl
halves (suc k) at d =
    ap (before (has_bit at d) at)
    (halves k (suc at) d ∙ ap (devs k (suc at)) (ap (λ (p : ℕ). d / p) (pow-suc 2 at) ∙ sym (div-div-eq-div-mul d (2 ^ at) 2)))

pub by-halves : (d : ℕ) → members d ≡ devs 16 0 d
unfolding members
by-halves d = halves 16 0 d ∙ ap (devs 16 0) (div-one d)

record Step (k at d t : ℕ) : Type 0 where
  within : t < k
  low : 2 ^ t ≤ d
  next : devs k at d ≡ (at + t) ∷ devs k at (d - 2 ^ t)

even : (k at d : ℕ) → d % 2 ≡ 0 → Step k (suc at) (d / 2) (count_trailing_zeros k (d / 2)) → Step (suc k) at d (count_trailing_zeros (suc k) d)
unfolding devs count_trailing_zeros
even k at d e r =
    let t = count_trailing_zeros k (d / 2) in
    let tz : count_trailing_zeros (suc k) d ≡ suc t = ap (λ (b : ℕ). under b t) e in
    let l : 2 ^ t ≤ d / 2 = r.low in
    let pw : 2 ^ suc t ≡ 2 ^ t * 2 = pow-suc 2 t in
    let e0 : (d - 2 ^ suc t) % 2 ≡ 0 = omega arith in
    let e1 : (d - 2 ^ suc t) / 2 ≡ d / 2 - 2 ^ t = omega arith in
    rw tz
    record {
      within = omega (arith, r.within);
      low = omega arith;
      next =
          ap (λ (b : ℕ). before (eqb b 1) at (devs k (suc at) (d / 2))) e
          ∙ r.next
          ∙ ap (λ (n : ℕ). n ∷ devs k (suc at) (d / 2 - 2 ^ t)) (suc-add at t ∙ sym (add-suc at t))
          ∙ ap (λ (n : ℕ). (at + suc t) ∷ devs k (suc at) n) (sym e1)
          ∙ ap (λ (b : ℕ). (at + suc t) ∷ before (eqb b 1) at (devs k (suc at) ((d - 2 ^ suc t) / 2))) (sym e0);
    }

odd : (k at d : ℕ) → d % 2 ≡ 1 → 0 < d → Step (suc k) at d (count_trailing_zeros (suc k) d)
unfolding devs count_trailing_zeros
odd k at d e p =
    let tz : count_trailing_zeros (suc k) d ≡ 0 = ap (λ (b : ℕ). under b (count_trailing_zeros k (d / 2))) e in
    let e0 : (d - 1) % 2 ≡ 0 = omega arith in
    let e1 : (d - 1) / 2 ≡ d / 2 = omega arith in
    rw tz
    record {
      within = omega arith;
      low = p;
      next =
          ap (λ (b : ℕ). before (eqb b 1) at (devs k (suc at) (d / 2))) e
          ∙ ap (λ (n : ℕ). n ∷ devs k (suc at) (d / 2)) (sym (add-zero at))
          ∙ ap (λ (n : ℕ). (at + 0) ∷ devs k (suc at) n) (sym e1)
          ∙ ap (λ (b : ℕ). (at + 0) ∷ before (eqb b 1) at (devs k (suc at) ((d - 1) / 2))) (sym e0);
    }

none : (d : ℕ) → 0 < d → d < 1 → ⊥
none d p q = omega arith

half : (k d : ℕ) → d < 2 ^ suc k → d / 2 < 2 ^ k
half k d q = let h : d < 2 ^ k * 2 = rw pow-suc at q in omega arith

step : (k at d : ℕ) → 0 < d → d < 2 ^ k → Step k at d (count_trailing_zeros k d)
step zero at d p q = absurd (none d p q)
step (suc k) at d p q =
    ⊎_elim (λ e. even k at d e (step k (suc at) (d / 2) (omega arith) (half k d q))) (λ e. odd k at d e p) (parity (d % 2) (omega arith))

module _ (d : ℕ) (p : 0 < d) (q : d < 65536) where
  pub lowest-in : count_trailing_zeros 16 d < 16
  lowest-in = (step 16 0 d p q).within

  pub lowest-low : 2 ^ count_trailing_zeros 16 d ≤ d
  lowest-low = (step 16 0 d p q).low

  pub members-next : members d ≡ count_trailing_zeros 16 d ∷ members (d - 2 ^ count_trailing_zeros 16 d)
  members-next =
      by-halves d
      ∙ (step 16 0 d p q).next
      ∙ ap (λ (n : ℕ). n ∷ devs 16 0 (d - 2 ^ count_trailing_zeros 16 d)) (zero-add _)
      ∙ ap (λ (l : List ℕ). count_trailing_zeros 16 d ∷ l) (sym (by-halves (d - 2 ^ count_trailing_zeros 16 d)))

  -- the code's `1 << t` is 2 ^ t
  pub shifted : 1 * 2 ^ count_trailing_zeros 16 d % 65536 ≡ 2 ^ count_trailing_zeros 16 d
  shifted = omega (arith, lowest-low)

-- ---- as many members as ones
one-add : (n : ℕ) → 1 + n ≡ suc n
one-add n = omega arith

ones-zero : ones 0 ≡ 0
unfolding ones ones_in
ones-zero = refl

length_before : (b at : ℕ) (l : List ℕ) → b < 2 → length (before (eqb b 1) at l) ≡ b + length l
length_before b at l h =
    ⊎_elim (λ e. rw e (sym (zero-add (length l)))) (λ e. rw e (sym (one-add (length l)))) (parity b h)

pub devs-length : (k at d : ℕ) → d < 2 ^ k → ones d ≡ length (devs k at d)
unfolding devs
devs-length zero at d q = rw (lt-one q) (ones-zero)
devs-length (suc k) at d q =
    ones_step d
    ∙ ap (λ (n : ℕ). d % 2 + n) (devs-length k (suc at) (d / 2) (half k d q))
    ∙ sym (length_before (d % 2) at (devs k (suc at) (d / 2)) (omega arith))
