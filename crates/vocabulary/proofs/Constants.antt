-- A number by its first byte. Assumes nothing.
use mathlib.Core.Path.{◌≡◌, refl, sym, ap, ◌∙◌}
use mathlib.Core.Bool.{true, false}
use mathlib.Core.List.{[], ◌∷◌}
use Prim.Native.Nat.{ℕ, suc, ◌-◌, ◌%◌, ◌<◌}
use native.Mathlib.Omega.{arith}
use lib.ListN.{length, get_or, take, drop}
use lib.Seq.{take-length}
use borrow.Author.Tests.{ne_eqb}
use Rattle.notation.specs.Words.{Word, value_from, is_letter, is_count, is_number, bits_of}
use Rattle.decide.proofs.Picks.{not-both}
use Rattle.fronts.proofs.Classes.{letter-is-not, number-letter, number-minus, number-other, number-filled}

-- what follows the first byte
abbrev pub rest : Word → Word
rest w = take (length w - 1) (drop 1 w)

pub first-rest : (w : Word) → 0 < length w → w ≡ get_or w 0 0 ∷ rest w
first-rest [] h = absurd (omega arith)
first-rest (c ∷ v) h = let e : suc (length v) - 1 ≡ length v = omega arith in rw (e, take-length v)

pub empty : (w : Word) → length w < 1 → w ≡ []
empty [] h = refl
empty (c ∷ v) h = absurd (omega arith)

module _ (w : Word) (n : is_number w ≡ true) (h : 0 < length w) where
  by_first : is_number (get_or w 0 0 ∷ rest w) ≡ true
  by_first = sym (ap is_number (first-rest w h)) ∙ n

  pub digits-behind : get_or w 0 0 ≡ 45 → is_count (rest w) ≡ true
  digits-behind e = sym (number-minus (rest w)) ∙ sym (ap (λ (c : ℕ). is_number (c ∷ rest w)) e) ∙ by_first

  pub bits-minus : get_or w 0 0 ≡ 45 → (4294967296 - value_from 0 (rest w)) % 4294967296 ≡ bits_of w
  unfolding bits_of
  bits-minus e = sym (ap bits_of (first-rest w h) ∙ rw e)

  pub bits-inf : is_letter (get_or w 0 0) ≡ true → 2147483647 ≡ bits_of w
  unfolding bits_of is_letter
  bits-inf e =
      sym (ap bits_of (first-rest w h) ∙ rw (letter-is-not (get_or w 0 0) 45 e refl, sym (number-letter (get_or w 0 0) (rest w) e) ∙ by_first))

-- neither a minus nor inf; the first byte of what is empty counts as 0
module _ (w : Word) (n : is_number w ≡ true) (e : is_letter (get_or w 0 0) ≡ false) (m : get_or w 0 0 ≡ 45 → ⊥) where
  pub digits-whole : is_count w ≡ true
  digits-whole =
      let z = first-rest w (number-filled w n) in
      rw z (sym (number-other (get_or w 0 0) (rest w) e (ne_eqb (get_or w 0 0) 45 m)) ∙ sym (ap is_number z) ∙ n)

  pub bits-count : value_from 0 w ≡ bits_of w
  unfolding bits_of is_letter
  bits-count =
      let z = first-rest w (number-filled w n) in
      rw z (rw (ne_eqb (get_or w 0 0) 45 m, ne_eqb (get_or w 0 0) 105 (λ q. not-both (sym (ap is_letter q) ∙ e))))
