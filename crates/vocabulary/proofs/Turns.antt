-- What `==` tests, the search through the known words, and one turn of the loop over the digits of a number. Assumes nothing.
use mathlib.Core.Path.{◌≡◌, refl, sym, ◌∙◌}
use mathlib.Core.Bool.{Bool, true, false, cond, not}
use mathlib.Core.List.{List, [], ◌∷◌, map}
use Prim.Native.Nat.{ℕ, suc, ◌+◌, ◌*◌, ◌-◌, ◌≤◌, ◌<◌}
use native.Mathlib.Omega.{arith}
use native.Mathlib.Numerals.{add-one}
use lib.ListN.{length, get_or, drop, drop_of_length-le}
use lib.Seq.{drop-cons}
use borrow.Author.Tests.{ltb-false}
use denote.Ref.{Bor}
use Rattle.std.specs.Prelude.{Option, Some, None, unwrap_or, ltb}
use Rattle.std.specs.List.{position_or_len}
use Rattle.std.specs.Str.{bytes_eq}
use Rattle.std.proofs.lemmas.List.Recursion.{is_position_or_len}
use Rattle.std.proofs.lemmas.List.Sums.{prefix_len-le-length}
use Rattle.notation.specs.Words.{Word, same_word, index_of, every, value_from, is_digit, is_count}
use Rattle.decide.proofs.Picks.{both}
use Rattle.fronts.proofs.Turns.{digit-range, value_grows, count-parts}

-- ---- what `==` tests
pub same-bytes : (w v : Word) → bytes_eq w v ≡ same_word w v
same-bytes [] [] = refl
same-bytes [] (b ∷ v) = refl
same-bytes (a ∷ w) [] = refl
same-bytes (a ∷ w) (b ∷ v) = rw (same-bytes w v)

-- ---- the search
abbrev pub Known : Type 0
Known = List (Bor (List ℕ))

abbrev pub spelt : Known → List Word
spelt l = map (λ k. k.now) l

index-first : (w : Word) (l : Known) → index_of w (spelt l) ≡ position_or_len (λ k. bytes_eq w k.now) l
unfolding index_of
index-first w l = is_position_or_len (λ l. index_of w (spelt l)) (λ k. bytes_eq w k.now) refl (λ k l. go (same_word w k.now) (index_of w (spelt l)) ∙ rw (same-bytes w k.now)) l
  where
    go : (c : Bool) (n : ℕ) → cond c 0 (suc n) ≡ cond c 0 (1 + n)
    go true n = refl
    go false n = omega arith

-- the first of the words that is the word, their number where there is none
pub sought : (w : Word) (l : Known) (r : Option ℕ)
    → r ≡ cond (ltb (position_or_len (λ k. bytes_eq w k.now) l) (length l)) (Some (position_or_len (λ k. bytes_eq w k.now) l)) None → unwrap_or r (length l) ≡ index_of w (spelt l)
sought w l r e = rw e (go (ltb (position_or_len (λ k. bytes_eq w k.now) l) (length l)) refl ∙ sym (index-first w l))
  where
    go : (c : Bool) → ltb (position_or_len (λ k. bytes_eq w k.now) l) (length l) ≡ c
        → unwrap_or (cond c (Some (position_or_len (λ k. bytes_eq w k.now) l)) None) (length l) ≡ position_or_len (λ k. bytes_eq w k.now) l
    go true h = refl
    go false h =
        let past = ltb-false (position_or_len (λ k. bytes_eq w k.now) l) (length l) h in
        let most = prefix_len-le-length (λ k. not (bytes_eq w k.now)) l in
        omega arith

-- ---- the value of digits: those before i have the value n
pub record Valued (w : Word) (n i : ℕ) : Type 0 where
  pub digits : every is_digit (drop i w) ≡ true
  pub small : value_from n (drop i w) ≤ 2147483647
  pub same : value_from 0 w ≡ value_from n (drop i w)

pub value-begun : (w : Word) → is_count w ≡ true → Valued w 0 0
value-begun w e = let p = count-parts w e in record { digits = p.0; small = p.1; same = refl }

module _ (w : Word) (n i : ℕ) (g : Valued w n i) (h : i < length w) where
  pub value-digit : (48 ≤ get_or w i 0) × (get_or w i 0 ≤ 57) × (n * 10 + (get_or w i 0 - 48) ≤ 2147483647)
  value-digit =
      let e = drop-cons w i 0 h in
      let p = both (is_digit (get_or w i 0)) (every is_digit (drop (suc i) w)) (rw e at g.digits) in
      let r = digit-range (get_or w i 0) p.0 in
      let q = value_grows (drop (suc i) w) (n * 10 + (get_or w i 0 - 48)) in
      let v : value_from (n * 10 + (get_or w i 0 - 48)) (drop (suc i) w) ≤ 2147483647 = rw e at g.small in
      (r.0, r.1, omega arith)

  pub value-again : Valued w (n * 10 + (get_or w i 0 - 48)) (i + 1)
  value-again =
      let e = drop-cons w i 0 h in
      let p = both (is_digit (get_or w i 0)) (every is_digit (drop (suc i) w)) (rw e at g.digits) in
      rw (add-one i) (record { digits = p.1; small = rw e at g.small; same = g.same ∙ rw e })

module _ (w : Word) (n i : ℕ) (g : Valued w n i) where
  pub value-whole : length w ≤ i → n ≡ value_from 0 w
  value-whole h = sym (g.same ∙ rw (drop_of_length-le w h))
