-- what a word's code says of it as a head.
use mathlib.Core.Path.{◌≡◌, refl, sym, ◌∙◌}
use mathlib.Core.Bool.{Bool, true, false, cond, ◌&&◌, ◌||◌, beq}
use mathlib.Core.List.{List, [], ◌∷◌, ◌++◌}
use Prim.Native.Nat.{ℕ}
use lib.Dec.{eqb}
use borrow.Author.Tests.{eqb-true}
use Rattle.notation.specs.Words.{Word, same_word, every, one_of, index_of, lookup, is_letter, is_digit, name_byte, is_name, own_name, reserved, reserved_words, operators, operator, is_number, is_count}
use Rattle.notation.specs.Words.{is_negative, the_def, the_sense, the_rep, the_if, the_mux, the_nbr, the_range, the_lag, the_fold, the_inf, Head, plain, slotted, operation, rep, fold, define, call, nothing}
use Rattle.notation.specs.Words.{head_words, head_of}
use Rattle.decide.proofs.Picks.{not-both, both}
use Rattle.notation.proofs.Words.{same_word_lem}
use Rattle.translation.specs.Names.{is_rep}
use Rattle.translation.specs.Numbering.{has_slot}
use Rattle.vocabulary.specs.Codes.{code_of}
use Rattle.token_scans.specs.Scan.{mode_after}

-- where the next token stands behind a head
abbrev pub head_mode : Head → ℕ
head_mode (plain kind n) = 0
head_mode (slotted kind n) = 0
head_mode operation = 0
head_mode rep = 5
head_mode fold = 6
head_mode define = 2
head_mode call = 0
head_mode nothing = 0

abbrev pub slot_code : ℕ → Bool
slot_code c = eqb c 14 || (eqb c 15 || eqb c 16)

abbrev pub rep_code : ℕ → Bool
rep_code c = eqb c 11

pub record HeadFacts (w : Word) : Type 0 where
  pub mode : mode_after 1 (code_of w) ≡ head_mode (head_of w)
  pub slot : slot_code (code_of w) ≡ has_slot (head_of w)
  pub repeats : rep_code (code_of w) ≡ is_rep (head_of w)
  pub spelt : is_rep (head_of w) ≡ same_word w the_rep
  pub no_opening : eqb (code_of w) 22 ≡ false
  pub no_closing : eqb (code_of w) 23 ≡ false

-- the same as one test
abbrev fits : Word → ℕ → Head → Bool
fits w c h =
    eqb (mode_after 1 c) (head_mode h) && (beq (slot_code c) (has_slot h) && (beq (rep_code c) (is_rep h)
    && (beq (is_rep h) (same_word w the_rep) && (beq (eqb c 22) false && beq (eqb c 23) false))))

-- a test that some words pass, and all others
by-words : (f : Word → Bool) (w : Word) (ws : List Word) → every f ws ≡ true → (one_of w ws ≡ false → f w ≡ true) → f w ≡ true
by-words f w [] h k = k refl
by-words f w (x ∷ ws) h k = go (same_word w x) refl (both (f x) (every f ws) h) k (λ g. by-words f w ws g)
  where
    go : (c : Bool) → same_word w x ≡ c → (f x ≡ true) × (every f ws ≡ true) → (c || one_of w ws ≡ false → f w ≡ true)
        → (every f ws ≡ true → (one_of w ws ≡ false → f w ≡ true) → f w ≡ true) → f w ≡ true
    go true q h k ih = rw (same_word_lem w x q) h.0
    go false q h k ih = ih h.1 k

neither : (a b : Bool) → (a || b) ≡ false → (a ≡ false) × (b ≡ false)
neither true b e = not-both e
neither false b e = (refl, e)

-- a word that is not listed
abbrev listed : List (Word × Head) → List Word
listed [] = []
listed (x ∷ l) = x.0 ∷ listed l

missed : (w : Word) (l : List (Word × Head)) (more : List Word) (r : Head) → one_of w (listed l ++ more) ≡ false → lookup w l r ≡ r
missed w [] more r e = refl
missed w (x ∷ l) more r e = let p = neither (same_word w x.0) (one_of w (listed l ++ more)) e in rw p.0 (missed w l more r p.1)

other : (w x : Word) (a b : List Word) → one_of w (a ++ x ∷ b) ≡ false → same_word w x ≡ false
other w x [] b e = (neither (same_word w x) (one_of w b) e).0
other w x (y ∷ a) b e = other w x a b (neither (same_word w y) (one_of w (a ++ x ∷ b)) e).1

plain_word : (w : Word) (a b : Bool) → same_word w the_rep ≡ false → fits w (cond a 19 (cond b 20 21)) (cond a call nothing) ≡ true
unfolding mode_after
plain_word w true b e = rw e
plain_word w false true e = rw e
plain_word w false false e = rw e

other-code : (w : Word) → one_of w reserved_words ≡ false → one_of w operators ≡ false → code_of w ≡ cond (own_name w) 19 (cond (is_number w) 20 21)
unfolding code_of operator reserved
other-code w p q = rw (p, q)

other-head : (w : Word) → one_of w reserved_words ≡ false → one_of w operators ≡ false → head_of w ≡ cond (own_name w) call nothing
unfolding head_of operator
other-head w p q = missed w head_words (the_inf ∷ []) (cond (operator w) operation (cond (own_name w) call nothing)) p ∙ rw q

others : (w : Word) → one_of w reserved_words ≡ false → one_of w operators ≡ false → fits w (code_of w) (head_of w) ≡ true
others w p q =
    rw (other-code w p q, other-head w p q)
    (plain_word w (own_name w) (is_number w) (other w the_rep (the_def ∷ the_sense ∷ []) (the_if ∷ the_mux ∷ the_nbr ∷ the_range ∷ the_lag ∷ the_fold ∷ the_inf ∷ []) p))

tested : (w : Word) → fits w (code_of w) (head_of w) ≡ true
unfolding code_of head_of operator reserved own_name is_name is_letter is_digit name_byte is_number is_count is_negative index_of mode_after
tested w =
    by-words (λ v. fits v (code_of v) (head_of v)) w reserved_words refl λ p.
    by-words (λ v. fits v (code_of v) (head_of v)) w operators refl λ q.
    others w p q

same_bool : (a b : Bool) → beq a b ≡ true → a ≡ b
same_bool true true e = refl
same_bool true false e = not-both (sym e)
same_bool false true e = not-both (sym e)
same_bool false false e = refl

pub head-facts : (w : Word) → HeadFacts w
head-facts w =
    let c = code_of w in
    let h = head_of w in
    let a = both (eqb (mode_after 1 c) (head_mode h)) _ (tested w) in
    let b = both (beq (slot_code c) (has_slot h)) _ a.1 in
    let d = both (beq (rep_code c) (is_rep h)) _ b.1 in
    let e = both (beq (is_rep h) (same_word w the_rep)) _ d.1 in
    let g = both (beq (eqb c 22) false) _ e.1 in
    record {
      mode = eqb-true (mode_after 1 c) (head_mode h) a.0;
      slot = same_bool (slot_code c) (has_slot h) b.0;
      repeats = same_bool (rep_code c) (is_rep h) d.0;
      spelt = same_bool (is_rep h) (same_word w the_rep) e.0;
      no_opening = same_bool (eqb c 22) false g.0;
      no_closing = same_bool (eqb c 23) false g.1;
    }
