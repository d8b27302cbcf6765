-- What a word's code says of it, in notation's terms.
use mathlib.Core.Path.{◌≡◌, refl, sym, ap, ◌∙◌}
use mathlib.Core.Bool.{Bool, true, false, cond, ◌&&◌, ◌||◌, and-true}
use mathlib.Core.List.{List, [], ◌∷◌, ◌++◌, map}
use mathlib.Core.Logic.{◌↔◌}
use Prim.Native.Nat.{ℕ, suc, ◌+◌, ◌≤◌, ◌<◌}
use native.Mathlib.Omega.{arith}
use lib.Dec.{eqb, leb, ltb, eqb-suc-suc}
use lib.ListN.{length, get_or}
use borrow.Author.Tests.{eqb-true, eq-eqb, ne_eqb, lt-ltb}
use Rattle.notation.specs.Words.{Word, same_word, every, one_of, index_of, lookup, is_letter, is_digit, name_byte, is_name, the_def, the_rep, the_fold, the_inf, reserved_words, reserved, own_name}
use Rattle.notation.specs.Words.{operators, operator, is_count, is_negative, is_number, atom, binder, function, Head, operation, call, nothing, head_words, head_of}
use Rattle.decide.proofs.Picks.{not-both, both}
use Rattle.notation.proofs.Words.{same_word_lem}
use Rattle.notation.proofs.Viable.{listed}
use Rattle.vocabulary.specs.Codes.{code_of, known_words, place_of, head_by_code}
use Rattle.fronts.specs.Fronts.{name_front, count_front, atom_front}
use Rattle.fronts.proofs.Classes.{letter-operator, number-letter, number-minus, number-other, count-whole, name-letter, name-whole}

-- ---- where a word stands in a list
index-within : (w : Word) (l : List Word) → one_of w l ≡ true → index_of w l < length l
unfolding index_of
index-within w [] e = not-both (sym e)
index-within w (x ∷ l) e = go (same_word w x) e (index-within w l)
  where
    go : (c : Bool) → (c || one_of w l) ≡ true → (one_of w l ≡ true → index_of w l < length l) → cond c 0 (suc (index_of w l)) < suc (length l)
    go true e ih = omega arith
    go false e ih = let h = ih e in omega arith

index-past : (w : Word) (l : List Word) → one_of w l ≡ false → index_of w l ≡ length l
unfolding index_of
index-past w [] e = refl
index-past w (x ∷ l) e = go (same_word w x) e (index-past w l)
  where
    go : (c : Bool) → (c || one_of w l) ≡ false → (one_of w l ≡ false → index_of w l ≡ length l) → cond c 0 (suc (index_of w l)) ≡ suc (length l)
    go true e ih = not-both e
    go false e ih = ap suc (ih e)

index-append : (w : Word) (l m : List Word) → index_of w (l ++ m) ≡ cond (one_of w l) (index_of w l) (length l + index_of w m)
unfolding index_of
index-append w [] m = omega arith
index-append w (x ∷ l) m = go (same_word w x) (one_of w l) (index-append w l m)
  where
    go : (c d : Bool) → index_of w (l ++ m) ≡ cond d (index_of w l) (length l + index_of w m)
        → cond c 0 (suc (index_of w (l ++ m))) ≡ cond (c || d) (cond c 0 (suc (index_of w l))) (suc (length l) + index_of w m)
    go true d e = refl
    go false true e = ap suc e
    go false false e = omega arith

-- what holds for each word of a list by its place there
abbrev by_place {ℓ} : {A : Type ℓ} → (ℕ → A) → ℕ → List Word → List A
by_place g k [] = []
by_place g k (x ∷ l) = g k ∷ by_place g (k + 1) l

by-table : {A : Type 0} (f : Word → A) (g : ℕ → A) (w : Word) (l : List Word) (k : ℕ) → map f l ≡ by_place g k l → one_of w l ≡ true → f w ≡ g (k + index_of w l)
unfolding index_of
by-table f g w [] k q e = not-both (sym e)
by-table f g w (x ∷ l) k q e = go (same_word w x) refl e (by-table f g w l (k + 1) (cc))
  where
    go : (c : Bool) → same_word w x ≡ c → (c || one_of w l) ≡ true → (one_of w l ≡ true → f w ≡ g (k + 1 + index_of w l)) → f w ≡ g (k + cond c 0 (suc (index_of w l)))
    go true p e ih =
        let z : k + 0 ≡ k = omega arith in
        let h : f x ≡ g k = cc in
        ap f (same_word_lem w x p) ∙ h ∙ ap g (sym z)
    go false p e ih = let z : k + 1 + index_of w l ≡ k + suc (index_of w l) = omega arith in ih e ∙ ap g z

-- ---- everything a word is, and everything a code says
pub record Telling : Type 0 where
  pub operates : Bool
  pub counts : Bool
  pub owned : Bool
  pub reserves : Bool
  pub stands : Bool
  pub binds : Bool
  pub folds : Bool
  pub heads : Head

unfoldable pub of_word : Word → Telling
of_word w = record {
  operates = operator w;
  counts = is_number w;
  owned = own_name w;
  reserves = reserved w;
  stands = atom w;
  binds = binder w;
  folds = function w;
  heads = head_of w;
}

unfoldable pub of_code : ℕ → Telling
of_code k = record {
  operates = ltb k 9;
  counts = eqb k 18 || eqb k 20;
  owned = eqb k 19;
  reserves = leb 9 k && leb k 18;
  stands = leb 18 k && leb k 20;
  binds = leb 9 k && leb k 19;
  folds = ltb k 9 || eqb k 19;
  heads = head_by_code k;
}

operators-tell : map of_word operators ≡ by_place of_code 0 operators
unfolding of_word of_code operator is_number is_count is_negative is_digit own_name is_name is_letter name_byte reserved atom binder function head_of head_by_code
operators-tell = refl

reserved-tell : map of_word reserved_words ≡ by_place of_code 9 reserved_words
unfolding of_word of_code operator is_number is_count is_negative is_digit own_name is_name is_letter name_byte reserved atom binder function head_of head_by_code
reserved-tell = refl

-- a word that is not reserved is not inf, and heads no form of its own
not-reserved : (w x : Word) → reserved w ≡ false → reserved x ≡ true → same_word w x ≡ false
not-reserved w x e f = go (same_word w x) refl
  where
    go : (c : Bool) → same_word w x ≡ c → c ≡ false
    go true q = not-both (sym f ∙ sym (ap reserved (same_word_lem w x q)) ∙ e)
    go false q = refl

lookup-other : (w : Word) (l : List (Word × Head)) (r : Head) → every (λ x. reserved x.0) l ≡ true → reserved w ≡ false → lookup w l r ≡ r
lookup-other w [] r h e = refl
lookup-other w (x ∷ l) r h e =
    let p = both (reserved x.0) (every (λ x. reserved x.0) l) h in
    rw (not-reserved w x.0 e p.0) (lookup-other w l r p.1 e)

head-other : (w : Word) → reserved w ≡ false → head_of w ≡ cond (operator w) operation (cond (own_name w) call nothing)
unfolding head_of reserved
head-other w e = lookup-other w head_words (cond (operator w) operation (cond (own_name w) call nothing)) refl e

inf-reserved : reserved the_inf ≡ true
unfolding reserved
inf-reserved = refl

name-no-number : (w : Word) → is_name w ≡ true → reserved w ≡ false → is_number w ≡ false
unfolding is_name
name-no-number [] e r = not-both (sym e)
name-no-number (c ∷ v) e r = number-letter c v (both (is_letter c) (every name_byte v && leb (length v) 15) e).0 ∙ not-reserved (c ∷ v) the_inf r inf-reserved

name-own : (w : Word) → reserved w ≡ false → is_name w ≡ own_name w
unfolding own_name
name-own w r = rw r (sym (and-true (is_name w)))

module _ (w : Word) (p : operator w ≡ false) (q : reserved w ≡ false) where
  plain-name : own_name w ≡ true → of_word w ≡ of_code 19
  unfolding of_word of_code atom binder function head_by_code
  plain-name r = rw (head-other w q, name-own w q, p, q, r, name-no-number w (name-own w q ∙ r) q)

  plain-number : own_name w ≡ false → is_number w ≡ true → of_word w ≡ of_code 20
  unfolding of_word of_code atom binder function head_by_code
  plain-number r s = rw (head-other w q, name-own w q, p, q, r, s)

  no_word : own_name w ≡ false → is_number w ≡ false → of_word w ≡ of_code 21
  unfolding of_word of_code atom binder function head_by_code
  no_word r s = rw (head-other w q, name-own w q, p, q, r, s)

module _ (w : Word) where
  tells-by : (a b o n : Bool) → operator w ≡ a → reserved w ≡ b → own_name w ≡ o → is_number w ≡ n
      → of_word w ≡ of_code (cond a (index_of w operators) (cond b (9 + index_of w reserved_words) (cond o 19 (cond n 20 21))))
  unfolding operator reserved
  tells-by true b o n p q r s = by-table of_word of_code w operators 0 operators-tell p ∙ ap of_code (omega arith)
  tells-by false true o n p q r s = by-table of_word of_code w reserved_words 9 reserved-tell q
  tells-by false false true n p q r s = plain-name w p q r
  tells-by false false false true p q r s = plain-number w p q r s
  tells-by false false false false p q r s = no_word w p q r s

pub tells : (w : Word) → of_word w ≡ of_code (code_of w)
unfolding code_of
tells w = tells-by w (operator w) (reserved w) (own_name w) (is_number w) refl refl refl refl

-- ---- the laws, one by one
pub code-limit : (w : Word) → code_of w ≤ 21
unfolding code_of operator reserved
code-limit w = go (operator w) (reserved w) (own_name w) (is_number w) refl refl
  where
    go : (a b o n : Bool) → one_of w operators ≡ a → one_of w reserved_words ≡ b → cond a (index_of w operators) (cond b (9 + index_of w reserved_words) (cond o 19 (cond n 20 21))) ≤ 21
    go true b o n p q = let h = index-within w operators p in omega arith
    go false true o n p q = let h = index-within w reserved_words q in omega arith
    go false false true n p q = omega arith
    go false false false true p q = omega arith
    go false false false false p q = omega arith

pub code-operator : (w : Word) → operator w ≡ ltb (code_of w) 9
unfolding of_word of_code
code-operator w = ap (λ (t : Telling). t.operates) (tells w)

pub code-number : (w : Word) → is_number w ≡ (eqb (code_of w) 18 || eqb (code_of w) 20)
unfolding of_word of_code
code-number w = ap (λ (t : Telling). t.counts) (tells w)

pub code-own : (w : Word) → own_name w ≡ eqb (code_of w) 19
unfolding of_word of_code
code-own w = ap (λ (t : Telling). t.owned) (tells w)

pub code-reserved : (w : Word) → reserved w ≡ (leb 9 (code_of w) && leb (code_of w) 18)
unfolding of_word of_code
code-reserved w = ap (λ (t : Telling). t.reserves) (tells w)

pub code-atom : (w : Word) → atom w ≡ (leb 18 (code_of w) && leb (code_of w) 20)
unfolding of_word of_code
code-atom w = ap (λ (t : Telling). t.stands) (tells w)

pub code-binder : (w : Word) → binder w ≡ (leb 9 (code_of w) && leb (code_of w) 19)
unfolding of_word of_code
code-binder w = ap (λ (t : Telling). t.binds) (tells w)

pub code-function : (w : Word) → function w ≡ (ltb (code_of w) 9 || eqb (code_of w) 19)
unfolding of_word of_code
code-function w = ap (λ (t : Telling). t.folds) (tells w)

pub code-head : (w : Word) → head_of w ≡ head_by_code (code_of w)
unfolding of_word of_code
code-head w = ap (λ (t : Telling). t.heads) (tells w)

-- an operator's code is its number
pub code-index : (w : Word) → code_of w < 9 → index_of w operators ≡ code_of w
unfolding code_of
code-index w h = rw (code-operator w ∙ lt-ltb (code_of w) 9 h)

-- ---- the code of a listed word is its place, and tells it
place-splits : (w : Word) → place_of w ≡ cond (operator w) (index_of w operators) (9 + index_of w reserved_words)
unfolding place_of operator
place-splits w = index-append w operators reserved_words

record Unlisted (w : Word) : Type 0 where
  no-operator : operator w ≡ false
  no-reserved : reserved w ≡ false

pub code-place : (w : Word) → place_of w < 19 → place_of w ≡ code_of w
unfolding code_of operator reserved
code-place w h = place-splits w ∙ go (operator w) (reserved w) refl (sym (place-splits w))
  where
    go : (a b : Bool) → one_of w reserved_words ≡ b → cond a (index_of w operators) (9 + index_of w reserved_words) ≡ place_of w
        → cond a (index_of w operators) (9 + index_of w reserved_words) ≡ cond a (index_of w operators) (cond b (9 + index_of w reserved_words) (cond (own_name w) 19 (cond (is_number w) 20 21)))
    go true b q e = refl
    go false true q e = refl
    go false false q e = let z = index-past w reserved_words q in absurd (omega arith)

unlisted : (w : Word) → 19 ≤ place_of w → Unlisted w
unfolding operator reserved
unlisted w h = go (operator w) (reserved w) refl refl (sym (place-splits w))
  where
    go : (a b : Bool) → one_of w operators ≡ a → one_of w reserved_words ≡ b → cond a (index_of w operators) (9 + index_of w reserved_words) ≡ place_of w → Unlisted w
    go true b p q e = let z = index-within w operators p in absurd (omega arith)
    go false true p q e = let z = index-within w reserved_words q in absurd (omega arith)
    go false false p q e = record { no-operator = p; no-reserved = q }

-- a word in a text is sought among the reserved words where a letter begins it, among the operators elsewhere
reserved-letter : (c : ℕ) (v : Word) → is_letter c ≡ false → reserved (c ∷ v) ≡ false
unfolding reserved is_name is_letter name_byte is_digit
reserved-letter c v e = go (reserved (c ∷ v)) refl
  where
    go : (r : Bool) → reserved (c ∷ v) ≡ r → r ≡ false
    go true q = not-both (sym (listed is_name (c ∷ v) reserved_words refl q) ∙ name-letter c v e)
    go false q = refl

pub place-letter : (c : ℕ) (v : Word) → is_letter c ≡ true → 9 + index_of (c ∷ v) reserved_words ≡ place_of (c ∷ v)
place-letter c v e = sym (place-splits (c ∷ v) ∙ rw (letter-operator c v e))

pub place-sign : (w : Word) → index_of w operators < 9 → index_of w operators ≡ place_of w
unfolding operator
place-sign w k = sym (place-splits w ∙ go (operator w) refl)
  where
    go : (o : Bool) → one_of w operators ≡ o → cond o (index_of w operators) (9 + index_of w reserved_words) ≡ index_of w operators
    go true q = refl
    go false q = let z = index-past w operators q in absurd (omega arith)

pub place_none : (c : ℕ) (v : Word) → is_letter c ≡ false → 9 ≤ index_of (c ∷ v) operators → 19 ≡ place_of (c ∷ v)
unfolding operator reserved
place_none c v e k = sym (place-splits (c ∷ v) ∙ go (operator (c ∷ v)) refl)
  where
    go : (o : Bool) → one_of (c ∷ v) operators ≡ o → cond o (index_of (c ∷ v) operators) (9 + index_of (c ∷ v) reserved_words) ≡ 19
    go true q = let z = index-within (c ∷ v) operators q in absurd (omega arith)
    go false q = let z = index-past (c ∷ v) reserved_words (reserved-letter c v e) in omega arith

pub code-word : (w : Word) → code_of w < 19 → w ≡ get_or known_words (code_of w) []
unfolding code_of operator reserved
code-word w h = go (operator w) (reserved w) (own_name w) (is_number w) refl refl h
  where
    go : (a b o n : Bool) → one_of w operators ≡ a → one_of w reserved_words ≡ b → cond a (index_of w operators) (cond b (9 + index_of w reserved_words) (cond o 19 (cond n 20 21))) < 19
        → w ≡ get_or known_words (cond a (index_of w operators) (cond b (9 + index_of w reserved_words) (cond o 19 (cond n 20 21)))) []
    go true b o n p q h =
        let z : 0 + index_of w operators ≡ index_of w operators = omega arith in
        by-table (λ v. v) (λ k. get_or known_words k []) w operators 0 refl p ∙ ap (λ (k : ℕ). get_or known_words k []) z
    go false true o n p q h = by-table (λ v. v) (λ k. get_or known_words k []) w reserved_words 9 refl q
    go false false true n p q h = absurd (omega arith)
    go false false false true p q h = absurd (omega arith)
    go false false false false p q h = absurd (omega arith)

pub code_is : (w x : Word) (k : ℕ) → k < 19 → get_or known_words k [] ≡ x → code_of x ≡ k → (code_of w ≡ k) ↔ (w ≡ x)
code_is w x k h e f = (λ q. code-word w (rw q h) ∙ ap (λ (j : ℕ). get_or known_words j []) q ∙ e, λ q. ap code_of q ∙ f)

pub code-def : (w : Word) → (code_of w ≡ 9) ↔ (w ≡ the_def)
unfolding code_of operator reserved index_of
code-def w = code_is w the_def 9 (omega arith) refl refl

pub code-rep : (w : Word) → (code_of w ≡ 11) ↔ (w ≡ the_rep)
unfolding code_of operator reserved index_of
code-rep w = code_is w the_rep 11 (omega arith) refl refl

pub code-fold : (w : Word) → (code_of w ≡ 17) ↔ (w ≡ the_fold)
unfolding code_of operator reserved index_of
code-fold w = code_is w the_fold 17 (omega arith) refl refl

-- ---- a word that is not listed, by its front
minus-filled : (v : Word) → operator (45 ∷ v) ≡ false → 0 < length v
unfolding operator
minus-filled [] e = not-both e
minus-filled (c ∷ v) e = omega arith

front-decides : (c : ℕ) (v : Word) → Unlisted (c ∷ v) → code_of (c ∷ v) ≡ cond (eqb (atom_front (c ∷ v)) (suc (length v))) (cond (is_letter c) 19 20) 21
unfolding code_of atom_front
front-decides c v u = rw (u.no-operator, u.no-reserved, ← name-own (c ∷ v) u.no-reserved) (go (is_letter c) (eqb c 45) refl refl)
  where
    go : (l m : Bool) → is_letter c ≡ l → eqb c 45 ≡ m → ◌≡◌ {A = ℕ} (cond (is_name (c ∷ v)) 19 (cond (is_number (c ∷ v)) 20 21))
        (cond (eqb (cond l (name_front (c ∷ v)) (cond m (suc (count_front 0 v)) (count_front 0 (c ∷ v)))) (suc (length v))) (cond l 19 20) 21)
    go true m e f = rw (name-whole c v e, number-letter c v e, not-reserved (c ∷ v) the_inf u.no-reserved inf-reserved)
    go false true e f =
        let z = eqb-true c 45 f in
        let o : operator (45 ∷ v) ≡ false = sym (ap (λ (b : ℕ). operator (b ∷ v)) z) ∙ u.no-operator in
        rw (name-letter c v e, z, number-minus v, count-whole v (minus-filled v o), eqb-suc-suc)
    go false false e f = rw (name-letter c v e, number-other c v e f, count-whole (c ∷ v) (omega arith))

pub code-none : 21 ≡ code_of []
unfolding code_of operator reserved own_name is_name is_number is_count is_negative
code-none = refl

-- by how far it begins what stands alone, f, and whether by a letter, l
module _ (w : Word) (h : 0 < length w) (k : 19 ≤ place_of w) (f : ℕ) (e : f ≡ atom_front w) where
  code-front : (l : Bool) → l ≡ is_letter (get_or w 0 0) → cond (eqb f (length w)) (cond l 19 20) 21 ≡ code_of w
  code-front = go w h k e
    where
      go : (w : Word) → 0 < length w → 19 ≤ place_of w → f ≡ atom_front w → (l : Bool) → l ≡ is_letter (get_or w 0 0) → cond (eqb f (length w)) (cond l 19 20) 21 ≡ code_of w
      go [] h k e l q = absurd (omega arith)
      go (c ∷ v) h k e l q = rw (e, q) (sym (front-decides c v (unlisted (c ∷ v) k)))

  pub code-refused : (f ≡ length w → ⊥) → 21 ≡ code_of w
  code-refused m = rw (ne_eqb f (length w) m) at (code-front (is_letter (get_or w 0 0)) refl)

  pub code-name : f ≡ length w → true ≡ is_letter (get_or w 0 0) → 19 ≡ code_of w
  code-name m q = rw (eq-eqb f (length w) m) at (code-front true q)

  pub code-digits : f ≡ length w → false ≡ is_letter (get_or w 0 0) → 20 ≡ code_of w
  code-digits m q = rw (eq-eqb f (length w) m) at (code-front false q)
