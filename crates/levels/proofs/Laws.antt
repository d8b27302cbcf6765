-- A token's number by its kind, that a front is within its word, and that the moves at levels lead to levels. Assumes nothing.
use mathlib.Core.Path.{◌≡◌, refl, ap, ◌∙◌}
use mathlib.Core.Bool.{Bool, true, false, cond, ◌&&◌, ◌||◌}
use mathlib.Core.List.{List, [], ◌∷◌}
use Prim.Native.Nat.{ℕ, suc, ◌+◌, ◌*◌, ◌-◌, ◌≤◌, ◌<◌, min}
use native.Mathlib.Omega.{arith}
use lib.Dec.{eqb, leb, ltb}
use lib.ListN.{length, replicate}
use borrow.Author.Tests.{ne_eqb, leb-true, ltb-true}
use Rattle.std.proofs.lemmas.List.Sums.{prefix_len-le-length}
use Rattle.decide.proofs.Zeros.{zeros}
use Rattle.notation.specs.Words.{is_letter, is_digit, name_byte, operator}
use Rattle.decide.proofs.Picks.{not-both}
use Rattle.lexemes.specs.declared.Kind.{Kind}
use Rattle.lexemes.specs.declared.Kind.TheVariants.{Opening, Closing, Word}
use Rattle.lexemes.specs.Lexeme.{token_by}
use Rattle.vocabulary.specs.Codes.{code_of, token_code}
use Rattle.fronts.specs.Fronts.{run, name_front, count_front, atom_front, equals_next, function_front}
use Rattle.vocabulary.proofs.Laws.{code-limit}
use Rattle.levels.specs.Levels.{refusal, move_of, class_of, level_front, unheld, judged, Numbered}
use Rattle.decide.proofs.Below.{all_below, all-below}

-- ---- a token by its kind
pub code_below : (kind : Kind) (w : List ℕ) → token_code (token_by kind w) < 24
code_below Opening w = omega arith
code_below Closing w = omega arith
code_below Word w = let h = code-limit w in omega arith

-- ---- a front is within the word
run-within : (f : ℕ → Bool) (w : List ℕ) → run f w ≤ length w
unfolding run
run-within f w = prefix_len-le-length f w

name-within : (w : List ℕ) → name_front w ≤ length w
unfolding name_front
name-within [] = omega arith
name-within (b ∷ w) = go (is_letter b) (run-within name_byte w)
  where
    go : (c : Bool) → run name_byte w ≤ length w → cond c (suc (min 15 (run name_byte w))) 0 ≤ suc (length w)
    go true h = omega arith
    go false h = omega arith

count-within : (n : ℕ) (w : List ℕ) → count_front n w ≤ length w
unfolding count_front
count-within n [] = omega arith
count-within n (d ∷ w) = go (is_digit d && leb (n * 10 + (d - 48)) 2147483647) (count-within (n * 10 + (d - 48)) w)
  where
    go : (c : Bool) → count_front (n * 10 + (d - 48)) w ≤ length w → cond c (suc (count_front (n * 10 + (d - 48)) w)) 0 ≤ suc (length w)
    go true h = omega arith
    go false h = omega arith

atom-within : (w : List ℕ) → atom_front w ≤ length w
unfolding atom_front
atom-within [] = omega arith
atom-within (b ∷ w) = go (is_letter b) (eqb b 45)
  where
    go : (l m : Bool) → cond l (name_front (b ∷ w)) (cond m (suc (count_front 0 w)) (count_front 0 (b ∷ w))) ≤ suc (length w)
    go true m = name-within (b ∷ w)
    go false true = let h = count-within 0 w in omega arith
    go false false = count-within 0 (b ∷ w)

equals-within : (w : List ℕ) → equals_next w ≤ suc (length w)
equals-within [] = omega arith
equals-within (b ∷ w) = go (eqb b 61)
  where
    go : (c : Bool) → cond c 2 1 ≤ suc (suc (length w))
    go true = omega arith
    go false = omega arith

function-within : (w : List ℕ) → function_front w ≤ length w
unfolding function_front
function-within [] = omega arith
function-within (b ∷ w) = go (is_letter b) (eqb b 62) (eqb b 61) (eqb b 33) (operator (b ∷ []))
  where
    go : (l g e u o : Bool) → cond l (name_front (b ∷ w)) (cond g (equals_next w) (cond e (equals_next w) (cond u (equals_next w) (cond o 1 0)))) ≤ suc (length w)
    go true g e u o = name-within (b ∷ w)
    go false true e u o = equals-within w
    go false false true u o = equals-within w
    go false false false true o = equals-within w
    go false false false false true = omega arith
    go false false false false false = omega arith

pub front-within : (c : ℕ) (kind : Kind) (w : List ℕ) → level_front c (token_by kind w) ≤ length w
front-within c Opening w = omega arith
front-within c Closing w = omega arith
front-within c Word w = go (eqb (class_of c) 1) (eqb (class_of c) 2) (eqb (class_of c) 3)
  where
    go : (a b d : Bool) → cond a (atom_front w) (cond b (name_front w) (cond d (function_front w) 0)) ≤ length w
    go true b d = atom-within w
    go false true d = name-within w
    go false false true = function-within w
    go false false false = omega arith

-- the move at a level, 0 where it is not held; by an opening bracket it is a level's number or refused, by a word also a definition's
abbrev judged_at : ℕ → ℕ → ℕ
judged_at c k = cond (eqb c unheld) 0 (move_of c k)

judged-opens : all_below (λ c. eqb (judged_at c 22) refusal || ltb (judged_at c 22) 18) 19 ≡ true
unfolding move_of
judged-opens = refl

judged-words : all_below (λ c. all_below (λ k. eqb (judged_at c k) refusal || leb (judged_at c k) 18) 22) 19 ≡ true
unfolding move_of
judged-words = refl

unrefused : (a b : Bool) → (a || b) ≡ true → a ≡ false → b ≡ true
unrefused true b e p = not-both p
unrefused false b e p = e

opens-below : (c : ℕ) → c ≤ 18 → eqb (judged_at c 22) refusal ≡ false → judged_at c 22 < 18
opens-below c h r =
    ltb-true (judged_at c 22) 18
    (unrefused (eqb (judged_at c 22) refusal) (ltb (judged_at c 22) 18) (all-below (λ c. eqb (judged_at c 22) refusal || ltb (judged_at c 22) 18) 19 judged-opens c (omega arith)) r)

words-within : (c k : ℕ) → c ≤ 18 → k < 22 → eqb (judged_at c k) refusal ≡ false → judged_at c k ≤ 18
words-within c k h j r =
    leb-true (judged_at c k) 18
    (unrefused (eqb (judged_at c k) refusal) (leb (judged_at c k) 18)
    (all-below (λ k. eqb (judged_at c k) refusal || leb (judged_at c k) 18) 22
    (all-below (λ c. all_below (λ k. eqb (judged_at c k) refusal || leb (judged_at c k) 18) 22) 19 judged-words c (omega arith)) k j) r)

pub opening-below : (c m : ℕ) (kind : Kind) (w : List ℕ) → c ≤ 18 → m ≡ judged c kind w → (m ≡ refusal → ⊥) → kind ≡ Opening → m < 18
opening-below c m kind w h e r k =
    let q : m ≡ judged_at c 22 = e ∙ ap (λ (k : Kind). judged c k w) k in
    rw q (opens-below c h (ne_eqb (judged_at c 22) refusal (λ x. r (q ∙ x))))

pub word-below : (c m : ℕ) (kind : Kind) (w : List ℕ) → c ≤ 18 → m ≡ judged c kind w → (m ≡ refusal → ⊥) → kind ≡ Word → m ≤ 18
word-below c m kind w h e r k =
    let q : m ≡ judged_at c (code_of w) = e ∙ ap (λ (k : Kind). judged c k w) k in
    rw q (words-within c (code_of w) h (let z = code-limit w in omega arith) (ne_eqb (judged_at c (code_of w)) refusal (λ x. r (q ∙ x))))

-- an array of zeros, as a pass begins with
pub numbered-zeros : (n : ℕ) → Numbered (replicate n 0)
numbered-zeros n i = rw (zeros n i) (omega arith)
