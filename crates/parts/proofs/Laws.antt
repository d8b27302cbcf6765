-- What a word's code says of the node that it gives. Assumes nothing.
use mathlib.Core.Path.{◌≡◌, refl, sym, ap, ◌∙◌}
use mathlib.Core.Bool.{Bool, true, false, cond, ◌||◌}
use Rattle.std.specs.Prelude.{Some, None, ◌⊎◌}
use Rattle.std.proofs.Common.{inl, inr}
use Rattle.std.proofs.lemmas.Option.{same_Some}
use mathlib.Core.List.{List, [], ◌∷◌}
use Prim.Native.Nat.{ℕ, zero, suc, ◌+◌, ◌-◌, ◌≤◌, ◌<◌}
use native.Mathlib.Omega.{arith}
use lib.Dec.{eqb, ltb}
use lib.ListN.{length, get_or-eq_default}
use borrow.Author.Tests.{eqb-true, eqb-false, ne_eqb, lt-ltb, le-ltb}
use Rattle.notation.specs.Words.{Word, same_word, one_of, index_of, operators, operator, is_number, operation, nothing, head_of}
use Rattle.notation.specs.Grammar.{Items}
use Rattle.translation.specs.Numbering.{Given, of_kind, form_part}
use Rattle.token_scans.specs.Sought.{named}
use Rattle.vocabulary.specs.Codes.{code_of, form_heads, head_by_code}
use Rattle.vocabulary.proofs.Laws.{code-operator, code-number, code-head, code-index}

past-all : (w : Word) (l : List Word) → one_of w l ≡ false → index_of w l ≡ length l
unfolding index_of
past-all w [] e = refl
past-all w (x ∷ l) e = go (same_word w x) e (past-all w l)
  where
    go : (c : Bool) → (c || one_of w l) ≡ false → (one_of w l ≡ false → index_of w l ≡ length l) → cond c 0 (suc (index_of w l)) ≡ suc (length l)
    go true e ih = cc
    go false e ih = ap suc (ih e)

-- a word with the code k
module _ (w : Word) (k : ℕ) (e : k ≡ code_of w) where
  pub operator-by : operator w ≡ ltb k 9
  operator-by = code-operator w ∙ rw e

  pub index-by : k < 9 → index_of w operators ≡ k
  index-by h = code-index w (rw (← e) h) ∙ sym e

  pub head-by : (j : ℕ) → k ≡ j → head_of w ≡ head_by_code j
  head-by j q = code-head w ∙ ap head_by_code (sym e ∙ q)

  pub head-operation : k < 9 → head_of w ≡ operation
  unfolding head_by_code
  head-operation h = head-by k refl ∙ rw (lt-ltb k 9 h)

-- where a word stands among others that have it, and how many they are where they don't
pub index-found : (w : Word) (ws : List Word) (n : ℕ) → Some n ≡ named w ws → n ≡ index_of w ws
index-found w ws n e = go (one_of w ws) e
  where
    go : (b : Bool) → Some n ≡ cond b (Some (index_of w ws)) None → n ≡ index_of w ws
    go true e = same_Some _ _ e
    go false e = cc

pub index-past : (w : Word) (ws : List Word) → None ≡ named w ws → length ws ≡ index_of w ws
index-past w ws e = sym (past-all w ws (go (one_of w ws) e))
  where
    go : (b : Bool) → None ≡ cond b (Some (index_of w ws)) None → b ≡ false
    go true e = cc
    go false e = refl

-- a number's code
pub number-by : (w : Word) (k : ℕ) → k ≡ code_of w → (k ≡ 18) ⊎ (k ≡ 20) → true ≡ is_number w
number-by w k e (inl h) = rw (code-number w, ← e, h)
number-by w k e (inr h) = rw (code-number w, ← e, h)

pub no-number : (w : Word) (k : ℕ) → k ≡ code_of w → ((k ≡ 18) ⊎ (k ≡ 20) → ⊥) → false ≡ is_number w
no-number w k e h = rw (code-number w, ← e, ne_eqb k 18 (λ q. h (inl q)), ne_eqb k 20 (λ q. h (inr q)))

-- a number that is none of the i from n on
abbrev pub Skips : ℕ → ℕ → ℕ → Type 0
Skips n zero k = Unit
Skips n (suc i) k = Skips n i k × (k ≡ n + i → ⊥)

pub past : (n i k : ℕ) → Skips n i k → n ≤ k → n + i ≤ k
past n zero k m h = omega arith
past n (suc i) k m h = let z = past n i k m.0 h in let ne = m.1 in omega arith

-- def, and a word that is no head: a node of kind 12 with nothing but operands
module _ (ds : List Word) (g : Given) (h : Word) (is : Items) (ns : List ℕ) where
  no-head : (k : ℕ) → 20 ≤ k → form_part ds g h is ns (head_by_code k) ≡ of_kind 12 ns
  unfolding head_by_code
  no-head k l = rw (le-ltb k 9 (omega arith), get_or-eq_default form_heads nothing {n = k - 9} (omega arith))

  pub form-other : (k : ℕ) → 9 ≤ k → (10 ≤ k → 18 ≤ k) → (k ≡ 19 → ⊥) → form_part ds g h is ns (head_by_code k) ≡ of_kind 12 ns
  unfolding head_by_code
  form-other k l m n = go (eqb k 9) (eqb k 18) refl refl
    where
      go : (a b : Bool) → eqb k 9 ≡ a → eqb k 18 ≡ b → form_part ds g h is ns (head_by_code k) ≡ of_kind 12 ns
      go true b p q = rw (eqb-true k 9 p)
      go false true p q = rw (eqb-true k 18 q)
      go false false p q =
          let y = eqb-false k 9 p in
          let z = eqb-false k 18 q in
          let b = m (omega arith) in
          no-head k (omega arith)
