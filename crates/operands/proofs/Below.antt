-- What a formed node names can be looked up; a column with one entry more. Assumes nothing.
use mathlib.Core.Path.{◌≡◌, refl, sym, subst, ◌∙◌}
use mathlib.Core.Bool.{Bool, true, false, ◌||◌, true≢false}
use mathlib.Core.List.{List}
use Prim.Native.Nat.{ℕ, ◌+◌, ◌<◌}
use native.Mathlib.Omega.{arith}
use lib.ListN.{length, get_or, set}
use lib.Seq.{get_or-set_same, get_or-set_other}
use lib.Dec.{eqb}
use borrow.Author.Count.{below_more}
use borrow.Author.Tests.{eqb-true}
use Rattle.program.specs.Table.{node_limit}
use Rattle.bits.specs.Bits.{has_bit}
use Rattle.decide.proofs.Below.{all-below}
use Rattle.bits.proofs.Bits.{same, same-eq}
use Rattle.words.specs.Form.{fold_by_form, call_form}
use Rattle.words.specs.Word.{form, word}
use Rattle.operands.specs.Formed.{width, operand, body_set, has_body, Formed}

-- ---- what a node names can be looked up
-- a form with a body is one of two
bodied : ℕ → Bool
bodied f = same (has_bit f body_set) (eqb f fold_by_form || eqb f call_form)

pub body_below : {ws : List ℕ} {n : ℕ} → Formed ws n → has_body (word ws n) ≡ true → operand (word ws n) 4 < n
unfolding bodied
body_below {ws} {n} f e =
    go (eqb (form (word ws n)) fold_by_form) (eqb (form (word ws n)) call_form) refl refl
    (sym (same-eq _ _ (all-below bodied 32 refl (form (word ws n)) (omega arith))) ∙ e)
  where
    go : (a b : Bool) → eqb (form (word ws n)) fold_by_form ≡ a → eqb (form (word ws n)) call_form ≡ b → (a || b) ≡ true → operand (word ws n) 4 < n
    go true b p q e = f.folds (eqb-true (form (word ws n)) fold_by_form p)
    go false true p q e = f.calls (eqb-true (form (word ws n)) call_form q)
    go false false p q e = absurd (true≢false (sym e))

module _ {ws : List ℕ} {n : ℕ} (l : n < node_limit) (f : Formed ws n) where
  pub asks-part : (j : ℕ) → j < 4 → (j < 4) × (j < width (word ws n) → operand (word ws n) j < node_limit)
  asks-part j h = (h, λ g. omega (arith, f.operands j h g))

  pub asks-called : form (word ws n) ≡ call_form → operand (word ws n) 4 < node_limit
  asks-called h = omega (arith, f.calls h)

  pub asks-body : has_body (word ws n) ≡ true → operand (word ws n) 4 < node_limit
  asks-body h = omega (arith, body_below f h)

-- ---- one more node noted
pub set_more : {A : Type 0} (P : ℕ → A → Type 0) (l : List A) (i : ℕ) (a d : A) → i < length l
    → ((k : ℕ) → k < i → P k (get_or l k d)) → P i a → (k : ℕ) → k < i + 1 → P k (get_or (set l i a) k d)
set_more P l i a d h all here =
    below_more (λ (k : ℕ). P k (get_or (set l i a) k d)) i
    (λ k g. subst (P k) (sym (get_or-set_other l i k a d (λ e. omega arith))) (all k g))
    (subst (P i) (sym (get_or-set_same l i a d h)) here)
