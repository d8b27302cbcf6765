-- A node that names none has no operand and no body, and binds nothing: computed for each form. Assumes nothing.
use mathlib.Core.Path.{◌≡◌, refl}
use mathlib.Core.Bool.{Bool, true, false, not, ◌&&◌, ◌||◌}
use Prim.Native.Nat.{ℕ}
use native.Mathlib.Omega.{arith}
use lib.ListN.{get_or}
use lib.Dec.{eqb}
use borrow.Author.Tests.{eqb-true, not-true}
use Rattle.decide.proofs.Picks.{both}
use Rattle.bits.specs.Bits.{has_bit}
use Rattle.decide.proofs.Below.{all-below}
use Rattle.words.specs.Form.{fold_by_form, call_form}
use Rattle.words.specs.Word.{form}
use Rattle.operands.specs.Formed.{widths, width, alone_set, body_set, bind_set, is_alone, has_body, binds}

pub record Alone (w : ℕ) : Type 0 where
  pub narrow : width w ≡ 0
  pub bodiless : has_body w ≡ false
  pub free : binds w ≡ false
  pub folds : eqb (form w) fold_by_form ≡ false
  pub calls : eqb (form w) call_form ≡ false

-- what a form that names no node is besides
plain : ℕ → Bool
plain f = eqb (get_or widths f 0) 0 && (not (has_bit f body_set) && (not (has_bit f bind_set) && (not (eqb f fold_by_form) && not (eqb f call_form))))

alone-plain : ℕ → Bool
alone-plain f = not (has_bit f alone_set) || plain f

pub alone_of : (w : ℕ) → is_alone w ≡ true → Alone w
unfolding alone-plain plain width
alone_of w e =
    let p : plain (form w) ≡ true = rw e at (all-below alone-plain 32 refl (form w) (omega arith)) in
    let (a, q) = both (eqb (get_or widths (form w) 0) 0) _ p in
    let (b, r) = both (not (has_body w)) _ q in
    let (c, s) = both (not (binds w)) _ r in
    let (d, t) = both (not (eqb (form w) fold_by_form)) _ s in
    let g : eqb (form w) call_form ≡ false = not-true (eqb (form w) call_form) t in
    record {
      narrow = rw g (eqb-true (get_or widths (form w) 0) 0 a);
      bodiless = not-true (has_body w) b;
      free = not-true (binds w) c;
      folds = not-true (eqb (form w) fold_by_form) d;
      calls = g;
    }
