-- What a node's note is, from those of the nodes that it names. Assumes nothing.
use mathlib.Core.Path.{◌≡◌, refl, sym, ◌∙◌}
use mathlib.Core.Bool.{Bool, true, false, cond, ◌&&◌, ◌||◌, or_assoc, or-false}
use mathlib.Core.List.{List}
use Prim.Native.Nat.{ℕ, ◌+◌, ◌<◌}
use native.Mathlib.Omega.{arith}
use lib.ListN.{length, get_or, set, length-set}
use lib.Dec.{eqb, ltb}
use borrow.Author.Count.{below_none}
use borrow.Author.Tests.{eqb-true, ltb-true}
use Rattle.program.specs.Table.{node_limit}
use Rattle.program.specs.Tree.{Expr, nothing, spatial}
use Rattle.words.specs.Form.{call_form}
use Rattle.words.specs.Word.{form, word}
use Rattle.words.specs.Trees.{tree_at}
use Rattle.operands.specs.Formed.{width, operand, is_spatial, part, part_note, body_note, Formed}
use Rattle.operands.proofs.Below.{set_more}
use Rattle.operands.proofs.Views.{View, is-constant, is-parameter, is-variable, is-operator, is-sense, is-rep, is-if, is-mux, is-fold-by, is_call, is-fold, is-nbr, is-range, is-lag, is-field-if}
use Rattle.operands.proofs.Views.{is-field-operator, view}
use Rattle.spatial.specs.Noted.{Spatials, spatial_of}

-- ---- a node is spatial by its form, by its body where it is a call, and by its operands
abbrev called_tree : List ℕ → ℕ → Expr
called_tree ws w = cond (eqb (form w) call_form) (tree_at ws (operand w 4)) nothing

all-spatial : {ws : List ℕ} {n w : ℕ} → View ws n w
    → spatial (tree_at ws n)
    ≡ is_spatial w || (spatial (called_tree ws w) || (spatial (part ws w 0) || (spatial (part ws w 1) || (spatial (part ws w 2) || spatial (part ws w 3)))))
unfolding spatial width
all-spatial (is-constant h e) = rw (e, h)
all-spatial (is-parameter h e) = rw (e, h)
all-spatial (is-variable h e) = rw (e, h)
all-spatial (is-operator h e) = rw (e, h) (simp or-false)
all-spatial (is-sense h e) = rw (e, h) (simp or-false)
all-spatial (is-rep h e) = rw (e, h)
all-spatial (is-if h e) = rw (e, h) (simp (or_assoc, or-false))
all-spatial (is-mux h e) = rw (e, h) (simp (or_assoc, or-false))
all-spatial (is-fold-by h e) = rw (e, h) (simp or-false)
all-spatial (is_call h e) = rw (e, h) (simp or_assoc)
all-spatial (is-fold h e) = rw (e, h) (simp or-false)
all-spatial (is-nbr h e) = rw (e, h)
all-spatial (is-range h e) = rw (e, h)
all-spatial (is-lag h e) = rw (e, h)
all-spatial (is-field-if h e) = rw (e, h) (simp (or_assoc, or-false))
all-spatial (is-field-operator h e) = rw (e, h) (simp or-false)

module _ {ws : List ℕ} {sp : List Bool} {n : ℕ} (f : Formed ws n) (m : Spatials ws sp n) where
  named-note : (b : Bool) (k : ℕ) → (b ≡ true → k < n) → cond b (get_or sp k false) false ≡ spatial (cond b (tree_at ws k) nothing)
  unfolding spatial
  named-note true k g = m.note k (g refl)
  named-note false k g = refl

  part-note : (j : ℕ) → j < 4 → part_note false sp (word ws n) j ≡ spatial (part ws (word ws n) j)
  part-note j h = named-note (ltb j (width (word ws n))) (operand (word ws n) j) (λ e. f.operands j h (ltb-true j (width (word ws n)) e))

  call-note : eqb (form (word ws n)) call_form && body_note false sp (word ws n) ≡ spatial (called_tree ws (word ws n))
  unfolding spatial
  call-note = go (eqb (form (word ws n)) call_form) refl
    where
      go : (b : Bool) → eqb (form (word ws n)) call_form ≡ b → b && body_note false sp (word ws n) ≡ spatial (cond b (tree_at ws (operand (word ws n) 4)) nothing)
      go true e = let h : form (word ws n) ≡ call_form = eqb-true (form (word ws n)) call_form e in rw h (m.note (operand (word ws n) 4) (f.calls h))
      go false e = refl

  pub spatial-note : spatial_of sp (word ws n) ≡ spatial (tree_at ws n)
  unfolding spatial_of
  spatial-note = rw (call-note, part-note 0 (omega arith), part-note 1 (omega arith), part-note 2 (omega arith), part-note 3 (omega arith)) (sym (all-spatial (view f)))

pub spatials-none : {ws : List ℕ} {sp : List Bool} → length sp ≡ node_limit → Spatials ws sp 0
spatials-none e = record { long = e; note = below_none _ }

pub spatials-more : {ws : List ℕ} {sp : List Bool} {n : ℕ} {m : Bool} → n < node_limit → Formed ws n → Spatials ws sp n → m ≡ spatial_of sp (word ws n)
    → Spatials ws (set sp n m) (n + 1)
spatials-more {ws} {sp} {n} {m} h f s e =
    record {
      long = length-set sp n m ∙ s.long;
      note = set_more (λ k t. t ≡ spatial (tree_at ws k)) sp n m false (omega (arith, s.long)) s.note (e ∙ spatial-note f s);
    }
