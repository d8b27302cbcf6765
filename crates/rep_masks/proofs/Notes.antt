-- What a node's mask is, from those of the nodes that it names. Assumes nothing.
use mathlib.Core.Path.{◌≡◌, refl, sym, ap, subst, ◌∙◌}
use mathlib.Core.Bool.{Bool, true, false, cond, ◌||◌, or_assoc, or-false}
use mathlib.Core.List.{List, [], ◌∷◌, ◌++◌, append-nil}
use Prim.Native.Nat.{ℕ, ◌+◌, ◌^◌, ◌<◌, ◌≤◌}
use native.Mathlib.Omega.{arith}
use lib.ListN.{length, get_or, set, replicate, length-set, length-replicate, get_or-replicate, get_or-eq_default}
use lib.Seq.{get_or-set_other}
use lib.Dec.{eqb, ltb}
use lib.Bits.{bit_or, or_zero_l, or_zero_r}
use borrow.Author.Count.{below_none}
use borrow.Author.Tests.{ltb-true, ltb-false}
use Rattle.program.proofs.Names.{among-append}
use Rattle.program.specs.Table.{among, node_limit}
use Rattle.program.specs.Tree.{Expr, nothing}
use Rattle.round.specs.Round.{reps}
use Rattle.bits.specs.Bits.{has_bit}
use Rattle.bits.proofs.Bits.{no-bit, power-bit, or-bit}
use Rattle.words.specs.Form.{constant_form, operator_form}
use Rattle.words.specs.Word.{form, item, word}
use Rattle.words.specs.Trees.{tree_at}
use Rattle.words.proofs.Trees.{tree-lit}
use Rattle.operands.specs.Formed.{width, operand, is_alone, has_body, binds, part, part_note, body_note, Formed, Empty}
use Rattle.operands.proofs.Below.{body_below, set_more}
use Rattle.operands.proofs.Alone.{alone_of}
use Rattle.operands.proofs.Views.{View, is-constant, is-parameter, is-variable, is-operator, is-sense, is-rep, is-if, is-mux, is-fold-by, is_call, is-fold, is-nbr, is-range, is-lag, is-field-if}
use Rattle.operands.proofs.Views.{is-field-operator, view}
use Rattle.rep_masks.specs.Masks.{Mask, Masks, own_mask, mask_of}

-- ---- the variables of the reps under a node are its own, its body's and its operands'
abbrev own_reps : ℕ → List ℕ
own_reps w = cond (binds w) (item w ∷ []) []

abbrev body_tree : List ℕ → ℕ → Expr
body_tree ws w = cond (has_body w) (tree_at ws (operand w 4)) nothing

all-reps : {ws : List ℕ} {n w : ℕ} → View ws n w
    → reps (tree_at ws n) ≡ own_reps w ++ (reps (body_tree ws w) ++ (reps (part ws w 0) ++ (reps (part ws w 1) ++ (reps (part ws w 2) ++ reps (part ws w 3)))))
unfolding reps width
all-reps (is-constant h e) = rw (e, h)
all-reps (is-parameter h e) = rw (e, h)
all-reps (is-variable h e) = rw (e, h)
all-reps (is-operator h e) = rw (e, h) (simp append-nil)
all-reps (is-sense h e) = rw (e, h) (simp append-nil)
all-reps (is-rep h e) = rw (e, h) (simp append-nil)
all-reps (is-if h e) = rw (e, h) (simp append-nil)
all-reps (is-mux h e) = rw (e, h) (simp append-nil)
all-reps (is-fold-by h e) = rw (e, h) (simp append-nil)
all-reps (is_call h e) = rw (e, h)
all-reps (is-fold h e) = rw (e, h) (simp append-nil)
all-reps (is-nbr h e) = rw (e, h) (simp append-nil)
all-reps (is-range h e) = rw (e, h)
all-reps (is-lag h e) = rw (e, h)
all-reps (is-field-if h e) = rw (e, h) (simp append-nil)
all-reps (is-field-operator h e) = rw (e, h) (simp append-nil)

module _ {ws us : List ℕ} {n : ℕ} (f : Formed ws n) (m : Masks ws us n) (v : ℕ) (l : v < 16) where
  own-bit : (w : ℕ) → has_bit v (own_mask w) ≡ among v (own_reps w)
  unfolding among
  own-bit w = go (binds w)
    where
      go : (b : Bool) → has_bit v (cond b (2 ^ item w) 0) ≡ among v (cond b (item w ∷ []) [])
      go true = power-bit (item w) v (omega arith) (omega arith) ∙ sym (or-false (eqb v (item w)))
      go false = no-bit v

  named-bit : (b : Bool) (k : ℕ) → (b ≡ true → k < n) → has_bit v (cond b (get_or us k 0) 0) ≡ among v (reps (cond b (tree_at ws k) nothing))
  unfolding among reps
  named-bit true k g = m.mask k (g refl) v l
  named-bit false k g = no-bit v

  part-bit : (j : ℕ) → j < 4 → has_bit v (part_note 0 us (word ws n) j) ≡ among v (reps (part ws (word ws n) j))
  part-bit j h = named-bit (ltb j (width (word ws n))) (operand (word ws n) j) (λ e. f.operands j h (ltb-true j (width (word ws n)) e))

  body-bit : has_bit v (body_note 0 us (word ws n)) ≡ among v (reps (body_tree ws (word ws n)))
  body-bit = named-bit (has_body (word ws n)) (operand (word ws n) 4) (body_below f)

  pub mask-bit : has_bit v (mask_of us (word ws n)) ≡ among v (reps (tree_at ws n))
  unfolding mask_of
  mask-bit =
      simp (or-bit, own-bit (word ws n), body-bit, part-bit 0 (omega arith), part-bit 1 (omega arith), part-bit 2 (omega arith), part-bit 3 (omega arith))
      (simp or_assoc (sym (ap (among v) (all-reps (view f)) ∙ simp among-append)))

-- ---- one more node noted
-- what is not noted yet stays 0
pub record Blank (us : List ℕ) (n : ℕ) : Type 0 where
  pub rest : (k : ℕ) → n ≤ k → get_or us k 0 ≡ 0

pub blank-more : {us : List ℕ} {n : ℕ} (m : ℕ) → Blank us n → Blank (set us n m) (n + 1)
blank-more {us} {n} m z = record { rest = λ k h. get_or-set_other us n k m 0 (λ e. omega arith) ∙ z.rest k (omega arith) }

pub masks-more : {ws us : List ℕ} {n m : ℕ} → n < node_limit → Formed ws n → Masks ws us n → m ≡ mask_of us (word ws n) → Masks ws (set us n m) (n + 1)
masks-more {ws} {us} {n} {m} h f s e =
    record {
      long = length-set us n m ∙ s.long;
      mask = set_more (Mask ws) us n m 0 (omega (arith, s.long)) s.mask (λ v l. rw e (mask-bit f s v l));
    }

-- the masks before any is noted, and those of the words that are 0
module _ {us : List ℕ} (e : us ≡ replicate node_limit 0) where
  all_there : length us ≡ node_limit
  all_there = ap length e ∙ length-replicate {A = ℕ} node_limit 0

  pub masks-none : {ws : List ℕ} → Masks ws us 0
  masks-none = record { long = all_there; mask = below_none _ }

  pub blank-all : Blank us 0
  blank-all = record { rest = λ k h. go k (ltb k node_limit) refl }
    where
      go : (k : ℕ) (b : Bool) → ltb k node_limit ≡ b → get_or us k 0 ≡ 0
      go k true q = ap (λ (l : List ℕ). get_or l k 0) e ∙ get_or-replicate node_limit k 0 0 (ltb-true k node_limit q)
      go k false q = get_or-eq_default us 0 (subst (λ (m : ℕ). m ≤ k) (sym all_there) (ltb-false k node_limit q))

pub masks-rest : {ws us : List ℕ} {n : ℕ} → Empty ws n → Masks ws us n → Blank us n → Masks ws us node_limit
unfolding among reps
masks-rest {ws} {us} {n} empty s blank = record { long = s.long; mask = λ k h. go k (ltb k n) refl }
  where
    go : (k : ℕ) (b : Bool) → ltb k n ≡ b → Mask ws k (get_or us k 0)
    go k true q = s.mask k (ltb-true k n q)
    go k false q = λ v l.
        let m : n ≤ k = ltb-false k n q in
        let z : form (word ws k) ≡ constant_form = rw (empty.rest k m) in
        rw (blank.rest k m, tree-lit ws k z) (no-bit v)

-- ---- a node that names no other has none, an operator has those of its two sides
module _ (us : List ℕ) (w : ℕ) where
  pub alone_mask : is_alone w ≡ true → mask_of us w ≡ 0
  unfolding mask_of
  alone_mask h = let l = alone_of w h in rw (l.narrow, l.bodiless, l.free)

  pub operator_mask : form w ≡ operator_form → mask_of us w ≡ bit_or (part_note 0 us w 0) (part_note 0 us w 1)
  unfolding mask_of width
  operator_mask h = rw h (simp (or_zero_l, or_zero_r))

  pub mask_parts : mask_of us w ≡ bit_or (bit_or (bit_or (bit_or (own_mask w) (body_note 0 us w)) (bit_or (part_note 0 us w 0) (part_note 0 us w 1))) (part_note 0 us w 2)) (part_note 0 us w 3)
  unfolding mask_of
  mask_parts = refl
