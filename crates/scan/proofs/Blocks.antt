-- What the pass over a device's cells gathers, and gives. Assumes nothing.
use Rattle.std.proofs.Common.{zero, ◌≡◌, refl, sym, ap, ◌∙◌, ℕ, suc, ◌+◌, ◌-◌, ◌*◌, ◌/◌, ◌%◌, ◌≤◌, ◌<◌, List, [], ◌∷◌, length, get_or, Bool, true, false, not, cond, ◌&&◌, ◌||◌, eqb, ltb, ℤ, pos, ◌⊎◌, inl, inr, arith}
use mathlib.Core.Bool.{or-true, true≢false}
use borrow.Author.Tests.{ne_eqb, ltb-true, ltb-false, eqb-true, eqb-false}
use Rattle.decide.proofs.Joined.{one_more}
use Rattle.number.specs.Number.{mark, eq_z}
use Rattle.arith.proofs.Signs.{eq_z-same}
use Rattle.network.specs.Cells.{row}
use Rattle.network.proofs.Stores.{row-row}
use Rattle.cells.proofs.Rows.{row-length}
use Rattle.cells.proofs.Chunks.{chunk_at}
use Rattle.std.specs.Simd.{first_chunks}
use lib.Seq.{get_or-take, get_or-drop}
use Rattle.std.proofs.lemmas.List.{get_or-replicate}
use Rattle.std.proofs.Common.{drop}
use Rattle.cell_rules.specs.Sound.{sound_at, pending_from, age_from}
use Rattle.cell_rules.proofs.Cell.{cell_of_row, variable, heard, pending, age}
use Rattle.std.specs.Cmp.Lexicographic.{pointwise}
use Rattle.std.specs.Ordering.{int_eq}
use Rattle.scan.proofs.Tests.{equal_rows, each-absent}
use Rattle.network.specs.Network.{sensors_at, heard_at, pending_at, age_at, block_size, no_message, is_distance, is_age, heard_sound, any_present}
use Rattle.scan.specs.Pass.{SoundBelow, row_at, Pending, nothing, message, PendingRows, Heard, HeardRows, OwnRows}

-- two rows of those that a device's pending rows are cut into
pub pair_in_chunks : (b : List ℤ) (pairs : List (List ℤ)) (p : ℕ) → length b ≡ block_size → pairs ≡ first_chunks 32 (length (row b (pending_at 1) 256) / 32) (row b (pending_at 1) 256) → p < 8
    → get_or pairs p [] ≡ row b (pending_at 1 + p * 32) 32
pair_in_chunks b pairs p l e h =
    let n : length (row b (pending_at 1) 256) ≡ 256 = row-length b (pending_at 1) 256 (omega arith) in
    rw e (chunk_at 32 (length (row b (pending_at 1) 256) / 32) p (row b (pending_at 1) 256) [] (omega arith) ∙ row-row b (pending_at 1) 256 (p * 32) 32 (omega arith))

-- two pending rows more
pub pending_more : (b pair : List ℤ) (p : ℕ) → pair ≡ row b (pending_at 1 + p * 32) 32 → PendingRows b (2 * p) → Pending (row pair 0 16) × Pending (row pair 16 16) → PendingRows b (2 * (p + 1))
pending_more b pair p e u v =
    let due : ℕ → Type 0 = λ r. Pending (row_at b (16 + r)) in
    let f : pending_at 1 + p * 32 + 0 ≡ heard_at 1 + (16 + 2 * p) * 16 = omega arith in
    let g : pending_at 1 + p * 32 + 16 ≡ heard_at 1 + (16 + (2 * p + 1)) * 16 = omega arith in
    let x : Pending (row_at b (16 + 2 * p)) = rw (e, row-row b (pending_at 1 + p * 32) 32 0 16 (omega arith), f) at v.0 in
    let y : Pending (row_at b (16 + (2 * p + 1))) = rw (e, row-row b (pending_at 1 + p * 32) 32 16 16 (omega arith), g) at v.1 in
    record { row = one_more due (2 * p + 1) (2 * (p + 1)) (omega arith) (one_more due (2 * p) (2 * p + 1) refl u.row x) y }

-- one row heard more
pub heard_more : (b cells ages : List ℤ) (k : ℕ) (z : ℤ) → HeardRows b k → cells ≡ row_at b k → ages ≡ row_at b 32 → z ≡ get_or ages k (pos 0) → Heard cells z → HeardRows b (k + 1)
heard_more b cells ages k z u d e o p =
    let q : Heard (row_at b k) (get_or (row_at b 32) k (pos 0)) = rw (← d, ← e, ← o) p in
    record { row = one_more (λ c. Heard (row_at b c) (get_or (row_at b 32) c (pos 0))) k (k + 1) refl u.row q }

-- ---- cells that pass
module _ (a r i : ℕ) (z : ℤ) where
  heard-fine : (r ≡ a → z ≡ mark) → (i ≡ 0 → is_distance z ≡ true) → heard_sound (suc a) (suc r) i z ≡ true
  unfolding heard_sound
  heard-fine f g = by (eqb (suc r) (suc a)) (eqb i 0) refl refl
    where
      by : (t u : Bool) → eqb (suc r) (suc a) ≡ t → eqb i 0 ≡ u → cond t (eq_z z mark) (not u || is_distance z) ≡ true
      by true u e q = rw (f (omega (arith, eqb-true (suc r) (suc a) e)))
      by false true e q = g (eqb-true i 0 q)
      by false false e q = refl

  nothing-fine : (f : ℤ) → (i ≡ 0 → z ≡ pos 0) → (1 ≤ i → z ≡ mark) → pending_from (suc a) f (suc r) i z ≡ true
  unfolding pending_from
  nothing-fine f p q = by (eqb i 0) refl
    where
      by : (u : Bool) → eqb i 0 ≡ u
          → cond u (eq_z z (pos 0) || not (eqb (suc r) (suc a)) && eq_z z (pos 1)) (eq_z z mark || not (eqb (suc r) (suc a) || eq_z f (pos 0))) ≡ true
      by true e = rw (p (eqb-true i 0 e))
      by false e = let l = eqb-false i 0 e in rw (q (omega arith))

  message-fine : (f : ℤ) → f ≡ pos 1 → (r ≡ a → ⊥) → (i ≡ 0 → z ≡ pos 1) → pending_from (suc a) f (suc r) i z ≡ true
  unfolding pending_from
  message-fine f o d p = rw (o, ne_eqb (suc r) (suc a) (λ e. d (omega arith))) (by (eqb i 0) refl)
    where
      by : (u : Bool) → eqb i 0 ≡ u → cond u (eq_z z (pos 0) || eq_z z (pos 1)) (eq_z z mark || true) ≡ true
      by true e = rw (p (eqb-true i 0 e))
      by false e = or-true (eq_z z mark)

-- the age of what was heard; a device's own is absent
age-fine : (a r : ℕ) (h : Bool) (z : ℤ) → (r ≡ a → z ≡ mark) → ((z ≡ mark) × (h ≡ false)) ⊎ (is_age z ≡ true) → age_from (suc a) h (suc r) z ≡ true
unfolding age_from
age-fine a r h z o (inl e) = rw (e.0, e.1)
age-fine a r h z o (inr w) = by (eq_z z mark) (eqb (suc r) (suc a)) refl refl
  where
    far : eq_z z mark ≡ true → ⊥
    far e = true≢false (sym w ∙ ap is_age (eq_z-same z mark e))

    by : (t u : Bool) → eq_z z mark ≡ t → eqb (suc r) (suc a) ≡ u → ((t || is_age z) && (not t || not h) && (t || not u)) ≡ true
    by true u e q = absurd (far e)
    by false true e q = absurd (far (rw (o (omega (arith, eqb-true (suc r) (suc a) q)))))
    by false false e q = rw w

-- ---- a device that passes
module _ (b : List ℤ) (a : ℕ) (l : length b ≡ block_size) (d : a < 16) (s : (e : ℕ) → sound_at b e sensors_at ≡ true) (h : HeardRows b 16) (p : PendingRows b 16) (o : OwnRows b a) where
  -- cell j, which is cell i of row r
  at : (r i j : ℕ) → i < 16 → j ≡ heard_at 1 + r * 16 + i → get_or b j (pos 0) ≡ get_or (row_at b r) i (pos 0)
  at r i j g e = ap (λ (k : ℕ). get_or b k (pos 0)) e ∙ sym (cell_of_row b (heard_at 1 + r * 16) i g)

  -- no age, so no slot
  own-slots : (i : ℕ) → i < 15 → get_or (row (row_at b a) 1 15) i (pos 0) ≡ mark
  own-slots i g = by (h.row a d).age
    where
      by : ((get_or (row_at b 32) a (pos 0) ≡ mark) × (any_present (row (row_at b a) 1 15) ≡ false)) ⊎ (is_age (get_or (row_at b 32) a (pos 0)) ≡ true) → get_or (row (row_at b a) 1 15) i (pos 0) ≡ mark
      by (inl q) = each-absent (row (row_at b a) 1 15) i (pos 0) q.1 (rw (row-row b (heard_at 1 + a * 16) 16 1 15 (omega arith), row-length b (heard_at 1 + a * 16 + 1) 15 (omega arith)) g)
      by (inr w) = absurd (true≢false (sym w ∙ ap is_age o.age))

  own : (i : ℕ) → i < 16 → get_or (row_at b a) i (pos 0) ≡ mark
  own zero g = o.link
  own (suc i) g = sym (get_or-take 15 (drop 1 (row_at b a)) i (pos 0) (omega arith) ∙ get_or-drop 1 (row_at b a) i (pos 0) ∙ ap (λ (k : ℕ). get_or (row_at b a) k (pos 0)) (omega arith)) ∙ own-slots i (omega arith)

  heard-passes : (j r i : ℕ) → r < 16 → i < 16 → j ≡ heard_at 1 + r * 16 + i → sound_at b a j ≡ true
  heard-passes j r i m g e =
      heard b a j r i m g e
      ∙ heard-fine a r i (get_or b j (pos 0)) (λ q. let x : j ≡ heard_at 1 + a * 16 + i = omega arith in at a i j g x ∙ own i g)
      (λ q. let x : j ≡ heard_at 1 + r * 16 + 0 = omega arith in rw (at r 0 j (omega arith) x) (h.row r m).distance)

  pending-passes : (j r i : ℕ) → r < 16 → i < 16 → j ≡ pending_at 1 + r * 16 + i → sound_at b a j ≡ true
  pending-passes j r i m g e = pending b a j r i m g e ∙ by (p.row r m)
    where
      x : j ≡ heard_at 1 + (16 + r) * 16 + i
      x = omega arith

      y : pending_at 1 + r * 16 ≡ heard_at 1 + (16 + r) * 16 + 0
      y = omega arith

      first : get_or b (pending_at 1 + r * 16) (pos 0) ≡ get_or (row_at b (16 + r)) 0 (pos 0)
      first = at (16 + r) 0 (pending_at 1 + r * 16) (omega arith) y

      here : get_or b j (pos 0) ≡ get_or (row_at b (16 + r)) i (pos 0)
      here = at (16 + r) i j g x

      zero-here : {z : ℤ} → get_or (row_at b (16 + r)) 0 (pos 0) ≡ z → i ≡ 0 → get_or b j (pos 0) ≡ z
      zero-here u q = here ∙ rw q u

      other : get_or (row_at b (16 + r)) 0 (pos 0) ≡ pos 1 → r ≡ a → ⊥
      other u q = let v : pos 0 ≡ pos 1 = sym o.message ∙ ap (λ (k : ℕ). get_or (row_at b (16 + k)) 0 (pos 0)) (sym q) ∙ u in let w : ◌≡◌ {A = ℕ} 0 1 = cc in omega arith

      slots : (xs : List ℤ) (i : ℕ) → xs ≡ no_message → 1 ≤ i → i < 16 → get_or xs i (pos 0) ≡ mark
      slots xs zero u k l = absurd (omega arith)
      slots xs (suc i) u k l = rw u (get_or-replicate 15 i mark (pos 0) (omega arith))

      by : Pending (row_at b (16 + r)) → pending_from (suc a) (get_or b (pending_at 1 + r * 16) (pos 0)) (suc r) i (get_or b j (pos 0)) ≡ true
      by (nothing u) = nothing-fine a r i _ _ (zero-here (rw u)) (λ v. here ∙ slots _ i u v g)
      by (message u) = message-fine a r i _ _ (first ∙ u) (other u) (zero-here u)

  age-passes : (j r : ℕ) → r < 16 → j ≡ age_at 1 + r → sound_at b a j ≡ true
  age-passes j r m e =
      let x : j ≡ heard_at 1 + 32 * 16 + r = omega arith in
      age b a j r m e
      ∙ rw (at 32 r j m x, ← (row-row b (heard_at 1 + r * 16) 16 1 15 (omega arith)))
      (age-fine a r (any_present (row (row_at b r) 1 15)) (get_or (row_at b 32) r (pos 0)) (λ q. rw q o.age) (h.row r m).age)

  pub passes : SoundBelow b a block_size
  passes = record { cell = λ j m. by j (ltb j sensors_at) (eqb j sensors_at) (ltb j (pending_at 1)) (ltb j (age_at 1)) refl refl refl refl m }
    where
      by : (j : ℕ) (t u v w : Bool) → ltb j sensors_at ≡ t → eqb j sensors_at ≡ u → ltb j (pending_at 1) ≡ v → ltb j (age_at 1) ≡ w → j < block_size → sound_at b a j ≡ true
      by j true u v w d e f g m = variable b a j (ltb-true j sensors_at d)
      by j false true v w d e f g m = rw (eqb-true j sensors_at e) (s a)
      by j false false true w d e f g m =
          let x = ltb-false j sensors_at d in
          let y = eqb-false j sensors_at e in
          let z = ltb-true j (pending_at 1) f in
          heard-passes j ((j - heard_at 1) / 16) ((j - heard_at 1) % 16) (omega arith) (omega arith) (omega arith)
      by j false false false true d e f g m =
          let y = ltb-false j (pending_at 1) f in
          let z = ltb-true j (age_at 1) g in
          pending-passes j ((j - pending_at 1) / 16) ((j - pending_at 1) % 16) (omega arith) (omega arith) (omega arith)
      by j false false false false d e f g m = let z = ltb-false j (age_at 1) g in age-passes j (j - age_at 1) (omega arith) (omega arith)

-- what the test of a device's rows for itself says
pub own_by : (b links messages ages : List ℤ) (a : ℕ) (x y z : ℤ) (t : Bool) → links ≡ row_at b a → messages ≡ row_at b (16 + a) → ages ≡ row_at b 32
    → t ≡ pointwise int_eq (x ∷ y ∷ z ∷ []) (mark ∷ pos 0 ∷ mark ∷ []) → x ≡ get_or links 0 (pos 0) → y ≡ get_or messages 0 (pos 0) → z ≡ get_or ages a (pos 0) → t ≡ true → OwnRows b a
own_by b links messages ages a x y z t e f g u k l m q =
    let s = equal_rows t (x ∷ y ∷ z ∷ []) (mark ∷ pos 0 ∷ mark ∷ []) u q in
    let first : x ≡ mark = ap (λ (xs : List ℤ). get_or xs 0 (pos 0)) s in
    let second : y ≡ pos 0 = ap (λ (xs : List ℤ). get_or xs 1 (pos 0)) s in
    let third : z ≡ mark = ap (λ (xs : List ℤ). get_or xs 2 (pos 0)) s in
    record { link = rw (← e) (sym k ∙ first); message = rw (← f) (sym l ∙ second); age = rw (← g) (sym m ∙ third) }
