-- What tests of rows say. Assumes nothing.
use Rattle.std.proofs.Common.{◌≡◌, refl, sym, ◌∙◌, ℕ, zero, suc, ◌+◌, ◌%◌, ◌≤◌, ◌<◌, List, [], ◌∷◌, length, get_or, replicate, Bool, true, false, not, ℤ, pos, inl, arith}
use Rattle.std.specs.Cmp.Lexicographic.{pointwise}
use Rattle.std.specs.Ordering.{int_eq}
use Rattle.std.proofs.lemmas.Bool.Decides.{Decides-int_eq}
use Rattle.std.proofs.lemmas.Slice.Eq.{slice_eq-Decides}
use Rattle.std.proofs.lemmas.List.{get_or-replicate}
use lib.Seq.{ext_get_or}
use borrow.Author.Tests.{not-false, ne_eqb}
use Rattle.decide.proofs.Joined.{one_more}
use Rattle.decide.proofs.Picks.{by-rest, neither}
use Rattle.number.specs.Number.{mark, eq_z}
use Rattle.arith.proofs.Signs.{eq_z-same}
use Rattle.network.specs.Cells.{row}
use Rattle.network.specs.Network.{any_present, within}
use Rattle.cells.proofs.Rows.{row-length}
use Rattle.cell_rules.proofs.Cell.{cell_of_row}
use Rattle.scan.specs.Pass.{row_cell, RowsAre, Pending, nothing, Heard}

-- two rows that the machine finds equal
pub equal_rows : (t : Bool) (xs ys : List ℤ) → t ≡ pointwise int_eq xs ys → t ≡ true → xs ≡ ys
equal_rows t xs ys e q = (slice_eq-Decides Decides-int_eq xs ys t e).0 q

-- one cell more of rows that are `first` and absent slots
pub cell_more : (xs : List ℤ) (first : ℤ) (i : ℕ) → RowsAre xs first i → get_or xs i (pos 0) ≡ row_cell first (i % 16) → RowsAre xs first (i + 1)
cell_more xs first i u e = record { cell = one_more (λ k. get_or xs k (pos 0) ≡ row_cell first (k % 16)) i (i + 1) refl u.cell e }

-- sixteen of them are one row
pub one_row : (xs : List ℤ) (first : ℤ) → length xs ≡ 16 → RowsAre xs first 16 → xs ≡ first ∷ replicate 15 mark
one_row xs first l u =
    ext_get_or (pos 0) xs (first ∷ replicate 15 mark) l (λ i h. u.cell i (omega arith) ∙ by i (omega arith))
  where
    by : (i : ℕ) → i < 16 → row_cell first (i % 16) ≡ get_or (first ∷ replicate 15 mark) i (pos 0)
    by zero h = refl
    by (suc i) h = rw (ne_eqb (suc i % 16) 0 (λ e. omega arith)) (sym (get_or-replicate 15 i mark (pos 0) (omega arith)))

pub idle_passes : (xs : List ℤ) → length xs ≡ 16 → RowsAre xs (pos 0) 16 → Pending xs
idle_passes xs l u = nothing (one_row xs (pos 0) l u)

-- thirty-two are two
pub both_idle : (xs : List ℤ) → length xs ≡ 32 → RowsAre xs (pos 0) (length xs) → Pending (row xs 0 16) × Pending (row xs 16 16)
both_idle xs l u = (idle_passes (row xs 0 16) (row-length xs 0 16 (omega arith)) (part 0 (omega arith) refl), idle_passes (row xs 16 16) (row-length xs 16 16 (omega arith)) (part 16 (omega arith) refl))
  where
    part : (p : ℕ) → p + 16 ≤ 32 → p % 16 ≡ 0 → RowsAre (row xs p 16) (pos 0) 16
    part p h e =
        record {
          cell = λ i g. let q : (p + i) % 16 ≡ i % 16 = omega arith in cell_of_row xs p i g ∙ u.cell (p + i) (omega arith) ∙ rw q;
        }

-- where the age is absent and all the row is
pub absent_passes : (xs : List ℤ) (z : ℤ) → length xs ≡ 16 → RowsAre xs mark (length xs) → z ≡ mark → Heard xs z
unfolding any_present
absent_passes xs z l u e = let s : RowsAre xs mark 16 = rw l at u in rw (one_row xs mark l s) (record { distance = refl; age = inl (e, refl) })

-- where the age is absent and the slots are, after a distance
pub linked_passes : (xs : List ℤ) (z : ℤ) → z ≡ mark → within (pos 0) (pos 1000000) (get_or xs 0 (pos 0)) ≡ true → any_present (row xs 1 15) ≡ false → Heard xs z
linked_passes xs z e d q = record { distance = by-rest (eq_z (get_or xs 0 (pos 0)) mark) d; age = inl (e, q) }

-- cells of which none is present
pub each-absent : (l : List ℤ) (i : ℕ) (d : ℤ) → any_present l ≡ false → i < length l → get_or l i d ≡ mark
unfolding any_present
each-absent [] i d q h = absurd (omega arith)
each-absent (z ∷ l) zero d q h = eq_z-same z mark (not-false (eq_z z mark) (neither (not (eq_z z mark)) (any_present l) q).0)
each-absent (z ∷ l) (suc i) d q h = each-absent l i d (neither (not (eq_z z mark)) (any_present l) q).1 (omega arith)
