-- The test of a cell by its row and slot, and the rows of a device. Assumes nothing.
use Rattle.std.proofs.Common.{◌≡◌, refl, sym, ap, ◌∙◌, ℕ, suc, ◌+◌, ◌-◌, ◌*◌, ◌/◌, ◌%◌, ◌<◌, ◌≤◌, Bool, true, List, [], length, get_or, drop, ℤ, pos, arith}
use lib.Seq.{get_or-take, get_or-drop}
use borrow.Author.Tests.{lt-ltb, le-ltb, ne_eqb}
use Rattle.std.specs.Simd.{first_chunks}
use Rattle.cells.proofs.Chunks.{chunk_at}
use Rattle.cells.proofs.Rows.{row-length}
use Rattle.network.specs.Cells.{row}
use Rattle.network.specs.Network.{sensors_at, heard_at, pending_at, age_at, block_size, heard_sound, pending_sound, any_present, age_sound, cell_sound}
use Rattle.network.proofs.Stores.{row-row}
use Rattle.cell_rules.specs.Sound.{row_count, sound_at, pending_from, age_from}

-- row r of the rows that a device's cells are cut into
pub row_in_chunks : (b : List ℤ) (rows : List (List ℤ)) (r : ℕ) → length b ≡ block_size → rows ≡ first_chunks 16 (length (row b (heard_at 1) 528) / 16) (row b (heard_at 1) 528) → r < row_count
    → get_or rows r [] ≡ row b (heard_at 1 + r * 16) 16
row_in_chunks b rows r l e h =
    let n : length (row b (heard_at 1) 528) ≡ 528 = row-length b (heard_at 1) 528 (omega arith) in
    rw e (chunk_at 16 (length (row b (heard_at 1) 528) / 16) r (row b (heard_at 1) 528) [] (omega arith) ∙ row-row b (heard_at 1) 528 (r * 16) 16 (omega arith))

-- cell i of a row
pub cell_of_row : (b : List ℤ) (p i : ℕ) → i < 16 → get_or (row b p 16) i (pos 0) ≡ get_or b (p + i) (pos 0)
cell_of_row b p i h = get_or-take 16 (drop p b) i (pos 0) h ∙ get_or-drop p b i (pos 0)

module _ (b : List ℤ) (a : ℕ) where
  pub variable : (j : ℕ) → j < sensors_at → sound_at b a j ≡ true
  unfolding sound_at cell_sound
  variable j h = rw (lt-ltb j sensors_at h)

  module _ (j r i : ℕ) (h : r < 16) (g : i < 16) where
    pub heard : j ≡ heard_at 1 + r * 16 + i → sound_at b a j ≡ heard_sound (suc a) (suc r) i (get_or b j (pos 0))
    unfolding sound_at cell_sound
    heard q =
        let x : (j - heard_at 1) / 16 + 1 ≡ suc r = omega arith in
        let y : (j - heard_at 1) % 16 ≡ i = omega arith in
        rw (le-ltb j sensors_at (omega arith), ne_eqb j sensors_at (λ s. omega arith), lt-ltb j (pending_at 1) (omega arith), x, y)

    pub pending : j ≡ pending_at 1 + r * 16 + i → sound_at b a j ≡ pending_from (suc a) (get_or b (pending_at 1 + r * 16) (pos 0)) (suc r) i (get_or b j (pos 0))
    unfolding sound_at cell_sound pending_sound pending_from
    pending q =
        let x : (j - pending_at 1) / 16 + 1 ≡ suc r = omega arith in
        let y : (j - pending_at 1) % 16 ≡ i = omega arith in
        let z : pending_at 1 + r * 16 ≡ pending_at (suc r) = omega arith in
        rw (le-ltb j sensors_at (omega arith), ne_eqb j sensors_at (λ s. omega arith), le-ltb j (pending_at 1) (omega arith), lt-ltb j (age_at 1) (omega arith), x, y, z)

  pub age : (j r : ℕ) → r < 16 → j ≡ age_at 1 + r → sound_at b a j ≡ age_from (suc a) (any_present (row b (heard_at 1 + r * 16 + 1) 15)) (suc r) (get_or b j (pos 0))
  unfolding sound_at cell_sound age_sound age_from
  age j r h q =
      let x : j - age_at 1 + 1 ≡ suc r = omega arith in
      let z : heard_at 1 + r * 16 + 1 ≡ heard_at (suc r) + 1 = omega arith in
      rw (
        le-ltb j sensors_at (omega arith),
        ne_eqb j sensors_at (λ s. omega arith),
        le-ltb j (pending_at 1) (omega arith),
        le-ltb j (age_at 1) (omega arith),
        x,
        z,
      )

-- the same of a cell x as it is read of its row, whose first cell is f
module _ (b row_r : List ℤ) (a r i : ℕ) (x : ℤ) (e : row_r ≡ row b (heard_at 1 + r * 16) 16) (g : i < 16) (o : x ≡ get_or row_r i (pos 0)) where
  read : x ≡ get_or b (heard_at 1 + r * 16 + i) (pos 0)
  read = o ∙ rw e (cell_of_row b (heard_at 1 + r * 16) i g)

  pub heard_cell : (t : Bool) → t ≡ heard_sound (suc a) (suc r) i x → r < 16 → t ≡ sound_at b a (heard_at 1 + r * 16 + i)
  heard_cell t q h = q ∙ rw read (sym (heard b a (heard_at 1 + r * 16 + i) r i h g refl))

  pub pending_cell : (t : Bool) (f : ℤ) → t ≡ pending_from (suc a) f (suc (r - 16)) i x → f ≡ get_or row_r 0 (pos 0) → 16 ≤ r → r < 32 → t ≡ sound_at b a (heard_at 1 + r * 16 + i)
  pending_cell t f q l h k =
      let x : heard_at 1 + r * 16 + 0 ≡ pending_at 1 + (r - 16) * 16 = omega arith in
      let first : f ≡ get_or b (pending_at 1 + (r - 16) * 16) (pos 0) = l ∙ rw e (cell_of_row b (heard_at 1 + r * 16) 0 (omega arith) ∙ ap (λ (m : ℕ). get_or b m (pos 0)) x) in
      q ∙ rw (read, first) (sym (pending b a (heard_at 1 + r * 16 + i) (r - 16) i (omega arith) g (omega arith)))

pub age_cell : (b row_r heard_row : List ℤ) (a r i : ℕ) → row_r ≡ row b (heard_at 1 + r * 16) 16 → heard_row ≡ row b (heard_at 1 + i * 16) 16 → i < 16 → 32 ≤ r → r < 33
    → age_from (suc a) (any_present (row heard_row 1 15)) (suc i) (get_or row_r i (pos 0)) ≡ sound_at b a (heard_at 1 + r * 16 + i)
age_cell b row_r heard_row a r i e d g h k =
    rw (read b row_r a r i (get_or row_r i (pos 0)) e g refl, d, row-row b (heard_at 1 + i * 16) 16 1 15 (omega arith)) (sym (age b a (heard_at 1 + r * 16 + i) i g (omega arith)))
