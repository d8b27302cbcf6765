-- Cells of which one holds a number, as a loop that joins by `|` finds it. Assumes nothing.
use Rattle.std.proofs.Common.{◌≡◌, refl, ◌∙◌, ap, ℕ, zero, suc, ◌+◌, ◌<◌, List, [], ◌∷◌, length, get_or, take, Bool, true, false, not, ◌||◌, eqb, ℤ, pos, of_z, w32, add-one, arith}
use mir.Val.{SFits}
use mir.Facts.{sfits_lit}
use Rattle.arith.proofs.Signs.{bits-eq}
use Rattle.number.specs.Number.{mark, eq_z}
use Rattle.network.specs.Network.{any_present}

or-assoc : (a b c : Bool) → (a || (b || c)) ≡ ((a || b) || c)
or-assoc true b c = refl
or-assoc false b c = refl

or-false : (a : Bool) → (a || false) ≡ a
or-false true = refl
or-false false = refl

-- one cell more
present-more : (l : List ℤ) (i : ℕ) (d : ℤ) → i < length l → any_present (take (suc i) l) ≡ any_present (take i l) || not (eq_z (get_or l i d) mark)
unfolding any_present
present-more [] i d h = absurd (omega arith)
present-more (z ∷ l) zero d h = or-false (not (eq_z z mark))
present-more (z ∷ l) (suc i) d h =
    let n : Bool = not (eq_z z mark) in
    ap (λ (t : Bool). n || t) (present-more l i d (omega arith)) ∙ or-assoc n (any_present (take i l)) (not (eq_z (get_or l i d) mark))

-- a turn of the loop
pub present_step : (l : List ℤ) (i : ℕ) (a : Bool) → i < length l → SFits w32 (get_or l i (pos 0)) → a ≡ any_present (take i l)
    → (a || not (eqb (of_z w32 (get_or l i (pos 0))) 2147483648)) ≡ any_present (take (i + 1) l)
present_step l i a h f e = rw (add-one i, present-more l i (pos 0) h, e, ← (bits-eq (get_or l i (pos 0)) mark f (sfits_lit tt)))
