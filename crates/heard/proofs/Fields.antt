-- Fields of what was heard, from cells of which some are absent. Assumes nothing.
use Rattle.std.proofs.Common.{◌≡◌, refl, sym, ap, ◌∙◌, Bool, true, false, not, cond, List, ◌∷◌, ℕ, zero, suc, ◌+◌, ◌*◌, ◌-◌, ◌/◌, ◌≤◌, ◌<◌, zero-add, arith, ℤ, pos, get_or}
use Rattle.std.proofs.Math.Option.{Option, none, some}
use native.Mathlib.Nat.{mul-le-mul_left}
use Rattle.number.specs.Number.{eq_z, mark}
use Rattle.field.specs.Field.{from}
use Rattle.round.specs.Round.{heard, present, heard_in, distance, lag_of, measured, range_in, lag_in}
use Rattle.round.proofs.Own.{measured-same}
use Rattle.domain.specs.Held.{field_of}
use Rattle.domain.specs.Members.{bit, built}
use Rattle.field.proofs.Each.{from-same}
use Rattle.domain.proofs.Laws.{built-field, built-none, built-more}
use Rattle.network.specs.Network.{heard_at, pending_at}
use Rattle.heard.specs.Present.{present_in}
use Rattle.heard.specs.Measures.{cells_from}

-- what was heard in slot i from device b + 1, and its measure where that counts
abbrev pub cell_at : List ℤ → ℕ → ℕ → ℤ
cell_at here i b = get_or here (heard_at 1 + 16 * b + i) (pos 0)

abbrev pub measure_at : List ℤ → ℕ → ℕ → ℕ → ℤ
measure_at here from by b = get_or here (from + by * b) (pos 0)

abbrev pub measured_at : List ℤ → ℕ → ℕ → ℕ → ℕ → ℤ
measured_at here i from by b = cond (eq_z (cell_at here i b) (pos 0)) (measure_at here from by b) mark

-- a cell holds a number
abbrev pub there : List ℤ → ℕ → Bool
there cells k = not (eq_z (get_or cells k (pos 0)) mark)

shifted : {A : Type 0} (g : ℕ → A) (n a : ℕ) → from (suc a) n g ≡ from a n (λ k. g (suc k))
unfolding from
shifted g zero a = refl
shifted g (suc n) a = ap (λ l. g (suc a) ∷ l) (shifted g n (suc a))

kept : (t : Bool) (z : ℤ) → cond (not t) (some z) none ≡ cond t none (some z)
kept true z = refl
kept false z = refl

-- the domain built by `there` has the numbers of those cells
pub present-field : (bits : ℕ) (cells : List ℤ) → bits ≡ built (there cells) 16 → field_of bits cells ≡ present_in cells
present-field bits cells e =
    rw e
    (built-field (there cells) cells
    ∙ from-same (λ (k : ℕ). cond (there cells k) (some (get_or cells k (pos 0))) none) (λ (k : ℕ). present (get_or cells k (pos 0))) 16 0
    (λ j l. kept (eq_z (get_or cells (0 + j) (pos 0)) mark) (get_or cells (0 + j) (pos 0))))

-- cells that f fills, as a field over devices from 1 on
filled-field : (f : ℕ → ℤ) (g : ℕ → Option ℤ) (cells : List ℤ) → ((k : ℕ) → k < 16 → get_or cells k (pos 0) ≡ f k) → ((k : ℕ) → present (f k) ≡ g (suc k)) → present_in cells ≡ from 1 16 g
filled-field f g cells h q =
    from-same (λ (k : ℕ). present (get_or cells k (pos 0))) (λ (k : ℕ). g (suc k)) 16 0
    (λ j l. let c : get_or cells (0 + j) (pos 0) ≡ f (0 + j) = rw zero-add (h j l) in rw c (q (0 + j)))
    ∙ sym (shifted g 16 0)

same-heard : (here : List ℤ) (i k : ℕ) → heard here i (suc k) ≡ cell_at here i k
same-heard here i k = let e : suc k - 1 ≡ k = omega arith in rw e

same-measure : (here : List ℤ) (from by k : ℕ) → cells_from from by here (suc k) ≡ measure_at here from by k
same-measure here from by k = let e : suc k - 1 ≡ k = omega arith in rw e

chosen : (t : Bool) (d : ℤ) → present (cond t d mark) ≡ cond t (present d) none
chosen true d = refl
chosen false d = refl

module _ (here : List ℤ) (i : ℕ) (cells : List ℤ) where
  pub heard-field : ((k : ℕ) → k < 16 → get_or cells k (pos 0) ≡ cell_at here i k) → present_in cells ≡ heard_in here i
  unfolding heard_in
  heard-field h = filled-field (cell_at here i) (λ b. present (heard here i b)) cells h (λ k. rw (same-heard here i k) refl)

  pub measured-field : (from by : ℕ) → ((k : ℕ) → k < 16 → get_or cells k (pos 0) ≡ measured_at here i from by k) → present_in cells ≡ measured (cells_from from by) here i
  unfolding measured
  measured-field from by h =
      filled-field (measured_at here i from by) (λ b. cond (eq_z (heard here i b) (pos 0)) (present (cells_from from by here b)) none) cells h
      (λ k. rw (same-heard here i k, same-measure here from by k) (chosen (eq_z (cell_at here i k) (pos 0)) (measure_at here from by k)))

-- ---- a turn that builds the domain: a cell's bit on top
pub built_more : (cells : List ℤ) (k d m : ℕ) → d ≡ built (there cells) k → m ≡ bit (there cells k) → d / 2 + m ≡ built (there cells) (k + 1)
built_more cells k d m p q = built-more (there cells) k d m p q

pub bit_at : (v : ℤ) → bit (not (eq_z v mark)) ≡ cond (eq_z v mark) 0 32768
bit_at v = by (eq_z v mark)
  where
    by : (t : Bool) → bit (not t) ≡ cond t 0 32768
    by true = refl
    by false = refl

pub none_built : (cells : List ℤ) → built (there cells) 0 ≡ 0
none_built cells = sym (built-none (there cells))

pub ruleset filled = (present-field, heard-field, measured-field, none_built, built_more, bit_at)

-- ---- the two measures: distances stand where the rows heard begin, a row apart; ages stand behind these rows, side by side
pub range_cells : (here : List ℤ) (i : ℕ) → range_in here i ≡ measured (cells_from (heard_at 1) 16) here i
range_cells here i =
    measured-same distance (cells_from (heard_at 1) 16) here here i (λ j h. refl)
    (λ j h. let e : heard_at (1 + j) + 0 ≡ heard_at 1 + 16 * (1 + j - 1) = omega arith in rw e)

pub lag-cells : (here : List ℤ) (i : ℕ) → lag_in here i ≡ measured (cells_from (pending_at 1) 1) here i
lag-cells here i =
    measured-same lag_of (cells_from (pending_at 1) 1) here here i (λ j h. refl)
    (λ j h. let e : pending_at 1 + (1 + j - 1) ≡ pending_at 1 + 1 * (1 + j - 1) = omega arith in rw e)
