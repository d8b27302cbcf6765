-- Which networks are sound, and what is named of the others, at examples, by computation. Assumes nothing.
use mathlib.Core.Path.{◌≡◌, refl}
use mathlib.Core.List.{[], ◌∷◌}
use mathlib.Core.Option.{none, some}
use Prim.Native.Nat.{ℕ, ◌+◌, ◌-◌}
use lib.ListN.{take, set}
use lib.IntN.{pos}
use Rattle.number.specs.Number.{mark}
use Rattle.network.specs.Cells.{write}
use Rattle.network.specs.Network.{sensors_at, heard_at, pending_at, age_at, network_size, base, copies, fresh_block, fresh, heard_sound, pending_sound, any_present, age_sound, cell_sound}
use Rattle.network.specs.Network.{first_not, lowest_unsound, unsound_at, soundness}

-- what the examples compute with
unfoldable opened : ℕ → ℕ
unfolding copies fresh heard_sound pending_sound any_present age_sound cell_sound first_not lowest_unsound soundness
opened n = n

-- "0 and 0 when it did its work"; refusal 11 and the cell
verdicts : (unsound_at none ≡ (0, 0)) × (unsound_at (some 0) ≡ (11, 0)) × (unsound_at (some 8719) ≡ (11, 8719))
verdicts = (refl, refl, refl)

-- "(place 0: wrong length)": one cell less, one more, none; a sound beginning does not help
wrong-length : (soundness (take (network_size - 1) fresh) ≡ (11, 0)) × (soundness (pos 0 ∷ fresh) ≡ (11, 0)) × (soundness [] ≡ (11, 0)) × (soundness fresh_block ≡ (11, 0))
unfolding opened
wrong-length = (refl, refl, refl, refl)

-- a fresh network is sound; with its last cell unsound that is named, so all sixteen devices are tested
whole-network : (soundness fresh ≡ (0, 0)) × (soundness (set fresh (network_size - 1) (pos 0)) ≡ (11, 8719))
unfolding opened
whole-network = (refl, refl)

-- the lowest again: in the first device, in the second before the last
lowest-named : (soundness (set fresh sensors_at (pos 65536)) ≡ (11, 16)) × (soundness (set (set fresh (network_size - 1) (pos 0)) (base 2 + sensors_at) mark) ≡ (11, 561))
unfolding opened
lowest-named = (refl, refl)

-- a network in use is sound: device 1 has variables, lit sensors, a link to 2 and none back, a slot heard from 2 and one from 3 without a link, of the ages 0 and 2, messages to 2, 3 and 4
in_use : soundness (
    write fresh (
    (0, pos 7 ∷ pos 8 ∷ [])
    ∷ (sensors_at, pos 3 ∷ [])
    ∷ (heard_at 2, pos 5 ∷ pos 9 ∷ [])
    ∷ (heard_at 3 + 1, pos 4 ∷ [])
    ∷ (pending_at 2, pos 1 ∷ pos 9 ∷ [])
    ∷ (pending_at 3, pos 1 ∷ [])
    ∷ (pending_at 4, pos 1 ∷ [])
    ∷ (age_at 2, pos 0 ∷ pos 2 ∷ [])
    ∷ [])) ≡ (0, 0)
unfolding opened
in_use = refl
