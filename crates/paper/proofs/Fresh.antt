-- The networks of the runs are sound, by computation.
use mathlib.Core.Path.{◌≡◌, refl}
use Rattle.network.specs.Network.{fresh, heard_sound, pending_sound, any_present, age_sound, cell_sound, first_not, lowest_unsound, soundness}
use Rattle.paper.specs.Programs.{neighbours, unranged, heard_two}

pub fresh-sound : soundness fresh ≡ (0, 0)
unfolding fresh heard_sound pending_sound any_present age_sound cell_sound first_not lowest_unsound soundness
fresh-sound = refl

pub neighbours-sound : soundness neighbours ≡ (0, 0)
unfolding fresh heard_sound pending_sound any_present age_sound cell_sound first_not lowest_unsound soundness
neighbours-sound = refl

pub unranged-sound : soundness unranged ≡ (0, 0)
unfolding fresh heard_sound pending_sound any_present age_sound cell_sound first_not lowest_unsound soundness
unranged-sound = refl

pub heard_two-sound : soundness heard_two ≡ (0, 0)
unfolding fresh heard_sound pending_sound any_present age_sound cell_sound first_not lowest_unsound soundness
heard_two-sound = refl
