-- Two events clash whichever of them is named first.
use mathlib.Core.Path.{◌≡◌, refl}
use mathlib.Core.Bool.{Bool, true, false, ◌||◌}
use Rattle.event.specs.Event.{Entry, event_of}
use Rattle.clash.specs.Clash.{clashes_with, entries_clash}

or_comm : (a b : Bool) → (a || b) ≡ (b || a)
or_comm true true = refl
or_comm true false = refl
or_comm false true = refl
or_comm false false = refl

pub entries-symmetric : (e f : Entry) → entries_clash e f ≡ entries_clash f e
entries-symmetric e f = or_comm (clashes_with (event_of e) (event_of f)) (clashes_with (event_of f) (event_of e))
