-- Which events clash. Definitions only: nothing is assumed.
use Rattle.std.specs.Prelude.{Bool, false, ◌&&◌, ◌||◌, ℕ, eqb}
use Rattle.event.specs.Event.{Event, fire, deliver, lose, link, signal, Entry, event_of}

-- "the other fires a, signals a, links from a, delivers from or to a, or loses from a"
abbrev pub concerns : ℕ → Event → Bool
concerns a (fire b) = eqb a b
concerns a (signal b s v) = eqb a b
concerns a (link b c d) = eqb a b
concerns a (deliver b c) = eqb a b || eqb a c
concerns a (lose b c) = eqb a b

-- delivers or loses the pair a, b
abbrev pub takes : ℕ → ℕ → Event → Bool
takes a b (fire c) = false
takes a b (signal c s v) = false
takes a b (link c d w) = false
takes a b (deliver c d) = eqb a c && eqb b d
takes a b (lose c d) = eqb a c && eqb b d

abbrev pub signals : ℕ → ℕ → Event → Bool
signals a s (fire c) = false
signals a s (signal c t v) = eqb a c && eqb s t
signals a s (link c d w) = false
signals a s (deliver c d) = false
signals a s (lose c d) = false

abbrev pub links : ℕ → ℕ → Event → Bool
links a b (fire c) = false
links a b (signal c s v) = false
links a b (link c d w) = eqb a c && eqb b d
links a b (deliver c d) = false
links a b (lose c d) = false

-- "one fires a and the other .. ; or both deliver or lose the same pair a, b; or signal one sensor of one device; or link one pair"
abbrev pub clashes_with : Event → Event → Bool
clashes_with (fire a) f = concerns a f
clashes_with (signal a s v) f = signals a s f
clashes_with (link a b d) f = links a b f
clashes_with (deliver a b) f = takes a b f
clashes_with (lose a b) f = takes a b f

-- whichever of the two is the one
abbrev pub clash : Event → Event → Bool
clash e f = clashes_with e f || clashes_with f e

-- the same of two entries of a list
abbrev pub entries_clash : Entry → Entry → Bool
entries_clash e f = clash (event_of e) (event_of f)
