-- What the replay prints of a program and a list of events. Definitions only: nothing is assumed.
use Rattle.std.specs.Prelude.{cond, List, ℕ, ◌*◌, ◌/◌, eqb, length, replicate, ℤ, pos}
use Rattle.network.specs.Network.{fresh}
use Rattle.event.specs.Event.{read_list, entries_of}
use Rattle.event.specs.Calls.{answer_width, Result, run}
use Rattle.lines.specs.Text.{lines, refused_line}

-- bytes of a file, and events in it, at the most: an event takes 4 bytes or more
abbrev pub file_size : ℕ
file_size = 4096

abbrev pub most_events : ℕ
most_events = file_size / 4

-- room for their answers
abbrev pub blank : List ℤ
blank = replicate (answer_width * most_events) (pos 0)

-- "starts fresh"
unfoldable pub outcome : List ℕ → List ℕ → Result
outcome program list = run program fresh list blank

-- "prints per event its index from 0, code and value, or, where a file or call is refused, the one line `refused N P`"
abbrev pub printed : ℕ → Result → List ℕ
printed n r = cond (eqb r.verdict.0 0) (lines 0 n r.space) (refused_line r.verdict.0 r.verdict.1)

unfoldable pub replayed : List ℕ → List ℕ → List ℕ
replayed program list = printed (length (entries_of (read_list list))) (outcome program list)
