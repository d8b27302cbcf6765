-- What the functions over lists of events promise. Definitions only: nothing is assumed.
use Rattle.std.specs.Prelude.{◌≡◌, List, ℕ, length, Some, None, Result, Ok, Err}
use Rattle.std.specs.Prelude as std
use Rattle.std.proofs.Math.Option.{Option, none, some}
use Rattle.wire.specs.Wire.{Fields, end, cut, whole, fields_of}
use Rattle.event.specs.Event.{Event, fire, deliver, lose, link, signal, Entry, read_as, Read, entries, refused_at}
use Rattle.verdict.specs.declared.Reason.TheVariants.{BadList}
use Rattle.verdict.specs.declared.Refusal.{Refusal}
use Rattle.lists.specs.declared.Event as coded
use Rattle.lists.specs.declared.Event.TheVariants.{Fire, Deliver, Lose, Link, Signal}

-- the event that each case of the code's stands for
abbrev pub event_in : coded.Event → Event
event_in (Fire a) = fire a
event_in (Deliver a b) = deliver a b
event_in (Lose a b) = lose a b
event_in (Link a b d) = link a b d
event_in (Signal a s v) = signal a s v

abbrev pub as_read : std.Option coded.Event → Option Event
as_read (Some e) = some (event_in e)
as_read None = none

-- the fields begin with no event: there is none, or the first is cut short, or its tag or its length is no event's
abbrev pub NoEvent : Fields → Type 0
NoEvent end = Unit {0}
NoEvent cut = Unit {0}
NoEvent (whole tag s rest) = read_as tag s ≡ none

-- the list s is an entry of the event e, and the bytes `rest` behind it
pub record Splits (s : List ℕ) (e : coded.Event) (rest : List ℕ) : Type 0 where
  pub entry : Entry
  pub field : fields_of s ≡ whole entry.tag entry.body (fields_of rest)
  pub event : read_as entry.tag entry.body ≡ some (event_in e)

-- how many events a list has, or the place of its refusal
abbrev pub bad_list : ℕ → Refusal
bad_list k = record { reason = BadList; place = k }

abbrev pub count_of : Read → Result ℕ Refusal
count_of (entries l) = Ok (length l)
count_of (refused_at k) = Err (bad_list k)
