-- Events, and lists of them as bytes. Definitions only: nothing is assumed.
use Rattle.std.specs.Prelude.{cond, List, [], ◌∷◌, ℕ, suc, get_or, eqb, ℤ}
use Rattle.std.proofs.Math.Option.{Option, none, some}
use Rattle.wire.specs.Wire.{Fields, end, cut, whole, big, fields_of}
use Rattle.program.specs.Tree.{signed}

pub data Event : Type 0 where
  fire : ℕ → Event
  deliver : ℕ → ℕ → Event
  lose : ℕ → ℕ → Event
  link : ℕ → ℕ → ℤ → Event
  signal : ℕ → ℕ → ℕ → Event

-- "An event is a field as in the program table, one body byte for each item but the distance": an event as it stands in a list, byte for byte
pub record Entry : Type 0 where
  pub tag : ℕ
  pub body : List ℕ

-- the event of a tag and a body, none where the tag is unknown or the length is wrong
unfoldable pub read_as : ℕ → List ℕ → Option Event
read_as tag [] = none
read_as tag (a ∷ []) = cond (eqb tag 0x10) (some (fire a)) none
read_as tag (a ∷ b ∷ []) = cond (eqb tag 0x11) (some (deliver a b)) (cond (eqb tag 0x12) (some (lose a b)) none)
read_as tag (a ∷ b ∷ c ∷ []) = cond (eqb tag 0x14) (some (signal a b c)) none
read_as tag (a ∷ b ∷ c ∷ d ∷ []) = none
read_as tag (a ∷ b ∷ c ∷ d ∷ e ∷ []) = none
read_as tag (a ∷ b ∷ c ∷ d ∷ e ∷ f ∷ []) = cond (eqb tag 0x13) (some (link a b (signed (big (c ∷ d ∷ e ∷ f ∷ []))))) none
read_as tag (a ∷ b ∷ c ∷ d ∷ e ∷ f ∷ g ∷ s) = none

-- the event of an entry. The entries of a list that was read all have one; any other stands for a fire of no device, which is refused
abbrev pub or_none : Option Event → Event
or_none none = fire 0
or_none (some e) = e

abbrev pub event_of : Entry → Event
event_of e = or_none (read_as e.tag e.body)

-- a list read: its entries, or how many whole fields stand before the one that is refused with 12
pub data Read : Type 0 where
  entries : List Entry → Read
  refused_at : ℕ → Read

abbrev pub before : Entry → Read → Read
before e (entries l) = entries (e ∷ l)
before e (refused_at k) = refused_at k

-- "event list: unknown tag, wrong length, cut short"
abbrev pub on_event : ℕ → Option Event → Read → Read
on_event place none next = refused_at place
on_event place (some e) next = next

unfoldable pub read_from : ℕ → Fields → Read
read_from place end = entries []
read_from place cut = refused_at place
read_from place (whole tag s rest) = on_event place (read_as tag s) (before (record { tag = tag; body = s }) (read_from (suc place) rest))

unfoldable pub read_list : List ℕ → Read
read_list s = read_from 0 (fields_of s)

-- "a list of exactly one field, else 12: place 0 for an empty list, 1 for bytes after a whole first field"
abbrev pub alone : Entry → Fields → Read
alone e end = entries (e ∷ [])
alone e cut = refused_at 1
alone e (whole tag s rest) = refused_at 1

unfoldable pub read_one : Fields → Read
read_one end = refused_at 0
read_one cut = refused_at 0
read_one (whole tag s rest) = on_event 0 (read_as tag s) (alone (record { tag = tag; body = s }) rest)

-- the entries, none where the list is refused; the refusal and its place
abbrev pub entries_of : Read → List Entry
entries_of (entries l) = l
entries_of (refused_at k) = []

abbrev pub list_verdict : Read → ℕ × ℕ
list_verdict (entries l) = (0, 0)
list_verdict (refused_at k) = (12, k)
