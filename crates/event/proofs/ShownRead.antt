-- Events and lists of them as bytes, by computation. Assumes nothing.
use mathlib.Core.Path.{◌≡◌, refl}
use mathlib.Core.List.{List, [], ◌∷◌, ◌++◌, map}
use mathlib.Core.Option.{Option, none, some}
use Prim.Native.Nat.{ℕ, suc}
use lib.ListN.{replicate}
use lib.IntN.{pos}
use Rattle.number.specs.Number.{mark, floor, inf}
use Rattle.wire.specs.Wire.{Fields, end, cut, whole, fields_of}
use Rattle.event.specs.Event.{Event, fire, deliver, lose, link, signal, event_of, read_as, Read, entries, refused_at, before, read_from, read_list, read_one, entries_of, list_verdict}
use Rattle.event.proofs.ShownOpened.{reading, neg, entry, bytes}

-- a body under the tags 0x0f to 0x15
abbrev tagged : List ℕ → List (Option Event)
tagged body = map (λ tag. read_as tag body) (0x0f ∷ 0x10 ∷ 0x11 ∷ 0x12 ∷ 0x13 ∷ 0x14 ∷ 0x15 ∷ [])

-- "0x10 fire a": one body byte, and no fewer
one_byte : (tagged (7 ∷ []) ≡ none ∷ some (fire 7) ∷ replicate 5 none) × (tagged [] ≡ replicate 7 none)
unfolding reading
one_byte = (refl, refl)

-- "0x11 deliver a, b"; "0x12 lose a, b"
two_bytes : tagged (7 ∷ 8 ∷ []) ≡ none ∷ none ∷ some (deliver 7 8) ∷ some (lose 7 8) ∷ replicate 3 none
unfolding reading
two_bytes = refl

-- "0x14 signal a, sensor, 0 or 1"
three-bytes : tagged (7 ∷ 8 ∷ 9 ∷ []) ≡ replicate 5 none ++ some (signal 7 8 9) ∷ none ∷ []
unfolding reading
three-bytes = refl

-- "0x13 link a, b, distance (4 bytes)", and no event has four, five, seven or eight
six-bytes : (tagged (7 ∷ 8 ∷ 1 ∷ 2 ∷ 3 ∷ 4 ∷ []) ≡ replicate 4 none ++ some (link 7 8 (pos 0x01020304)) ∷ none ∷ none ∷ [])
    × (tagged (7 ∷ 8 ∷ 1 ∷ 2 ∷ []) ≡ replicate 7 none)
    × (tagged (7 ∷ 8 ∷ 1 ∷ 2 ∷ 3 ∷ []) ≡ replicate 7 none)
    × (tagged (7 ∷ 8 ∷ 1 ∷ 2 ∷ 3 ∷ 4 ∷ 5 ∷ []) ≡ replicate 7 none)
    × (tagged (7 ∷ 8 ∷ 1 ∷ 2 ∷ 3 ∷ 4 ∷ 5 ∷ 6 ∷ []) ≡ replicate 7 none)
unfolding reading
six-bytes = (refl, refl, refl, refl, refl)

-- the distance: high byte first, signed
abbrev far : List ℕ → Option Event
far d = read_as 0x13 (1 ∷ 2 ∷ d)

distances : map far (
    (0 ∷ 0 ∷ 0 ∷ 0 ∷ [])
    ∷ (0 ∷ 0x0f ∷ 0x42 ∷ 0x40 ∷ [])
    ∷ (0x7f ∷ 0xff ∷ 0xff ∷ 0xff ∷ [])
    ∷ (0x80 ∷ 0 ∷ 0 ∷ 0 ∷ [])
    ∷ (0x80 ∷ 0 ∷ 0 ∷ 1 ∷ [])
    ∷ (0xff ∷ 0xff ∷ 0xff ∷ 0xff ∷ [])
    ∷ []) ≡ map (λ z. some (link 1 2 z)) (pos 0 ∷ pos 1000000 ∷ inf ∷ mark ∷ floor ∷ neg 1 ∷ [])
unfolding reading
distances = refl

-- the event of an entry
of-entries : map event_of (entry 0x10 (1 ∷ []) ∷ entry 0x12 (1 ∷ 2 ∷ []) ∷ entry 0x13 (1 ∷ 2 ∷ 0 ∷ 0 ∷ 1 ∷ 0 ∷ []) ∷ []) ≡ fire 1 ∷ lose 1 2 ∷ link 1 2 (pos 256) ∷ []
unfolding reading
of-entries = refl

-- "An event is a field as in the program table": a list's entries, in their order, byte for byte
abbrev fires : List ℕ
fires = bytes 0x10 (1 ∷ [])

abbrev delivers : List ℕ
delivers = bytes 0x11 (1 ∷ 2 ∷ [])

whole-lists : (read_list [] ≡ entries [])
    × (read_list fires ≡ entries (entry 0x10 (1 ∷ []) ∷ []))
    × (read_list (fires ++ (delivers ++ fires)) ≡ entries (entry 0x10 (1 ∷ []) ∷ entry 0x11 (1 ∷ 2 ∷ []) ∷ entry 0x10 (1 ∷ []) ∷ []))
    × (read_list (bytes 0x14 (99 ∷ 99 ∷ 99 ∷ [])) ≡ entries (entry 0x14 (99 ∷ 99 ∷ 99 ∷ []) ∷ []))
unfolding reading
whole-lists = (refl, refl, refl, refl)

-- "event list: unknown tag, wrong length, cut short"; "Place: whole fields before it": before, behind one and behind two events, with an event behind it or none
abbrev placed : List ℕ → List Read
placed s = read_list s ∷ read_list (fires ++ s) ∷ read_list (delivers ++ (fires ++ s)) ∷ read_list (s ++ fires) ∷ read_list (fires ++ (s ++ fires)) ∷ []

abbrev refused : List Read
refused = map refused_at (0 ∷ 1 ∷ 2 ∷ 0 ∷ 1 ∷ [])

unknown-tag : (placed (bytes 0x15 (1 ∷ [])) ≡ refused) × (placed (bytes 1 (1 ∷ [])) ≡ refused) × (placed (bytes 0x15 []) ≡ refused)
unfolding reading
unknown-tag = (refl, refl, refl)

wrong-length : (placed (bytes 0x10 []) ≡ refused) × (placed (bytes 0x10 (1 ∷ 2 ∷ [])) ≡ refused) × (placed (bytes 0x13 (1 ∷ 2 ∷ 0 ∷ 0 ∷ 0 ∷ [])) ≡ refused)
unfolding reading
wrong-length = (refl, refl, refl)

-- a tag alone, one byte of its length, one byte of the body too few, a length whose high byte is 1
abbrev cut_short : List ℕ → List Read
cut_short s = read_list s ∷ read_list (fires ++ s) ∷ read_list (delivers ++ (fires ++ s)) ∷ []

cut-lists : map cut_short (
    (0x10 ∷ [])
    ∷ (0x10 ∷ 0 ∷ [])
    ∷ (0x10 ∷ 0 ∷ 1 ∷ [])
    ∷ (0x11 ∷ 0 ∷ 2 ∷ 1 ∷ [])
    ∷ (0x10 ∷ 1 ∷ 1 ∷ 1 ∷ [])
    ∷ []) ≡ replicate 5 (map refused_at (0 ∷ 1 ∷ 2 ∷ []))
unfolding reading
cut-lists = refl

-- the first that is refused is named
two-refused : (read_list (fires ++ (bytes 0x15 [] ++ bytes 0x10 [])) ≡ refused_at 1) × (read_list (bytes 0x10 [] ++ (fires ++ (0x10 ∷ []))) ≡ refused_at 0)
unfolding reading
two-refused = (refl, refl)

-- "a list of exactly one field, else 12: place 0 for an empty list, 1 for bytes after a whole first field"
abbrev one : List ℕ → Read
one s = read_one (fields_of s)

exactly-one : (one fires ≡ entries (entry 0x10 (1 ∷ []) ∷ [])) × (one delivers ≡ entries (entry 0x11 (1 ∷ 2 ∷ []) ∷ []))
unfolding reading
exactly-one = (refl, refl)

none-or-more : (one [] ≡ refused_at 0)
    × (one (fires ++ fires) ≡ refused_at 1)
    × (one (fires ++ (0x10 ∷ [])) ≡ refused_at 1)
    × (one (fires ++ bytes 0x15 []) ≡ refused_at 1)
    × (one (fires ++ (fires ++ fires)) ≡ refused_at 1)
unfolding reading
none-or-more = (refl, refl, refl, refl, refl)

-- a first field that is cut short, of an unknown tag or of a wrong length is refused before what stands behind it
first-bad : map one (
    (0x10 ∷ [])
    ∷ (0x10 ∷ 0 ∷ [])
    ∷ (0x10 ∷ 0 ∷ 1 ∷ [])
    ∷ bytes 0x15 (1 ∷ [])
    ∷ bytes 0x10 []
    ∷ (bytes 0x15 (1 ∷ []) ++ fires)
    ∷ (bytes 0x10 (1 ∷ 2 ∷ []) ++ fires)
    ∷ (bytes 0x10 [] ++ (0x10 ∷ []))
    ∷ []) ≡ replicate 8 (refused_at 0)
unfolding reading
first-bad = refl

-- the number 12 and its place, and no entry; or none, and the entries
verdicts : (map list_verdict (refused_at 0 ∷ refused_at 3 ∷ entries [] ∷ entries (entry 0x10 (1 ∷ []) ∷ []) ∷ []) ≡ (12, 0) ∷ (12, 3) ∷ (0, 0) ∷ (0, 0) ∷ [])
    × (entries_of (entries (entry 0x10 (1 ∷ []) ∷ [])) ≡ entry 0x10 (1 ∷ []) ∷ [])
unfolding reading
verdicts = (refl, refl)

-- no other tag is an event: those that 02 will add, and those whose low bits are an event's
other-tags : (map (λ t. read_as t (7 ∷ [])) (0x16 ∷ 0x17 ∷ 0x30 ∷ 0x90 ∷ []) ≡ replicate 4 none)
    × (map (λ t. read_as t (7 ∷ 8 ∷ [])) (0x16 ∷ 0x17 ∷ 0x31 ∷ 0x92 ∷ []) ≡ replicate 4 none)
    × (map (λ t. read_as t (7 ∷ 8 ∷ 9 ∷ [])) (0x16 ∷ 0x17 ∷ 0x34 ∷ 0x94 ∷ []) ≡ replicate 4 none)
unfolding reading
other-tags = (refl, refl, refl)

-- lists of any length, and places of any number
any-length : (k : ℕ) (rest : Fields) → (read_from k (whole 0x10 (1 ∷ []) rest) ≡ before (entry 0x10 (1 ∷ [])) (read_from (suc k) rest))
    × (read_from k (whole 0x15 (1 ∷ []) rest) ≡ refused_at k) × (read_from k cut ≡ refused_at k) × (read_from k end ≡ entries [])
unfolding reading
any-length k rest = (refl, refl, refl, refl)

any-bytes : (s : List ℕ) → read_list s ≡ read_from 0 (fields_of s)
unfolding reading
any-bytes s = refl
