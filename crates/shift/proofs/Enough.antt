-- An event takes at least 4 bytes, so no list that a file holds has more answers than the replay has space for. Assumes nothing.
use mathlib.Core.Path.{◌≡◌, refl}
use mathlib.Core.Bool.{Bool, true, false, cond}
use mathlib.Core.List.{List, [], ◌∷◌}
use mathlib.Core.Option.{Option, none, some}
use Prim.Native.Nat.{ℕ, zero, suc, ◌+◌, ◌*◌, ◌≤◌}
use native.Mathlib.Omega.{arith}
use lib.Dec.{leb}
use lib.ListN.{length, take, drop, length-drop, length-replicate}
use lib.IntN.{pos}
use lib.Seq.{length-take-le}
use borrow.Author.Tests.{leb-true, le-leb}
use Rattle.wire.specs.Wire.{Fields, cut, whole, fields_in, fields_of}
use Rattle.event.specs.Event.{Event, Entry, Read, entries, refused_at, read_as, before, on_event, read_from, read_list, entries_of}
use Rattle.event.specs.Calls.{answer_width, room}
use Rattle.shift.specs.Replayed.{file_size, most_events, blank}

one_more : (e : Entry) (r : Read) → length (entries_of (before e r)) ≤ suc (length (entries_of r))
one_more e (entries l) = omega arith
one_more e (refused_at k) = omega arith

read_more : (p : ℕ) (o : Option Event) (e : Entry) (r : Read) → length (entries_of (on_event p o (before e r))) ≤ suc (length (entries_of r))
read_more p none e r = omega arith
read_more p (some v) e r = one_more e r

-- a field, whose body is s
field-more : (p tag : ℕ) (s : List ℕ) (e : Entry) (r : Read) → 4 * length (entries_of (on_event p (read_as tag s) (before e r))) ≤ 3 + length s + 4 * length (entries_of r)
unfolding read_as
field-more p tag [] e r = omega arith
field-more p tag (a ∷ s) e r = omega (arith, read_more p (read_as tag (a ∷ s)) e r)

-- where the body's bytes are there, and where they are not
field-few : (p tag n : ℕ) (s : List ℕ) (rest : Fields) (b : Bool) → leb n (length s) ≡ b → 4 * length (entries_of (read_from (suc p) rest)) ≤ length (drop n s)
    → 4 * length (entries_of (read_from p (cond b (whole tag (take n s) rest) cut))) ≤ 3 + length s
unfolding read_from
field-few p tag n s rest true e m =
    let h : n ≤ length s = leb-true n (length s) e in
    omega (arith, field-more p tag (take n s) (record { tag = tag; body = take n s }) (read_from (suc p) rest), length-take-le n s h, length-drop n s)
field-few p tag n s rest false e m = omega arith

few-in : (k p : ℕ) (s : List ℕ) → 4 * length (entries_of (read_from p (fields_in k s))) ≤ length s
unfolding read_from fields_in
few-in zero p s = omega arith
few-in (suc k) p [] = omega arith
few-in (suc k) p (tag ∷ []) = omega arith
few-in (suc k) p (tag ∷ high ∷ []) = omega arith
few-in (suc k) p (tag ∷ high ∷ low ∷ s) =
    let n : ℕ = high * 256 + low in
    omega (arith, field-few p tag n s (fields_in k (drop n s)) (leb n (length s)) refl (few-in k (suc p) (drop n s)))

-- "below two numbers an event" is never so
pub enough : (list : List ℕ) → length list ≤ file_size → room (entries_of (read_list list)) blank ≡ (0, 0)
unfolding read_list fields_of
enough list h =
    let n = length (entries_of (read_list list)) in
    rw (le-leb (answer_width * n) (length blank) (omega (arith, few-in (suc (length list)) 0 list, length-replicate (answer_width * most_events) (pos 0)))) refl
