-- The loop over a list's events: what it has counted, and each of its turns. Assumes nothing.
use mathlib.Core.Path.{◌≡◌, refl, sym, ap, ◌∙◌}
use mathlib.Core.List.{List, [], ◌∷◌}
use Prim.Native.Nat.{ℕ, suc, ◌+◌, ◌≤◌, ◌<◌}
use native.Mathlib.Nat.{zero-add, add-zero}
use native.Mathlib.Omega.{arith}
use native.Mathlib.Numerals.{add-one}
use lib.ListN.{length}
use mathlib.Core.Option.{Option, none, some}
use Rattle.std.proofs.Common.{Result, Ok, Err}
use Rattle.wire.specs.Wire.{Fields, end, cut, whole, fields_in, fields_of}
use Rattle.std.specs.Prelude.{Some, None}
use Rattle.std.specs.Prelude as std
use Rattle.wire_reader.specs.Field.{split_of, fields_by}
use Rattle.wire_reader.proofs.Laws.{by_split}
use Rattle.event.specs.Event.{Event, Entry, Read, entries, refused_at, before, on_event, alone, read_as, read_from, read_list, read_one}
use Rattle.verdict.specs.declared.Refusal.{Refusal}
use Rattle.lists.specs.declared.Event as coded
use Rattle.lists.specs.Listed.{NoEvent, Splits, bad_list, count_of}

-- n events, and those of what is left
abbrev count_from : ℕ → Read → Result ℕ Refusal
count_from n (entries l) = Ok (n + length l)
count_from n (refused_at k) = Err (bad_list k)

count-all : (r : Read) → count_of r ≡ count_from 0 r
count-all (entries l) = ap Ok (sym (zero-add (length l)))
count-all (refused_at k) = refl

count-more : (n : ℕ) (e : Entry) (r : Read) → count_from n (before e r) ≡ count_from (suc n) r
count-more n e (entries l) = ap Ok (omega arith)
count-more n e (refused_at k) = refl

-- ---- what stands at the front
-- no event, in a list that has bytes
none-split : (n b : ℕ) (s : List ℕ) (o : std.Option (ℕ × List ℕ × List ℕ)) → NoEvent (fields_by (b ∷ s) o) → read_from n (fields_by (b ∷ s) o) ≡ refused_at n
unfolding read_from
none-split n b s (Some f) h = rw h
none-split n b s None h = refl

none-read : (n : ℕ) (s : List ℕ) → 0 < length s → NoEvent (fields_of s) → read_from n (fields_of s) ≡ refused_at n
none-read n [] l h = absurd (omega arith)
none-read n (b ∷ s) l h = rw (by_split (b ∷ s)) (none-split n b s (split_of (b ∷ s)) (rw (by_split (b ∷ s)) at h))

-- an event
pub one_read : (n : ℕ) (s : List ℕ) (e : coded.Event) (rest : List ℕ) (h : Splits s e rest) → read_from n (fields_of s) ≡ before h.entry (read_from (suc n) (fields_of rest))
unfolding read_from
one_read n s e rest h = rw (h.field, h.event)

-- nothing
no-byte : (s : List ℕ) → length s ≡ 0 → fields_of s ≡ end
unfolding fields_of fields_in
no-byte [] l = refl
no-byte (b ∷ s) l = absurd (omega arith)

-- the loop's invariant: n events stand before the bytes `rest`, which are read from there
pub record Going (s rest : List ℕ) (n : ℕ) : Type 0 where
  pub passed : n + length rest ≤ length s
  pub same : count_of (read_list s) ≡ count_from n (read_from n (fields_of rest))

pub begin : (s : List ℕ) → Going s s 0
unfolding read_list
begin s = record { passed = omega arith; same = count-all (read_from 0 (fields_of s)) }

module _ {s rest : List ℕ} {n : ℕ} (g : Going s rest n) where
  pub end-turn : length rest ≡ 0 → Ok n ≡ count_of (read_list s)
  unfolding read_from
  end-turn h = sym (g.same ∙ rw (no-byte rest h) (ap Ok (add-zero n)))

  pub bad-turn : 0 < length rest → NoEvent (fields_of rest) → Err (bad_list n) ≡ count_of (read_list s)
  bad-turn h k = sym (g.same ∙ rw (none-read n rest h k))

  pub next-turn : (e : coded.Event) (after : List ℕ) → Splits rest e after → length after < length rest → Going s after (n + 1)
  next-turn e after h k =
      record { passed = omega (arith, g.passed); same = rw (add-one n) (g.same ∙ rw (one_read n rest e after h) (count-more n h.entry (read_from (suc n) (fields_of after)))) }

-- ---- a list of one event
one_none : (f : Fields) → NoEvent f → Err (bad_list 0) ≡ count_of (read_one f)
unfolding read_one
one_none end h = refl
one_none cut h = refl
one_none (whole tag s rest) h = rw h

pub one-bad : (s : List ℕ) → NoEvent (fields_of s) → Err (bad_list 0) ≡ count_of (read_one (fields_of s))
one-bad s h = one_none (fields_of s) h

module _ (s : List ℕ) (e : coded.Event) (rest : List ℕ) (h : Splits s e rest) where
  one_more : read_one (fields_of s) ≡ alone h.entry (fields_of rest)
  unfolding read_one
  one_more = rw (h.field, h.event)

  pub one-long : 0 < length rest → Err (bad_list 1) ≡ count_of (read_one (fields_of s))
  one-long l = sym (ap count_of one_more ∙ ap count_of (go rest l))
    where
      by : (b : ℕ) (t : List ℕ) (o : std.Option (ℕ × List ℕ × List ℕ)) → alone h.entry (fields_by (b ∷ t) o) ≡ refused_at 1
      by b t (Some f) = refl
      by b t None = refl

      go : (t : List ℕ) → 0 < length t → alone h.entry (fields_of t) ≡ refused_at 1
      go [] l = absurd (omega arith)
      go (b ∷ t) l = rw (by_split (b ∷ t)) (by b t (split_of (b ∷ t)))

  pub one-alone : length rest ≡ 0 → Ok 1 ≡ count_of (read_one (fields_of s))
  one-alone l = sym (ap count_of one_more ∙ rw (no-byte rest l))

-- a list that is read as one event is read so as a list
refused-both : (o : Option Event) (k : ℕ) (l : List Entry) → on_event 0 o (refused_at k) ≡ entries l → ⊥
refused-both none k l q = cc
refused-both (some e) k l q = cc

one-read : (f : Fields) (l : List Entry) → read_one f ≡ entries l → read_from 0 f ≡ entries l
unfolding read_one read_from
one-read end l q = cc
one-read cut l q = cc
one-read (whole tag s end) l q = q
one-read (whole tag s cut) l q = absurd (refused-both (read_as tag s) 1 l q)
one-read (whole tag s (whole t u r)) l q = absurd (refused-both (read_as tag s) 1 l q)

pub one-is-list : (s : List ℕ) (l : List Entry) → read_one (fields_of s) ≡ entries l → read_list s ≡ entries l
unfolding read_list
one-is-list s l q = one-read (fields_of s) l q
