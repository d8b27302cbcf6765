-- The entries that are left of a list that was read, for those who go through it: the event at the front is the next entry's. Assumes nothing.
use mathlib.Core.Path.{◌≡◌, refl}
use mathlib.Core.List.{List, [], ◌∷◌}
use Prim.Native.Nat.{ℕ, suc}
use Rattle.wire.specs.Wire.{Fields, end, cut, whole, fields_of}
use Rattle.event.specs.Event.{Entry, Read, entries, refused_at, before, read_from, read_list}
use Rattle.lists.specs.declared.Event as coded
use Rattle.lists.specs.Listed.{NoEvent, Splits}
use Rattle.lists.proofs.Turns.{one_read}

-- n events stand before the bytes s, and l is what is left
pub record Left (s : List ℕ) (n : ℕ) (l : List Entry) : Type 0 where
  pub same : read_from n (fields_of s) ≡ entries l

pub left-begin : (s : List ℕ) (l : List Entry) → read_list s ≡ entries l → Left s 0 l
unfolding read_list
left-begin s l q = record { same = q }

-- no event at the front: nothing is left
none-read : (n : ℕ) (f : Fields) (l : List Entry) → NoEvent f → read_from n f ≡ entries l → l ≡ []
unfolding read_from
none-read n end l h q = cc
none-read n cut l h q = cc
none-read n (whole tag s rest) l h q = let p = rw h at q in cc

pub left_end : {s : List ℕ} {n : ℕ} {l : List Entry} → Left s n l → NoEvent (fields_of s) → l ≡ []
left_end {s} {n} {l} g h = none-read n (fields_of s) l h g.same

-- an event: it is the next entry's
pub record Next (y : Entry) (rest : List ℕ) (n : ℕ) (l : List Entry) : Type 0 where
  pub more : List Entry
  pub is : l ≡ y ∷ more
  pub left : Left rest (suc n) more

next-read : (y : Entry) (rest : List ℕ) (n : ℕ) (l : List Entry) (r : Read) → read_from (suc n) (fields_of rest) ≡ r → before y r ≡ entries l → Next y rest n l
next-read y rest n l (entries m) e q = record { more = m; is = (cc); left = record { same = e } }
next-read y rest n l (refused_at k) e q = absurd (cc)

pub left-next : {s : List ℕ} {n : ℕ} {l : List Entry} (e : coded.Event) (rest : List ℕ) → Left s n l → (h : Splits s e rest) → Next h.entry rest n l
left-next {s} {n} {l} e rest g h = next-read h.entry rest n l (read_from (suc n) (fields_of rest)) refl (rw (one_read n s e rest h) at g.same)
