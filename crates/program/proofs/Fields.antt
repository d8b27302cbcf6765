-- The first field of bytes.
use mathlib.Core.Path.{◌≡◌, refl, sym}
use mathlib.Core.Bool.{Bool, true, false, cond, true≢false}
use mathlib.Core.List.{List, [], ◌∷◌, ◌++◌}
use Prim.Native.Nat.{ℕ, zero, suc, ◌+◌, ◌*◌, ◌/◌, ◌%◌, ◌<◌}
use native.Mathlib.Omega.{arith}
use lib.ListN.{length, take, drop, length-append, take-append-drop}
use lib.Seq.{take-append_seam, drop-append_seam, length-take-le}
use lib.Dec.{leb}
use borrow.Author.Tests.{leb-true, le-leb}
use Rattle.wire.specs.Wire.{Fields, end, cut, whole, fields_in}
use Rattle.program.specs.Table.{is_end}
use Rattle.program.specs.Conditions.{Bytes, field_bytes}

-- a field's bytes, and others behind, are read as that field
pub first_field : (k tag : ℕ) (body s : List ℕ) → fields_in (suc k) (field_bytes tag body ++ s) ≡ whole tag body (fields_in k s)
unfolding fields_in
first_field k tag body s = go (length body / 256 * 256 + length body % 256) (omega arith)
  where
    go : (n : ℕ) → n ≡ length body
        → cond (leb n (length (body ++ s))) (whole tag (take n (body ++ s)) (fields_in k (drop n (body ++ s)))) cut ≡ whole tag body (fields_in k s)
    go n e = rw (e, take-append_seam body s, drop-append_seam body s, le-leb (length body) (length (body ++ s)) (omega (arith, length-append body s)))

-- what bytes begin with, where k + 1 fields at the most are read
pub data Begins (k : ℕ) (s : List ℕ) : Type 0 where
  at-end : s ≡ [] → Begins k s
  at_cut : fields_in (suc k) s ≡ cut → Begins k s
  at_field : (tag : ℕ) (body rest : List ℕ) → s ≡ field_bytes tag body ++ rest → Begins k s

pub begins : (k : ℕ) (s : List ℕ) → Bytes s → Begins k s
unfolding fields_in
begins k [] b = at-end refl
begins k (tag ∷ []) b = at_cut refl
begins k (tag ∷ high ∷ []) b = at_cut refl
begins k (tag ∷ high ∷ low ∷ s) b = go (leb (high * 256 + low) (length s)) refl
  where
    n : ℕ
    n = high * 256 + low

    go : (c : Bool) → leb n (length s) ≡ c → Begins k (tag ∷ high ∷ low ∷ s)
    go false q = at_cut (rw q)
    go true q =
        let l : length (take n s) ≡ n = length-take-le n s (leb-true n (length s) q) in
        let h : low < 256 = b 2 in
        let e : high ≡ length (take n s) / 256 = omega arith in
        let f : low ≡ length (take n s) % 256 = omega arith in
        at_field tag (take n s) (drop n s) (ap₃ e f (sym (take-append-drop n s)))
      where
        ap₃ : {a b c d : ℕ} {u v : List ℕ} → a ≡ b → c ≡ d → u ≡ v → tag ∷ a ∷ c ∷ u ≡ tag ∷ b ∷ d ∷ v
        ap₃ e f g = cc

pub ends : (k : ℕ) (s : List ℕ) → is_end (fields_in k s) ≡ true → s ≡ []
unfolding fields_in
ends zero s e = absurd (true≢false (sym e))
ends (suc k) [] e = refl
ends (suc k) (tag ∷ []) e = absurd (true≢false (sym e))
ends (suc k) (tag ∷ high ∷ []) e = absurd (true≢false (sym e))
ends (suc k) (tag ∷ high ∷ low ∷ s) e = go (leb (high * 256 + low) (length s)) _ e
  where
    go : (c : Bool) (f : Fields) → is_end (cond c (whole tag (take (high * 256 + low) s) f) cut) ≡ true → tag ∷ high ∷ low ∷ s ≡ []
    go true f e = absurd (true≢false (sym e))
    go false f e = absurd (true≢false (sym e))

pub no_field : (k : ℕ) → 0 < k → fields_in k [] ≡ end
unfolding fields_in
no_field zero h = absurd (omega arith)
no_field (suc k) h = refl
