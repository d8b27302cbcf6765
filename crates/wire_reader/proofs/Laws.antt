-- Wire's definition of the fields of a list, by splitting off the first one.
use Rattle.std.proofs.Common.{◌≡◌, refl, ◌∙◌, ap, ℕ, zero, suc, ◌+◌, ◌*◌, ◌<◌, Bool, true, false, cond, List, [], ◌∷◌, length, take, drop, leb, arith, length-drop}
use Rattle.std.specs.Prelude.{Some, None}
use Rattle.std.specs.Int.{w32, from_be_bytes}
use Rattle.wire.specs.Wire.{Fields, cut, whole, big, big_from, fields_in, fields_of}
use Rattle.wire_reader.specs.Field.{split_of, fields_by, fields_from}

-- however many fields are allowed for, as long as they are more than the bytes
pub enough : (k m : ℕ) (s : List ℕ) → length s < k → length s < m → fields_in k s ≡ fields_in m s
unfolding fields_in
enough zero m s a b = absurd (omega arith)
enough (suc k) zero s a b = absurd (omega arith)
enough (suc k) (suc m) [] a b = refl
enough (suc k) (suc m) (tag ∷ []) a b = refl
enough (suc k) (suc m) (tag ∷ high ∷ []) a b = refl
enough (suc k) (suc m) (tag ∷ high ∷ low ∷ s) a b =
    let n : ℕ = high * 256 + low in
    let e : fields_in k (drop n s) ≡ fields_in m (drop n s) = enough k m (drop n s) (omega (arith, length-drop n s)) (omega (arith, length-drop n s)) in
    ap (λ (f : Fields). cond (leb n (length s)) (whole tag (take n s) f) cut) e

-- wire's definition finds what splitting off finds, whatever the number of further fields
pub found : (k : ℕ) (s : List ℕ) → fields_in (suc k) s ≡ fields_from k s (split_of s)
unfolding fields_in
found k [] = refl
found k (tag ∷ []) = refl
found k (tag ∷ high ∷ []) = refl
found k (tag ∷ high ∷ low ∷ s) = at (leb (high * 256 + low) (length s))
  where
    at : (b : Bool) → cond b (whole tag (take (high * 256 + low) s) (fields_in k (drop (high * 256 + low) s))) cut
        ≡ fields_from k (tag ∷ high ∷ low ∷ s) (cond b (Some (tag, take (high * 256 + low) s, drop (high * 256 + low) s)) None)
    at true = refl
    at false = refl

-- with as many fields as there are bytes, and one, those behind the first have enough too
pub by_split : (s : List ℕ) → fields_of s ≡ fields_by s (split_of s)
unfolding fields_of
by_split [] = found 0 []
by_split (tag ∷ []) = found (length (tag ∷ [])) (tag ∷ [])
by_split (tag ∷ high ∷ []) = found (length (tag ∷ high ∷ [])) (tag ∷ high ∷ [])
by_split (tag ∷ high ∷ low ∷ s) =
    let n : ℕ = high * 256 + low in
    let k : ℕ = suc (suc (suc (length s))) in
    let e : fields_in k (drop n s) ≡ fields_of (drop n s) = enough k (suc (length (drop n s))) (drop n s) (omega (arith, length-drop n s)) (omega arith) in
    found k (tag ∷ high ∷ low ∷ s) ∙ at (leb n (length s)) e
  where
    at : (b : Bool) → fields_in (suc (suc (suc (length s)))) (drop (high * 256 + low) s) ≡ fields_of (drop (high * 256 + low) s)
        → fields_from (suc (suc (suc (length s)))) (tag ∷ high ∷ low ∷ s) (cond b (Some (tag, take (high * 256 + low) s, drop (high * 256 + low) s)) None)
        ≡ fields_by (tag ∷ high ∷ low ∷ s) (cond b (Some (tag, take (high * 256 + low) s, drop (high * 256 + low) s)) None)
    at true e = ap (whole tag (take (high * 256 + low) s)) e
    at false e = refl

pub big_by_bytes : (bytes : List ℕ) → length bytes ≡ 4 → from_be_bytes w32 bytes ≡ big bytes
unfolding big_from
big_by_bytes (a ∷ b ∷ c ∷ d ∷ []) e = omega arith
big_by_bytes [] e = absurd (omega arith)
big_by_bytes (a ∷ []) e = absurd (omega arith)
big_by_bytes (a ∷ b ∷ []) e = absurd (omega arith)
big_by_bytes (a ∷ b ∷ c ∷ []) e = absurd (omega arith)
big_by_bytes (a ∷ b ∷ c ∷ d ∷ x ∷ xs) e = absurd (omega arith)
