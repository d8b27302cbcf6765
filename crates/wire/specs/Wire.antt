-- Lists of fields as bytes. Definitions only: nothing is assumed.
-- "Fields: one-byte tag, two-byte length (high byte first), body."
use Rattle.std.specs.Prelude.{cond, List, [], ◌∷◌, ℕ, zero, suc, ◌+◌, ◌*◌, length, take, drop, leb}

pub data Fields : Type 0 where
  -- no byte is left
  end : Fields
  -- bytes are left, and they begin no whole field
  cut : Fields
  -- a whole field, its tag and body, and what follows it
  whole : ℕ → List ℕ → Fields → Fields

-- a number as bytes, high byte first
unfoldable pub big_from : ℕ → List ℕ → ℕ
big_from n [] = n
big_from n (b ∷ s) = big_from (n * 256 + b) s

abbrev pub big : List ℕ → ℕ
big s = big_from 0 s

-- the fields of s, of which there are fewer than the first argument
unfoldable pub fields_in : ℕ → List ℕ → Fields
fields_in zero s = cut
fields_in (suc k) [] = end
fields_in (suc k) (tag ∷ []) = cut
fields_in (suc k) (tag ∷ high ∷ []) = cut
fields_in (suc k) (tag ∷ high ∷ low ∷ s) =
    let n : ℕ = high * 256 + low in
    cond (leb n (length s)) (whole tag (take n s) (fields_in k (drop n s))) cut

unfoldable pub fields_of : List ℕ → Fields
fields_of s = fields_in (suc (length s)) s
