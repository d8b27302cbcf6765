-- What the first field of a list is, and that it is the field that wire's definition finds there. Definitions only: nothing is assumed.
use Rattle.std.specs.Prelude.{List, [], ◌∷◌, cond, ℕ, ◌+◌, ◌*◌, length, take, drop, leb, Option, Some, None}
use Rattle.wire.specs.Wire.{Fields, end, cut, whole, fields_in, fields_of}

-- tag, body and what follows them, or none: under three bytes, or a body past the end
abbrev pub split_of : List ℕ → Option (ℕ × List ℕ × List ℕ)
split_of [] = None
split_of (tag ∷ []) = None
split_of (tag ∷ high ∷ []) = None
split_of (tag ∷ high ∷ low ∷ s) =
    let n : ℕ = high * 256 + low in
    cond (leb n (length s)) (Some (tag, take n s, drop n s)) None

-- the fields of a list whose first field was split off, or not
abbrev pub fields_by : List ℕ → Option (ℕ × List ℕ × List ℕ) → Fields
fields_by s (Some f) = whole f.0 f.1 (fields_of f.2)
fields_by [] None = end
fields_by (b ∷ s) None = cut

-- the same with k more fields at the most behind the first
abbrev pub fields_from : ℕ → List ℕ → Option (ℕ × List ℕ × List ℕ) → Fields
fields_from k s (Some f) = whole f.0 f.1 (fields_in k f.2)
fields_from k [] None = end
fields_from k (b ∷ s) None = cut
