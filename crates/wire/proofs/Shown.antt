-- Bytes read as numbers and as fields, at examples, by computation. Assumes nothing.
use mathlib.Core.Path.{◌≡◌, refl}
use mathlib.Core.List.{List, [], ◌∷◌, ◌++◌}
use Prim.Native.Nat.{ℕ, zero, suc}
use lib.ListN.{replicate}
use Rattle.wire.specs.Wire.{Fields, end, cut, whole, big_from, big, fields_in, fields_of}

-- what the examples compute with
unfoldable opened : ℕ → ℕ
unfolding big_from fields_in fields_of
opened n = n

-- "(4 bytes, high first ..)": each byte at its place, the least number, the largest, and those at the edge of the sign
high-first : (big (1 ∷ 2 ∷ 3 ∷ 4 ∷ []) ≡ 16909060) × (big (0 ∷ 0 ∷ 0 ∷ 0 ∷ []) ≡ 0) × (big (255 ∷ 255 ∷ 255 ∷ 255 ∷ []) ≡ 4294967295)
    × (big (127 ∷ 255 ∷ 255 ∷ 255 ∷ []) ≡ 2147483647) × (big (128 ∷ 0 ∷ 0 ∷ 0 ∷ []) ≡ 2147483648)
unfolding opened
high-first = (refl, refl, refl, refl, refl)

one-byte-place : (big (1 ∷ 0 ∷ 0 ∷ 0 ∷ []) ≡ 16777216) × (big (0 ∷ 1 ∷ 0 ∷ 0 ∷ []) ≡ 65536) × (big (0 ∷ 0 ∷ 1 ∷ 0 ∷ []) ≡ 256) × (big (0 ∷ 0 ∷ 0 ∷ 1 ∷ []) ≡ 1)
unfolding opened
one-byte-place = (refl, refl, refl, refl)

-- two bytes, one, none; and bytes that follow those already read
other-counts : (big (1 ∷ 2 ∷ []) ≡ 258) × (big (7 ∷ []) ≡ 7) × (big [] ≡ 0) × (big_from 3 (5 ∷ []) ≡ 773) × (big_from 3 [] ≡ 3)
unfolding opened
other-counts = (refl, refl, refl, refl, refl)

-- "Fields: one-byte tag, two-byte length (high byte first), body.": no field, one, one with an empty body
none-or-one : (fields_of [] ≡ end) × (fields_of (1 ∷ 0 ∷ 2 ∷ 7 ∷ 8 ∷ []) ≡ whole 1 (7 ∷ 8 ∷ []) end) × (fields_of (3 ∷ 0 ∷ 0 ∷ []) ≡ whole 3 [] end)
unfolding opened
none-or-one = (refl, refl, refl)

-- the tag is kept, whatever it is: 0, 16 (0x10), 255
tags-kept : (fields_of (0 ∷ 0 ∷ 1 ∷ 9 ∷ []) ≡ whole 0 (9 ∷ []) end) × (fields_of (16 ∷ 0 ∷ 1 ∷ 9 ∷ []) ≡ whole 16 (9 ∷ []) end) × (fields_of (255 ∷ 0 ∷ 1 ∷ 9 ∷ []) ≡ whole 255 (9 ∷ []) end)
unfolding opened
tags-kept = (refl, refl, refl)

-- several fields stand in the order of the bytes, each with its own tag and body; empty bodies first, between and last
two_fields : (fields_of (1 ∷ 0 ∷ 2 ∷ 7 ∷ 8 ∷ 3 ∷ 0 ∷ 0 ∷ []) ≡ whole 1 (7 ∷ 8 ∷ []) (whole 3 [] end))
    × (fields_of (3 ∷ 0 ∷ 0 ∷ 1 ∷ 0 ∷ 2 ∷ 7 ∷ 8 ∷ []) ≡ whole 3 [] (whole 1 (7 ∷ 8 ∷ []) end))
    × (fields_of (1 ∷ 0 ∷ 1 ∷ 7 ∷ 2 ∷ 0 ∷ 0 ∷ 3 ∷ 0 ∷ 1 ∷ 8 ∷ []) ≡ whole 1 (7 ∷ []) (whole 2 [] (whole 3 (8 ∷ []) end)))
unfolding opened
two_fields = (refl, refl, refl)

-- "two-byte length (high byte first)": 255, 256, 258 and 512 bytes, and what follows them
long : ℕ → List ℕ
long n = replicate n 9

long-bodies : (fields_of (1 ∷ 0 ∷ 255 ∷ long 255) ≡ whole 1 (long 255) end) × (fields_of (1 ∷ 1 ∷ 0 ∷ long 256) ≡ whole 1 (long 256) end)
    × (fields_of (1 ∷ 1 ∷ 2 ∷ long 258 ++ 3 ∷ 0 ∷ 1 ∷ 4 ∷ []) ≡ whole 1 (long 258) (whole 3 (4 ∷ []) end)) × (fields_of (1 ∷ 2 ∷ 0 ∷ long 512) ≡ whole 1 (long 512) end)
unfolding opened long
long-bodies = (refl, refl, refl, refl)

-- "cut short": after the tag, after one byte of the length, after both, one byte short of the body
cut_short : (fields_of (1 ∷ []) ≡ cut) × (fields_of (1 ∷ 0 ∷ []) ≡ cut) × (fields_of (1 ∷ 0 ∷ 1 ∷ []) ≡ cut) × (fields_of (1 ∷ 0 ∷ 2 ∷ 7 ∷ []) ≡ cut)
    × (fields_of (1 ∷ 1 ∷ 0 ∷ long 255) ≡ cut) × (fields_of (1 ∷ 1 ∷ 0 ∷ []) ≡ cut)
unfolding opened long
cut_short = (refl, refl, refl, refl, refl, refl)

-- nothing behind a cut field is read as a field
nothing-behind : (fields_of (1 ∷ 0 ∷ 4 ∷ 3 ∷ 0 ∷ 0 ∷ []) ≡ cut) × (fields_of (1 ∷ 3 ∷ 0 ∷ 0 ∷ []) ≡ cut)
unfolding opened
nothing-behind = (refl, refl)

-- "whole fields before it": those before the cut are whole
cut-behind-whole : (fields_of (3 ∷ 0 ∷ 0 ∷ 1 ∷ []) ≡ whole 3 [] cut) × (fields_of (1 ∷ 0 ∷ 1 ∷ 7 ∷ 2 ∷ 0 ∷ []) ≡ whole 1 (7 ∷ []) cut)
    × (fields_of (1 ∷ 0 ∷ 1 ∷ 7 ∷ 2 ∷ 0 ∷ 0 ∷ 3 ∷ 0 ∷ 2 ∷ 8 ∷ []) ≡ whole 1 (7 ∷ []) (whole 2 [] cut))
unfolding opened
cut-behind-whole = (refl, refl, refl)

-- as many fields as there are, and bodies of any length: 1,100 fields, a body of 4,097 bytes
abbrev heads : ℕ → List ℕ
heads zero = []
heads (suc k) = 3 ∷ 0 ∷ 0 ∷ heads k

abbrev wholes : ℕ → Fields
wholes zero = end
wholes (suc k) = whole 3 [] (wholes k)

many : (fields_of (heads 1100) ≡ wholes 1100) × (fields_of (1 ∷ 16 ∷ 1 ∷ long 4097) ≡ whole 1 (long 4097) end)
unfolding opened long
many = (refl, refl)
