-- Words, by computation: names, numbers, operators, heads. Assumes nothing.
use mathlib.Core.Path.{◌≡◌, refl}
use mathlib.Core.Bool.{Bool, true, false, not}
use mathlib.Core.List.{List, [], ◌∷◌, ◌++◌, map}
use Prim.Native.String.{String}
use lib.ListN.{replicate}
use Rattle.notation.specs.Words.{Word, ascii, between, every, index_of, is_name, reserved_words, reserved, own_name, operators, operator, is_count, is_number, bits_of, atom, binder, function}
use Rattle.notation.specs.Words.{plain, slotted, operation, rep, fold, define, call, nothing, head_of, an_expression, a_binder, a_function, fixed, calls, definition, no_form}
use Rattle.notation.specs.Words.{role}
use Rattle.notation.proofs.Shown.{opened}

-- the words that pass a test, those that don't
abbrev all : (Word → Bool) → List String → Bool
all f l = every (λ s. f (ascii s)) l

abbrev none : (Word → Bool) → List String → Bool
none f l = every (λ s. not (f (ascii s))) l

-- "A name is 1 to 16 of a–z, digits, hyphen and star, beginning with a letter."
names : (all is_name ("a" ∷ "z" ∷ "x0" ∷ "x9" ∷ "x-" ∷ "x*" ∷ "distance-to" ∷ "abcdefghijklmnop" ∷ "a-*0123456789-*z" ∷ []) ≡ true)
    × (none is_name ("" ∷ "0" ∷ "9x" ∷ "-" ∷ "-x" ∷ "*" ∷ "*x" ∷ "abcdefghijklmnopq" ∷ "A" ∷ "xA" ∷ "x_" ∷ "x+" ∷ "x/" ∷ "x:" ∷ "x`" ∷ "x{" ∷ "`" ∷ "{" ∷ "x y" ∷ "x\t" ∷ []) ≡ true)
unfolding opened
names = (refl, refl)

-- "the names and operators of source document 000, `<` and nbr-lag": ten words spelt like names; an operator is none (L4.1)
words-of-the-notation : (reserved_words ≡ map ascii ("def" ∷ "sense" ∷ "rep" ∷ "if" ∷ "mux" ∷ "nbr" ∷ "nbr-range" ∷ "nbr-lag" ∷ "fold-hood*" ∷ "inf" ∷ []))
    × (every is_name reserved_words ≡ true) × (every reserved reserved_words ≡ true) × (map own_name reserved_words ≡ replicate 10 false)
unfolding opened
words-of-the-notation = (refl, refl, refl, refl)

-- "A word of the notation can't name anything": words that only look like one can; share is none of its words (L4.13)
own-names : (all own_name ("share" ∷ "iffy" ∷ "in" ∷ "nbr-" ∷ "nbr-vec" ∷ "fold-hood" ∷ "min" ∷ "defs" ∷ "i" ∷ []) ≡ true) × (none own_name ("if" ∷ "inf" ∷ "+" ∷ "1" ∷ "" ∷ []) ≡ true)
unfolding opened
own-names = (refl, refl)

-- the operators of 000 and `<`, 01: "Operators 0–8: + - × / < > >= == !=". `<=` is none, nor are `=` and `!`
nine-operators : (map (λ s. index_of (ascii s) operators) ("+" ∷ "-" ∷ "*" ∷ "/" ∷ "<" ∷ ">" ∷ ">=" ∷ "==" ∷ "!=" ∷ []) ≡ 0 ∷ 1 ∷ 2 ∷ 3 ∷ 4 ∷ 5 ∷ 6 ∷ 7 ∷ 8 ∷ [])
    × (every operator operators ≡ true) × (none operator ("<=" ∷ "=" ∷ "!" ∷ "=>" ∷ "" ∷ "++" ∷ "x" ∷ "%" ∷ []) ≡ true)
unfolding opened
nine-operators = (refl, refl, refl)

-- "Numbers are decimal digits, leading zeros allowed, with an optional minus, or `inf`; one outside floor..inf is outside the grammar."
numbers : (all is_number ("0" ∷ "9" ∷ "007" ∷ "00000000000000000000" ∷ "2147483647" ∷ "0002147483647" ∷ "-0" ∷ "-1" ∷ "-007" ∷ "-2147483647" ∷ "inf" ∷ []) ≡ true)
    × (none is_number ("2147483648" ∷ "-2147483648" ∷ "9999999999" ∷ "-" ∷ "" ∷ "--1" ∷ "+1" ∷ "1-" ∷ "1.0" ∷ "-inf" ∷ "infinity" ∷ "1x" ∷ "/" ∷ ":" ∷ "floor" ∷ []) ≡ true)
    × (is_count (ascii "-1") ≡ false)
unfolding opened
numbers = (refl, refl, refl)

-- their bits; 01: "A **number** is a signed 32-bit whole number", "0 constant (4 bytes, high first, not the mark)"
bits : map (λ s. bits_of (ascii s)) ("0" ∷ "1" ∷ "10" ∷ "00120" ∷ "2147483647" ∷ "inf" ∷ "-0" ∷ "-00" ∷ "-1" ∷ "-10" ∷ "-2147483647" ∷ [])
    ≡ 0 ∷ 1 ∷ 10 ∷ 120 ∷ 0x7fffffff ∷ 0x7fffffff ∷ 0 ∷ 0 ∷ 0xffffffff ∷ 0xfffffff6 ∷ 0x80000001 ∷ []
unfolding opened
bits = refl

-- what stands alone: numbers and names, no word of the notation but inf; "elsewhere it is only itself"
alone : (all atom ("x" ∷ "share" ∷ "1" ∷ "-1" ∷ "inf" ∷ []) ≡ true) × (none atom ("if" ∷ "def" ∷ "rep" ∷ "nbr-range" ∷ "+" ∷ "-" ∷ "-inf" ∷ "2147483648" ∷ "" ∷ []) ≡ true)
unfolding opened
alone = (refl, refl)

-- what is bound is a name, "where something is bound it is a reserved name", which 20 refuses; no operator and no number (L4.1)
bound : (all binder ("x" ∷ "if" ∷ "def" ∷ "inf" ∷ "share" ∷ []) ≡ true) × (none binder ("+" ∷ "*" ∷ "1" ∷ "-1" ∷ "" ∷ "abcdefghijklmnopq" ∷ []) ≡ true)
unfolding opened
bound = (refl, refl)

-- the function of a fold: an operator, or a name that is no word of the notation (L4.4)
functions : (all function ("+" ∷ "<" ∷ "!=" ∷ "min" ∷ "share" ∷ []) ≡ true) × (none function ("if" ∷ "mux" ∷ "def" ∷ "inf" ∷ "1" ∷ "<=" ∷ "" ∷ []) ≡ true)
unfolding opened
functions = (refl, refl)

-- behind an opening bracket: 01's node kinds, "4 sense", "6 if", "7 mux", "8 nbr", "9 nbr-range", L2: "13 nbr-lag", each with the number of its operands
heads : map (λ s. head_of (ascii s)) ("def" ∷ "sense" ∷ "rep" ∷ "if" ∷ "mux" ∷ "nbr" ∷ "nbr-range" ∷ "nbr-lag" ∷ "fold-hood*" ∷ [])
    ≡ define ∷ plain 4 1 ∷ rep ∷ plain 6 3 ∷ plain 7 3 ∷ slotted 8 1 ∷ slotted 9 0 ∷ slotted 13 0 ∷ fold ∷ []
unfolding opened
heads = refl

other-heads : (map head_of operators ≡ replicate 9 operation) × (map (λ s. head_of (ascii s)) ("f" ∷ "share" ∷ "iff" ∷ "x*" ∷ []) ≡ replicate 4 call)
    × (map (λ s. head_of (ascii s)) ("inf" ∷ "1" ∷ "-1" ∷ "<=" ∷ "=" ∷ "abcdefghijklmnopq" ∷ "" ∷ []) ≡ replicate 7 nothing)
unfolding opened
other-heads = (refl, refl, refl)

-- "A call may have any number of operands"; the others have those of their kind (L4.3)
roles : map (λ s. role (ascii s)) ("+" ∷ "!=" ∷ "sense" ∷ "rep" ∷ "if" ∷ "mux" ∷ "nbr" ∷ "nbr-range" ∷ "nbr-lag" ∷ "fold-hood*" ∷ "f" ∷ "def" ∷ "inf" ∷ [])
    ≡ fixed (an_expression ∷ an_expression ∷ []) ∷ fixed (an_expression ∷ an_expression ∷ []) ∷ fixed (an_expression ∷ []) ∷ fixed (a_binder ∷ an_expression ∷ an_expression ∷ [])
    ∷ fixed (an_expression ∷ an_expression ∷ an_expression ∷ []) ∷ fixed (an_expression ∷ an_expression ∷ an_expression ∷ []) ∷ fixed (an_expression ∷ []) ∷ fixed [] ∷ fixed []
    ∷ fixed (a_function ∷ an_expression ∷ an_expression ∷ []) ∷ calls ∷ definition ∷ no_form ∷ []
unfolding opened
roles = refl

-- the bytes a..b of a text
cut : (between 1 4 (ascii "(def") ≡ ascii "def") × (between 0 0 (ascii "(def") ≡ []) × (between 3 9 (ascii "(def") ≡ ascii "f")
cut = (refl, refl, refl)
