-- The words of the notation: names, numbers, operators, and what a word is behind an opening bracket. A word is a list of bytes. Definitions only: nothing is assumed.
use Rattle.std.specs.Prelude.{Bool, true, false, not, cond, ◌&&◌, ◌||◌, List, [], ◌∷◌, ℕ, suc, ◌+◌, ◌*◌, ◌-◌, ◌%◌, eqb, leb, length, take, drop, replicate}
use Prim.Native.Char.{code}
use Prim.Native.String.{String, [] as empty, ◌∷◌ as ◌then◌}

abbrev pub Word : Type 0
Word = List ℕ

-- the bytes of a quoted text, all of whose characters are ASCII
abbrev pub ascii : String → List ℕ
ascii empty = []
ascii (c then s) = code c ∷ ascii s

-- the bytes a..b of a text
abbrev pub between : ℕ → ℕ → List ℕ → List ℕ
between a b s = take (b - a) (drop a s)

abbrev pub same_word : Word → Word → Bool
same_word [] [] = true
same_word [] (b ∷ v) = false
same_word (a ∷ w) [] = false
same_word (a ∷ w) (b ∷ v) = eqb a b && same_word w v

abbrev pub every {ℓ} : {A : Type ℓ} → (A → Bool) → List A → Bool
every f [] = true
every f (a ∷ l) = f a && every f l

abbrev pub one_of : Word → List Word → Bool
one_of w [] = false
one_of w (x ∷ xs) = same_word w x || one_of w xs

-- where a word stands in a list, from 0
unfoldable pub index_of : Word → List Word → ℕ
index_of w [] = 0
index_of w (x ∷ xs) = cond (same_word w x) 0 (suc (index_of w xs))

-- what a list has for a word, else the last argument
abbrev pub lookup {ℓ} : {A : Type ℓ} → Word → List (Word × A) → A → A
lookup w [] r = r
lookup w (x ∷ l) r = cond (same_word w x.0) x.1 (lookup w l r)

-- "A name is 1 to 16 of a–z, digits, hyphen and star, beginning with a letter."
unfoldable pub is_letter : ℕ → Bool
is_letter b = leb 97 b && leb b 122

unfoldable pub is_digit : ℕ → Bool
is_digit b = leb 48 b && leb b 57

unfoldable pub name_byte : ℕ → Bool
name_byte b = is_letter b || (is_digit b || (eqb b 45 || eqb b 42))

unfoldable pub is_name : Word → Bool
is_name [] = false
is_name (b ∷ w) = is_letter b && (every name_byte w && leb (length w) 15)

-- the words of the notation that are spelt like names
abbrev pub the_def : Word
the_def = ascii "def"

abbrev pub the_sense : Word
the_sense = ascii "sense"

abbrev pub the_rep : Word
the_rep = ascii "rep"

abbrev pub the_if : Word
the_if = ascii "if"

abbrev pub the_mux : Word
the_mux = ascii "mux"

abbrev pub the_nbr : Word
the_nbr = ascii "nbr"

abbrev pub the_range : Word
the_range = ascii "nbr-range"

abbrev pub the_lag : Word
the_lag = ascii "nbr-lag"

abbrev pub the_fold : Word
the_fold = ascii "fold-hood*"

abbrev pub the_inf : Word
the_inf = ascii "inf"

abbrev pub reserved_words : List Word
reserved_words = the_def ∷ the_sense ∷ the_rep ∷ the_if ∷ the_mux ∷ the_nbr ∷ the_range ∷ the_lag ∷ the_fold ∷ the_inf ∷ []

unfoldable pub reserved : Word → Bool
reserved w = one_of w reserved_words

-- a name that is no word of the notation: "A word of the notation can't name anything"
unfoldable pub own_name : Word → Bool
own_name w = is_name w && not (reserved w)

-- operators 0 to 8
abbrev pub operators : List Word
operators = ascii "+" ∷ ascii "-" ∷ ascii "*" ∷ ascii "/" ∷ ascii "<" ∷ ascii ">" ∷ ascii ">=" ∷ ascii "==" ∷ ascii "!=" ∷ []

unfoldable pub operator : Word → Bool
operator w = one_of w operators

-- "decimal digits, leading zeros allowed"; their value
abbrev pub value_from : ℕ → Word → ℕ
value_from n [] = n
value_from n (d ∷ w) = value_from (n * 10 + (d - 48)) w

-- "one outside floor..inf is outside the grammar"
unfoldable pub is_count : Word → Bool
is_count [] = false
is_count (d ∷ w) = every is_digit (d ∷ w) && leb (value_from 0 (d ∷ w)) 2147483647

-- "with an optional minus"
unfoldable pub is_negative : Word → Bool
is_negative [] = false
is_negative (b ∷ w) = eqb b 45 && is_count w

-- "or `inf`"
unfoldable pub is_number : Word → Bool
is_number w = same_word w the_inf || (is_count w || is_negative w)

-- the number in 32 bits, as a constant of the table has it
unfoldable pub bits_of : Word → ℕ
bits_of [] = 0
bits_of (b ∷ w) =
    cond (eqb b 45) ((4294967296 - value_from 0 w) % 4294967296)
    (cond (same_word (b ∷ w) the_inf) 2147483647 (value_from 0 (b ∷ w)))

-- what stands alone, what is bound (a reserved name too: that is refusal 20), the function of a fold
unfoldable pub atom : Word → Bool
atom w = is_number w || own_name w

unfoldable pub binder : Word → Bool
binder w = is_name w

unfoldable pub function : Word → Bool
function w = operator w || own_name w

-- What a word is behind an opening bracket: an operator; a form of expressions only, or one with a slot, each by its node kind and the number of its expressions;
-- rep, fold-hood*, def; the name of a definition that is called; nothing
pub data Head : Type 0 where
  plain slotted : ℕ → ℕ → Head
  operation rep fold define call nothing : Head

abbrev pub head_words : List (Word × Head)
head_words =
    (the_def, define) ∷ (the_sense, plain 4 1) ∷ (the_rep, rep) ∷ (the_if, plain 6 3) ∷ (the_mux, plain 7 3)
    ∷ (the_nbr, slotted 8 1) ∷ (the_range, slotted 9 0) ∷ (the_lag, slotted 13 0) ∷ (the_fold, fold) ∷ []

unfoldable pub head_of : Word → Head
head_of w = lookup w head_words (cond (operator w) operation (cond (own_name w) call nothing))

-- what a piece of a form is: an expression, a name that is bound, the function of a fold
pub data Piece : Type 0 where
  an_expression a_binder a_function : Piece

-- what follows a head: these pieces, any number of expressions ("A call may have any number of operands"), a definition's parts, nothing
pub data Role : Type 0 where
  fixed : List Piece → Role
  calls definition no_form : Role

abbrev pub role_of : Head → Role
role_of (plain kind n) = fixed (replicate n an_expression)
role_of (slotted kind n) = fixed (replicate n an_expression)
role_of operation = fixed (an_expression ∷ an_expression ∷ [])
role_of rep = fixed (a_binder ∷ an_expression ∷ an_expression ∷ [])
role_of fold = fixed (a_function ∷ an_expression ∷ an_expression ∷ [])
role_of define = definition
role_of call = calls
role_of nothing = no_form

unfoldable pub role : Word → Role
role w = role_of (head_of w)
