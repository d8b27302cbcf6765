-- A table of words whose nodes name only nodes below themselves: what every pass over it requires. Internal: no contract of a C function cites it. Definitions
-- only: nothing is assumed.
use Rattle.std.specs.Prelude.{◌≡◌, Bool, true, cond, List, [], ◌∷◌, ℕ, ◌+◌, ◌*◌, ◌/◌, ◌%◌, ◌^◌, ◌<◌, ◌≤◌, get_or, eqb, ltb}
use Rattle.program.specs.Table.{node_limit}
use Rattle.program.specs.Tree.{Expr, nothing}
use Rattle.bits.specs.Bits.{has_bit, bits_of}
use Rattle.words.specs.Form.{constant_form, parameter_form, variable_form, rep_form, fold_by_form, call_form, nbr_form, range_form, lag_form, field_forms, forms}
use Rattle.words.specs.Word.{node_numbers, form, count, word}
use Rattle.words.specs.Trees.{tree_at}

-- the forms that give a number in a table as it is checked: the quick ones are made later
abbrev pub checked_forms : ℕ
checked_forms = 11

-- how many operands a form has, but for a call, which has as many as its count says
abbrev pub widths : List ℕ
widths =
    -- constant, parameter, variable, operator, sense, rep, if, mux, fold by definition, call, fold by operator
    0 ∷ 0 ∷ 0 ∷ 2 ∷ 1 ∷ 2 ∷ 3 ∷ 3 ∷ 2 ∷ 0 ∷ 2 ∷ 0 ∷ 0 ∷ 0 ∷ 0 ∷ 0
    -- nbr, nbr-range, nbr-lag, if and operator on fields
    ∷ 1 ∷ 0 ∷ 0 ∷ 3 ∷ 2 ∷ 0 ∷ 0 ∷ 0 ∷ 0 ∷ 0 ∷ 0 ∷ 0 ∷ 0 ∷ 0 ∷ 0 ∷ 0
    ∷ []

-- the same as one number, two bits a form
abbrev pub packed : List ℕ → ℕ
packed [] = 0
packed (k ∷ ks) = k + 4 * packed ks

unfoldable pub width : ℕ → ℕ
width w = cond (eqb (form w) call_form) (count w) (get_or widths (form w) 0)

-- the body, as an operand
abbrev pub body_at : ℕ
body_at = 4

-- operand j, the first is 0
abbrev pub operand : ℕ → ℕ → ℕ
operand w j = w / 2 ^ (9 + 10 * j) % node_numbers

-- the forms of which a word says more than what it names, a list each: those that name no node; that have a body; that bind a variable, their item, in operand 1; that
-- read a variable, their item; that are spatial of themselves
abbrev pub alone_set : ℕ
alone_set = bits_of (constant_form ∷ parameter_form ∷ variable_form ∷ range_form ∷ lag_form ∷ [])

abbrev pub body_set : ℕ
body_set = bits_of (fold_by_form ∷ call_form ∷ [])

abbrev pub bind_set : ℕ
bind_set = bits_of (rep_form ∷ [])

abbrev pub read_set : ℕ
read_set = bits_of (variable_form ∷ [])

abbrev pub spatial_set : ℕ
spatial_set = bits_of (rep_form ∷ nbr_form ∷ range_form ∷ lag_form ∷ [])

abbrev pub is_alone : ℕ → Bool
is_alone w = has_bit (form w) alone_set

abbrev pub has_body : ℕ → Bool
has_body w = has_bit (form w) body_set

abbrev pub binds : ℕ → Bool
binds w = has_bit (form w) bind_set

abbrev pub reads : ℕ → Bool
reads w = has_bit (form w) read_set

abbrev pub is_spatial : ℕ → Bool
is_spatial w = has_bit (form w) spatial_set

-- node n has a known form and names nodes below n: operands by its width, and the body of a fold by definition or a call
pub record Formed (ws : List ℕ) (n : ℕ) : Type 0 where
  pub known : form (word ws n) < forms
  pub number : form (word ws n) < field_forms → form (word ws n) < checked_forms
  pub operands : (j : ℕ) → j < 4 → j < width (word ws n) → operand (word ws n) j < n
  pub folds : form (word ws n) ≡ fold_by_form → operand (word ws n) 4 < n
  pub calls : form (word ws n) ≡ call_form → operand (word ws n) 4 < n

pub record AllFormed (ws : List ℕ) : Type 0 where
  pub node : (n : ℕ) → n < node_limit → Formed ws n

-- no node from n on
pub record Empty (ws : List ℕ) (n : ℕ) : Type 0 where
  pub rest : (k : ℕ) → n ≤ k → word ws k ≡ 0

-- node n has an operand j, which is node m; a body, which is node m
pub record Operand (ws : List ℕ) (n j m : ℕ) : Type 0 where
  pub has : j < width (word ws n)
  pub is : m ≡ operand (word ws n) j
  pub below : m < n

pub record Body (ws : List ℕ) (n m : ℕ) : Type 0 where
  pub has : has_body (word ws n) ≡ true
  pub is : m ≡ operand (word ws n) body_at
  pub below : m < n

-- the tree of operand j of a word, nothing where it has none
abbrev pub part : List ℕ → ℕ → ℕ → Expr
part ws w j = cond (ltb j (width w)) (tree_at ws (operand w j)) nothing

-- what is noted of operand j of a word in a column, a node an entry; d where it has none
abbrev pub part_note : {A : Type 0} → A → List A → ℕ → ℕ → A
part_note d notes w j = cond (ltb j (width w)) (get_or notes (operand w j) d) d

-- what is noted of the body of a word
abbrev pub body_note : {A : Type 0} → A → List A → ℕ → A
body_note d notes w = cond (has_body w) (get_or notes (operand w body_at) d) d
