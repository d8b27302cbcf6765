-- The rules of sorts at examples: what they derive, and what they do not. Assumes nothing.
use mathlib.Core.Path.{◌≡◌, refl}
use lib.IntN.{pos}
use Rattle.number.specs.Number.{add}
use Rattle.program.specs.Tree.{Expr, nothing, constant, parameter, variable, operator, sense, rep, branch, mux, nbr, range, fold_op, fold_def, call}
use Rattle.program.specs.Sorts.{Sort, a_number, a_field, HasSort, T-nothing, T-constant, T-parameter, T-variable, T-numbers, T-fieldLeft, T-fieldRight, T-sense}
use Rattle.program.specs.Sorts.{T-rep, T-branch, T-mux, T-nbr, T-range, T-fold_op, T-fold_def, T-call}

-- a number and a field
abbrev n : Expr
n = constant (pos 3)

abbrev f : Expr
f = range 1

-- "nbr and nbr-range are fields"
fields : HasSort (nbr 1 n) a_field × HasSort (range 1) a_field
fields = (T-nbr T-constant, T-range)

-- "an operator is a field if a side is"
operators : HasSort (operator 0 add n n) a_number × HasSort (operator 0 add f n) a_field × HasSort (operator 0 add n f) a_field × HasSort (operator 0 add f f) a_field
operators = (T-numbers T-constant T-constant, T-fieldLeft T-range T-constant, T-fieldRight T-constant T-range, T-fieldLeft T-range T-range)

-- "an if has its branches' one sort"
ifs : HasSort (branch n n n) a_number × HasSort (branch n f f) a_field
ifs = (T-branch T-constant T-constant T-constant, T-branch T-constant T-range T-range)

-- "all else is a number"
leaves : HasSort nothing a_number × HasSort n a_number × HasSort (parameter 0 1) a_number × HasSort (variable 0 1) a_number
leaves = (T-nothing, T-constant, T-parameter, T-variable)

numbers : HasSort (sense n) a_number × HasSort (rep 0 n n) a_number × HasSort (mux n n n) a_number × HasSort (fold_op 0 add n f) a_number × HasSort (fold_def n n f) a_number
    × HasSort (call n n n n n) a_number
numbers = (
  T-sense T-constant,
  T-rep T-constant T-constant,
  T-mux T-constant T-constant T-constant,
  T-fold_op T-constant T-range,
  T-fold_def T-constant T-constant T-range,
  T-call T-constant T-constant T-constant T-constant T-constant,
)

-- no other sort
not-a-field : HasSort n a_field → ⊥
not-a-field h = elim h [ ]

not-a-number : HasSort f a_number → ⊥
not-a-number h = elim h [ ]

numbers-no-field : HasSort (operator 0 add n n) a_field → ⊥
numbers-no-field (T-fieldLeft h k) = not-a-field h
numbers-no-field (T-fieldRight k h) = not-a-field h

left-no-number : HasSort (operator 0 add f n) a_number → ⊥
left-no-number (T-numbers h k) = not-a-number h

right-no-number : HasSort (operator 0 add n f) a_number → ⊥
right-no-number (T-numbers h k) = not-a-number k

-- "all else is a number"; "Operands are numbers except operator sides, if branches and a fold's third, which is a field.": what a node of each kind asks of each operand, and its one sort
nothing-alone : {k : Sort} → HasSort nothing k → (k ≡ a_number)
nothing-alone T-nothing = refl

constant-alone : {k : Sort} → HasSort n k → (k ≡ a_number)
constant-alone T-constant = refl

parameter-alone : {k : Sort} → HasSort (parameter 0 1) k → (k ≡ a_number)
parameter-alone T-parameter = refl

variable-alone : {k : Sort} → HasSort (variable 0 1) k → (k ≡ a_number)
variable-alone T-variable = refl

range-alone : {k : Sort} → HasSort (range 1) k → (k ≡ a_field)
range-alone T-range = refl

sense-operand : {e : Expr} {k : Sort} → HasSort (sense e) k → HasSort e a_number × (k ≡ a_number)
sense-operand (T-sense h) = (h, refl)

rep-operands : {i u : Expr} {k : Sort} → HasSort (rep 0 i u) k → HasSort i a_number × HasSort u a_number × (k ≡ a_number)
rep-operands (T-rep h j) = (h, j, refl)

if-operands : {c a b : Expr} {k : Sort} → HasSort (branch c a b) k → HasSort c a_number × HasSort a k × HasSort b k
if-operands (T-branch h i j) = (h, i, j)

mux-operands : {c a b : Expr} {k : Sort} → HasSort (mux c a b) k → HasSort c a_number × HasSort a a_number × HasSort b a_number × (k ≡ a_number)
mux-operands (T-mux h i j) = (h, i, j, refl)

nbr-operand : {e : Expr} {k : Sort} → HasSort (nbr 1 e) k → HasSort e a_number × (k ≡ a_field)
nbr-operand (T-nbr h) = (h, refl)

fold-operands : {i g : Expr} {k : Sort} → HasSort (fold_op 0 add i g) k → HasSort i a_number × HasSort g a_field × (k ≡ a_number)
fold-operands (T-fold_op h j) = (h, j, refl)

fold-by-operands : {d i g : Expr} {k : Sort} → HasSort (fold_def d i g) k → HasSort d a_number × HasSort i a_number × HasSort g a_field × (k ≡ a_number)
fold-by-operands (T-fold_def m h j) = (m, h, j, refl)

call-operands : {d a b c e : Expr} {k : Sort} → HasSort (call d a b c e) k → HasSort d a_number × HasSort a a_number × HasSort b a_number × HasSort c a_number × HasSort e a_number × (k ≡ a_number)
call-operands (T-call m h i j l) = (m, h, i, j, l, refl)
