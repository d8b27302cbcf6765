-- The forms of a node's word: which way it is evaluated. Internal: no public contract cites it. Definitions only: nothing is assumed.
use Rattle.std.specs.Prelude.{ℕ}

-- those that give a number: one for each kind but nbr, nbr-range and nbr-lag. The evaluator keeps those together that three divides (operator, if, call, pair; a constant is a leaf)
abbrev pub constant_form : ℕ
constant_form = 0

abbrev pub parameter_form : ℕ
parameter_form = 1

abbrev pub variable_form : ℕ
variable_form = 2

abbrev pub operator_form : ℕ
operator_form = 3

abbrev pub sense_form : ℕ
sense_form = 4

abbrev pub rep_form : ℕ
rep_form = 5

abbrev pub if_form : ℕ
if_form = 6

abbrev pub mux_form : ℕ
mux_form = 7

abbrev pub fold_by_form : ℕ
fold_by_form = 8

abbrev pub call_form : ℕ
call_form = 9

abbrev pub fold_form : ℕ
fold_form = 10

-- and two quick ways, for words that pass the check as the form in brackets: a fold by a definition that gives the lesser of its arguments (fold_by_form)
abbrev pub least_form : ℕ
least_form = 11

-- an operator on two leaves (operator_form)
abbrev pub pair_form : ℕ
pair_form = 12

-- those that give a field
abbrev pub nbr_form : ℕ
nbr_form = 16

abbrev pub range_form : ℕ
range_form = 17

abbrev pub lag_form : ℕ
lag_form = 18

abbrev pub field_if_form : ℕ
field_if_form = 19

abbrev pub field_operator_form : ℕ
field_operator_form = 20

-- forms below leaf_forms name no node and give a number, those below number_forms give a number, those from field_forms on a field; from forms on there is none
abbrev pub leaf_forms : ℕ
leaf_forms = 3

abbrev pub number_forms : ℕ
number_forms = 13

abbrev pub field_forms : ℕ
field_forms = 16

abbrev pub forms : ℕ
forms = 21
