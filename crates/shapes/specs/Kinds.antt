-- The kinds of node by name, as program's table of kinds numbers them. Internal: `proofs/Items.antt` of nodes proves that the shapes that go by them are
-- program's. Definitions only: nothing is assumed.
use Rattle.std.specs.Prelude.{[], ◌∷◌, ℕ, get_or, ltb, cond, Option, Some, None}
use Rattle.program.specs.Table.{kind_count}
use Rattle.shapes.specs.declared.Kind.{Kind}
use Rattle.shapes.specs.declared.Kind.TheVariants.{Constant, Parameter, Variable, Operator, Sense, Rep, If, Mux, Nbr, Range, Fold, FoldBy, Call, Lag}

abbrev pub constant_kind : ℕ
constant_kind = 0

abbrev pub parameter_kind : ℕ
parameter_kind = 1

abbrev pub variable_kind : ℕ
variable_kind = 2

abbrev pub operator_kind : ℕ
operator_kind = 3

abbrev pub sense_kind : ℕ
sense_kind = 4

abbrev pub rep_kind : ℕ
rep_kind = 5

abbrev pub if_kind : ℕ
if_kind = 6

abbrev pub mux_kind : ℕ
mux_kind = 7

abbrev pub nbr_kind : ℕ
nbr_kind = 8

abbrev pub range_kind : ℕ
range_kind = 9

-- by operator, by definition
abbrev pub fold_kind : ℕ
fold_kind = 10

abbrev pub fold_by_kind : ℕ
fold_by_kind = 11

abbrev pub call_kind : ℕ
call_kind = 12

abbrev pub lag_kind : ℕ
lag_kind = 13

-- the number of each kind
abbrev pub number_of : Kind → ℕ
number_of Constant = constant_kind
number_of Parameter = parameter_kind
number_of Variable = variable_kind
number_of Operator = operator_kind
number_of Sense = sense_kind
number_of Rep = rep_kind
number_of If = if_kind
number_of Mux = mux_kind
number_of Nbr = nbr_kind
number_of Range = range_kind
number_of Fold = fold_kind
number_of FoldBy = fold_by_kind
number_of Call = call_kind
number_of Lag = lag_kind

-- the kind of a number, where there is one
abbrev pub kind_at : ℕ → Kind
kind_at number = get_or (Constant ∷ Parameter ∷ Variable ∷ Operator ∷ Sense ∷ Rep ∷ If ∷ Mux ∷ Nbr ∷ Range ∷ Fold ∷ FoldBy ∷ Call ∷ Lag ∷ []) number Constant

abbrev pub named : ℕ → Option Kind
named number = cond (ltb number kind_count) (Some (kind_at number)) None
