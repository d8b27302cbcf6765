-- The tree that a node of a table of words stands for. Internal: no contract of a C function cites it. Definitions only: nothing is assumed.
use Rattle.std.specs.Prelude.{Bool, cond, List, [], ◌∷◌, ◌++◌, ℕ, zero, suc, get_or, eqb, ltb}
use Rattle.number.specs.Number.{operator_of}
use Rattle.program.specs.Tree.{Expr, nothing, constant, parameter, variable, operator, sense, rep, branch, mux, nbr, range, lag, fold_op, fold_def, call}
use Rattle.words.specs.Form.{constant_form, parameter_form, variable_form, operator_form, sense_form, rep_form, if_form, mux_form, fold_by_form, call_form, fold_form}
use Rattle.words.specs.Form.{least_form, pair_form, nbr_form, range_form, lag_form, field_if_form}
use Rattle.words.specs.Word.{form, item, p1, p2, p3, p4, body, count, constant_of, word}

abbrev pub at : List Expr → ℕ → Expr
at es k = get_or es k nothing

-- the j-th argument of a call, nothing where the definition has fewer parameters
abbrev pub arg_at : List Expr → ℕ → ℕ → ℕ → Expr
arg_at es w j k = cond (ltb j (count w)) (at es k) nothing

-- node n's tree, from those of the nodes before it
unfoldable pub made : ℕ → List Expr → ℕ → Expr
made n es w =
    cond (eqb (form w) constant_form) (constant (constant_of w))
    (cond (eqb (form w) parameter_form) (parameter n (item w))
    (cond (eqb (form w) variable_form) (variable n (item w))
    (cond (eqb (form w) operator_form) (operator n (operator_of (item w)) (at es (p1 w)) (at es (p2 w)))
    (cond (eqb (form w) sense_form) (sense (at es (p1 w)))
    (cond (eqb (form w) rep_form) (rep (item w) (at es (p1 w)) (at es (p2 w)))
    (cond (eqb (form w) if_form) (branch (at es (p1 w)) (at es (p2 w)) (at es (p3 w)))
    (cond (eqb (form w) mux_form) (mux (at es (p1 w)) (at es (p2 w)) (at es (p3 w)))
    (cond (eqb (form w) fold_by_form) (fold_def (at es (body w)) (at es (p1 w)) (at es (p2 w)))
    (cond (eqb (form w) call_form) (call (at es (body w)) (arg_at es w 0 (p1 w)) (arg_at es w 1 (p2 w)) (arg_at es w 2 (p3 w)) (arg_at es w 3 (p4 w)))
    (cond (eqb (form w) fold_form) (fold_op n (operator_of (item w)) (at es (p1 w)) (at es (p2 w)))
    (cond (eqb (form w) least_form) (fold_def (at es (body w)) (at es (p1 w)) (at es (p2 w)))
    (cond (eqb (form w) pair_form) (operator n (operator_of (item w)) (at es (p1 w)) (at es (p2 w)))
    (cond (eqb (form w) nbr_form) (nbr (item w) (at es (p1 w)))
    (cond (eqb (form w) range_form) (range (item w))
    (cond (eqb (form w) lag_form) (lag (item w))
    (cond (eqb (form w) field_if_form) (branch (at es (p1 w)) (at es (p2 w)) (at es (p3 w)))
    (operator n (operator_of (item w)) (at es (p1 w)) (at es (p2 w)))))))))))))))))))

-- the trees of the nodes below n
unfoldable pub below : List ℕ → ℕ → List Expr
below ws zero = []
below ws (suc n) = below ws n ++ made n (below ws n) (word ws n) ∷ []

unfoldable pub tree_at : List ℕ → ℕ → Expr
tree_at ws n = made n (below ws n) (word ws n)

-- the tree of an argument, or nothing
abbrev pub arg_of : List ℕ → Bool → ℕ → Expr
arg_of ws there k = cond there (tree_at ws k) nothing
