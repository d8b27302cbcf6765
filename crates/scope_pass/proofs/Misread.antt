-- The nodes that misread in a node's tree are itself, and those of its operands. Assumes nothing.
use mathlib.Core.Path.{◌≡◌}
use mathlib.Core.Bool.{cond}
use mathlib.Core.List.{List, [], ◌∷◌, ◌++◌, append-nil}
use Prim.Native.Nat.{ℕ}
use lib.Dec.{eqb, ltb}
use Rattle.program.specs.Table.{among}
use Rattle.program.specs.Tree.{misread}
use Rattle.words.specs.Form.{parameter_form}
use Rattle.words.specs.Word.{form, item}
use Rattle.words.specs.Trees.{tree_at}
use Rattle.operands.specs.Formed.{width, binds, reads, part}
use Rattle.operands.proofs.Views.{View, is-constant, is-parameter, is-variable, is-operator, is-sense, is-rep, is-if, is-mux, is-fold-by, is_call, is-fold, is-nbr, is-range, is-lag, is-field-if}
use Rattle.operands.proofs.Views.{is-field-operator}

-- the node itself
abbrev pub own_list : ℕ → ℕ → ℕ → List ℕ → List ℕ
own_list n w count kept =
    cond (eqb (form w) parameter_form) (cond (ltb (item w) count) [] (n ∷ []))
    (cond (reads w) (cond (among (item w) kept) [] (n ∷ [])) [])

-- the variables that are bound in operand 1
abbrev pub kept_in : ℕ → List ℕ → List ℕ
kept_in w kept = cond (binds w) (item w ∷ kept) kept

pub all-misread : {ws : List ℕ} {n w : ℕ} → View ws n w → (count : ℕ) (kept : List ℕ)
    → misread count kept (tree_at ws n)
    ≡ own_list n w count kept
    ++ (misread count kept (part ws w 0)
    ++ (misread count (kept_in w kept) (part ws w 1) ++ (misread count kept (part ws w 2) ++ misread count kept (part ws w 3))))
unfolding misread width
all-misread (is-constant h e) count kept = rw (e, h)
all-misread (is-parameter h e) count kept = rw (e, h) (simp append-nil)
all-misread (is-variable h e) count kept = rw (e, h) (simp append-nil)
all-misread (is-operator h e) count kept = rw (e, h) (simp append-nil)
all-misread (is-sense h e) count kept = rw (e, h) (simp append-nil)
all-misread (is-rep h e) count kept = rw (e, h) (simp append-nil)
all-misread (is-if h e) count kept = rw (e, h) (simp append-nil)
all-misread (is-mux h e) count kept = rw (e, h) (simp append-nil)
all-misread (is-fold-by h e) count kept = rw (e, h) (simp append-nil)
all-misread (is_call h e) count kept = rw (e, h)
all-misread (is-fold h e) count kept = rw (e, h) (simp append-nil)
all-misread (is-nbr h e) count kept = rw (e, h) (simp append-nil)
all-misread (is-range h e) count kept = rw (e, h)
all-misread (is-lag h e) count kept = rw (e, h)
all-misread (is-field-if h e) count kept = rw (e, h) (simp append-nil)
all-misread (is-field-operator h e) count kept = rw (e, h) (simp append-nil)
