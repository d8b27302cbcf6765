-- What the evaluator requires of a table of words, and of the masks beside it: the variables of the reps under each node. Internal: no contract of a C function
-- cites it. Definitions only: nothing is assumed.
use Rattle.std.specs.Prelude.{◌≡◌, true, cond, List, ℕ, ◌<◌, ◌≤◌, get_or, ltb, ℤ, pos}
use Rattle.std.specs.Int.Signed.{lt_z}
use Rattle.bits.specs.Bits.{has_bit}
use Rattle.program.specs.Table.{among, node_limit}
use Rattle.program.specs.Tree.{Expr}
use Rattle.round.specs.Round.{State, number, done, reps, arguments, eval}
use Rattle.words.specs.Form.{parameter_form, operator_form, sense_form, rep_form, if_form, mux_form, fold_by_form, call_form, fold_form, least_form, pair_form, nbr_form}
use Rattle.words.specs.Form.{field_if_form, field_operator_form, leaf_forms, number_forms, field_forms, forms}
use Rattle.words.specs.Word.{form, item, p1, p2, p3, p4, body, count, word}
use Rattle.words.specs.Trees.{tree_at}

-- node k stands below n and is a leaf; gives a number; a field; a number, where there is an argument j at all
abbrev pub Leaf : List ℕ → ℕ → ℕ → Type 0
Leaf ws n k = (k < n) × (form (word ws k) < leaf_forms)

abbrev pub Num : List ℕ → ℕ → ℕ → Type 0
Num ws n k = (k < n) × (form (word ws k) < number_forms)

abbrev pub Fld : List ℕ → ℕ → ℕ → Type 0
Fld ws n k = (k < n) × (field_forms ≤ form (word ws k))

abbrev pub Arg : List ℕ → ℕ → ℕ → ℕ → Type 0
Arg ws n j k = (k < n) × (ltb j (count (word ws n)) ≡ true → form (word ws k) < number_forms)

abbrev pub lesser : ℤ → ℤ → ℤ
lesser x y = cond (lt_z x y) x y

-- a definition's body gives the lesser of its two arguments and changes nothing
pub record Least (e : Expr) : Type 0 where
  pub gives : (block : List ℤ) (x y : ℤ) (s : State) → eval block e (arguments x y (pos 0) (pos 0)) s ≡ done (number (lesser x y)) s

-- node n's form is known, and what it names is below it and of the sort that its form asks for
pub record Sorted (ws : List ℕ) (n : ℕ) : Type 0 where
  pub known : form (word ws n) < forms
  pub number : form (word ws n) < field_forms → form (word ws n) < number_forms
  pub param : form (word ws n) ≡ parameter_form → item (word ws n) < 4
  pub oper : form (word ws n) ≡ operator_form → Num ws n (p1 (word ws n)) × Num ws n (p2 (word ws n))
  pub sense : form (word ws n) ≡ sense_form → Num ws n (p1 (word ws n))
  pub rep : form (word ws n) ≡ rep_form → Num ws n (p1 (word ws n)) × Num ws n (p2 (word ws n))
  pub if_n : form (word ws n) ≡ if_form → Num ws n (p1 (word ws n)) × Num ws n (p2 (word ws n)) × Num ws n (p3 (word ws n))
  pub mux : form (word ws n) ≡ mux_form → Num ws n (p1 (word ws n)) × Num ws n (p2 (word ws n)) × Num ws n (p3 (word ws n))
  pub fold_by : form (word ws n) ≡ fold_by_form → Num ws n (body (word ws n)) × Num ws n (p1 (word ws n)) × Fld ws n (p2 (word ws n))
  pub call : form (word ws n) ≡ call_form
      → Num ws n (body (word ws n))
      × Arg ws n 0 (p1 (word ws n)) × Arg ws n 1 (p2 (word ws n)) × Arg ws n 2 (p3 (word ws n)) × Arg ws n 3 (p4 (word ws n))
  pub fold_op : form (word ws n) ≡ fold_form → Num ws n (p1 (word ws n)) × Fld ws n (p2 (word ws n))
  pub least : form (word ws n) ≡ least_form
      → (body (word ws n) < n) × Num ws n (p1 (word ws n)) × Fld ws n (p2 (word ws n)) × Least (tree_at ws (body (word ws n)))
  pub pair : form (word ws n) ≡ pair_form → Leaf ws n (p1 (word ws n)) × Leaf ws n (p2 (word ws n))
  pub nbr : form (word ws n) ≡ nbr_form → Num ws n (p1 (word ws n))
  pub if_f : form (word ws n) ≡ field_if_form → Num ws n (p1 (word ws n)) × Fld ws n (p2 (word ws n)) × Fld ws n (p3 (word ws n))
  -- at least one side is a field
  pub oper_f : form (word ws n) ≡ field_operator_form → (p1 (word ws n) < n) × (p2 (word ws n) < n)
  pub side : form (word ws n) ≡ field_operator_form → form (word ws (p1 (word ws n))) < field_forms → field_forms ≤ form (word ws (p2 (word ws n)))

pub record AllSorted (ws : List ℕ) : Type 0 where
  pub node : (n : ℕ) → n < node_limit → Sorted ws n

pub record Right (ws us : List ℕ) (n : ℕ) : Type 0 where
  pub sorted : Sorted ws n
  -- the mask's bits are the variables of the reps under the node, in called definitions too
  pub mask : (v : ℕ) → v < 16 → has_bit v (get_or us n 0) ≡ among v (reps (tree_at ws n))

unfoldable pub Sound : List ℕ → List ℕ → Type 0
Sound ws us = (n : ℕ) → n < node_limit → Right ws us n
