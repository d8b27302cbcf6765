-- What the functions of the evaluator ask of the node that they are given, in a sound table and with no fault so far; and what is left of a call once its first
-- arguments are there. Definitions only: nothing is assumed.
use Rattle.std.specs.Prelude.{◌≡◌, Bool, true, ◌⊎◌, List, ℕ, ◌<◌, ◌≤◌, ltb, ℤ, pos}
use Rattle.program.specs.Table.{node_limit}
use Rattle.round.specs.Round.{State, Outcome, then_number, arguments, eval}
use Rattle.words.specs.Form.{parameter_form, pair_form, fold_by_form, fold_form, least_form, leaf_forms, number_forms, field_forms}
use Rattle.words.specs.Word.{form, item, p1, p2, p3, p4, body, count, word}
use Rattle.words.specs.Trees.{tree_at, arg_of}
use Rattle.words.specs.Sound.{Sound}
use Rattle.apply.specs.State.{fault_of}

-- it gives a number; a field
pub record Number (ws us : List ℕ) (st : List ℤ) (n : ℕ) : Type 0 where
  pub sound : Sound ws us
  pub inside : n < node_limit
  pub sort : form (word ws n) < number_forms
  pub clear : fault_of st ≡ pos 0

pub record IsField (ws us : List ℕ) (st : List ℤ) (n : ℕ) : Type 0 where
  pub sound : Sound ws us
  pub inside : n < node_limit
  pub sort : field_forms ≤ form (word ws n)
  pub clear : fault_of st ≡ pos 0

-- a number, where there is an argument at all; either
pub record Argument (ws us : List ℕ) (st : List ℤ) (there : Bool) (n : ℕ) : Type 0 where
  pub sound : Sound ws us
  pub inside : n < node_limit
  pub sort : there ≡ true → form (word ws n) < number_forms
  pub clear : fault_of st ≡ pos 0

pub record Inside (ws us : List ℕ) (st : List ℤ) (n : ℕ) : Type 0 where
  pub sound : Sound ws us
  pub inside : n < node_limit
  pub clear : fault_of st ≡ pos 0

-- it is a leaf; an operator on two leaves
pub record IsLeaf (ws : List ℕ) (st : List ℤ) (n : ℕ) : Type 0 where
  pub inside : n < node_limit
  pub leaf : form (word ws n) < leaf_forms
  pub param : form (word ws n) ≡ parameter_form → item (word ws n) < 4
  pub clear : fault_of st ≡ pos 0

pub record IsPair (ws : List ℕ) (st : List ℤ) (n : ℕ) : Type 0 where
  pub inside : n < node_limit
  pub pair : form (word ws n) ≡ pair_form
  pub below : (p1 (word ws n) < n) × (p2 (word ws n) < n)
  pub left : IsLeaf ws st (p1 (word ws n))
  pub right : IsLeaf ws st (p2 (word ws n))

-- a form is that of a fold
abbrev pub Folding : ℕ → Type 0
Folding k = (k ≡ least_form) ⊎ ((k ≡ fold_by_form) ⊎ (k ≡ fold_form))

-- what is left of the call n once its first three arguments are there; its first two; its first
abbrev pub fourth_on : List ℕ → ℕ → List ℤ → List ℤ → ℤ → ℤ → ℤ → State → Outcome
fourth_on ws n here env x y z s =
    then_number (eval here (arg_of ws (ltb 3 (count (word ws n))) (p4 (word ws n))) env s) (λ v u. eval here (tree_at ws (body (word ws n))) (arguments x y z v) u)

abbrev pub third_on : List ℕ → ℕ → List ℤ → List ℤ → ℤ → ℤ → State → Outcome
third_on ws n here env x y s =
    then_number (eval here (arg_of ws (ltb 2 (count (word ws n))) (p3 (word ws n))) env s) (λ z u. fourth_on ws n here env x y z u)

abbrev pub second_on : List ℕ → ℕ → List ℤ → List ℤ → ℤ → State → Outcome
second_on ws n here env x s =
    then_number (eval here (arg_of ws (ltb 1 (count (word ws n))) (p2 (word ws n))) env s) (λ y u. third_on ws n here env x y u)
