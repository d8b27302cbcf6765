-- The word of one node, part by part. Internal: no contract of a C function cites it. Definitions only: nothing is assumed.
use Rattle.std.specs.Prelude.{◌≡◌, Bool, cond, [], ◌∷◌, ℕ, ◌<◌, ◌≤◌, get_or, ltb}
use Rattle.words.specs.Form.{constant_form, parameter_form, variable_form, operator_form, sense_form, rep_form, if_form, mux_form, fold_by_form, call_form, fold_form, nbr_form}
use Rattle.words.specs.Form.{range_form, lag_form, field_if_form, field_operator_form}
use Rattle.shapes.specs.Kinds.{constant_kind, number_of}
use Rattle.program.specs.Tree.{signed}
use Rattle.words.specs.Word.{form, item, p1, p2, p3, p4, body, count, constant_of}
use Rattle.shapes.specs.Shapes.{kids_of, lead_of}
use Rattle.nodes.specs.declared.Node.{Node}

-- the form of a kind: side, where an operator has a field for a side; branch, where the second child is a field
abbrev pub form_by : ℕ → Bool → Bool → ℕ
form_by kind side branch =
    get_or (
    constant_form
    ∷ parameter_form
    ∷ variable_form
    ∷ cond side field_operator_form operator_form
    ∷ sense_form
    ∷ rep_form
    ∷ cond branch field_if_form if_form
    ∷ mux_form
    ∷ nbr_form
    ∷ range_form
    ∷ fold_form
    ∷ fold_by_form
    ∷ call_form
    ∷ lag_form
    ∷ [])
    kind
    constant_form

-- the item of a word, by what stands first in a node of the kind: no constant and no definition
abbrev pub item_in : ℕ → ℕ → ℕ
item_in lead i = get_or (0 ∷ i ∷ i ∷ i ∷ i ∷ i ∷ 0 ∷ 0 ∷ []) lead 0

abbrev pub item_by : ℕ → ℕ → ℕ
item_by kind i = item_in (lead_of kind) i

-- child j, of so many
abbrev pub kid : ℕ → ℕ → ℕ → ℕ
kid kids j k = cond (ltb j kids) k 0

pub record IsConstant (c w : ℕ) : Type 0 where
  pub is_form : form w ≡ constant_form
  pub is_number : constant_of w ≡ signed c

-- the word of a form and an item, of x's children and their count, and of a body
pub record IsParts (f i : ℕ) (x : Node) (b w : ℕ) : Type 0 where
  pub is_form : form w ≡ f
  pub is_item : item w ≡ i
  pub is_p1 : p1 w ≡ kid x.kids 0 (get_or x.children 0 0)
  pub is_p2 : p2 w ≡ kid x.kids 1 (get_or x.children 1 0)
  pub is_p3 : p3 w ≡ kid x.kids 2 (get_or x.children 2 0)
  pub is_p4 : p4 w ≡ kid x.kids 3 (get_or x.children 3 0)
  pub is_body : body w ≡ b
  pub is_count : count w ≡ x.kids

-- what has a word
pub record Fits (x : Node) : Type 0 where
  pub kids : x.kids ≤ 4
  pub item : item_by (number_of x.kind) x.item < 16

-- a node without children: its kind has none, or its definition has no parameters
pub record Childless (x : Node) : Type 0 where
  pub fits : Fits x
  pub none : x.kids ≡ 0
  pub count : ℕ
  pub kind : kids_of (number_of x.kind) count ≡ 0

pub record IsWord (x : Node) (b : ℕ) (side branch : Bool) (w : ℕ) : Type 0 where
  pub is_constant : (number_of x.kind) ≡ constant_kind → IsConstant x.constant w
  pub is_parts : ((number_of x.kind) ≡ constant_kind → ⊥) → IsParts (form_by (number_of x.kind) side branch) (item_by (number_of x.kind) x.item) x b w
