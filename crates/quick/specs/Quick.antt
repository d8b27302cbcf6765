-- A table of words with quick forms: every node's tree is what it was. Internal: no contract of a C function cites it. Definitions only: nothing is assumed.
use Rattle.std.specs.Prelude.{◌≡◌, List, ℕ, ◌+◌, ◌-◌, ◌<◌}
use Rattle.program.specs.Table.{node_limit}
use Rattle.words.specs.Form.{parameter_form, operator_form, fold_by_form, least_form, pair_form, leaf_forms, number_forms}
use Rattle.words.specs.Word.{form, item, p1, p2, p3, body, word}
use Rattle.words.specs.Trees.{tree_at}
use Rattle.words.specs.Sound.{Least, AllSorted}

-- node n has form f and item i
abbrev pub Is : List ℕ → ℕ → ℕ → ℕ → Type 0
Is ws n f i = (form (word ws n) ≡ f) × (item (word ws n) ≡ i)

-- the operator <
abbrev pub less : ℕ
less = 4

-- the parts of `(if (< a b) a b)` of parameters p and q at node n
pub record Picks (ws : List ℕ) (n p q : ℕ) : Type 0 where
  pub condition : Is ws (p1 (word ws n)) pair_form less
  pub left : Is ws (p1 (word ws (p1 (word ws n)))) parameter_form p
  pub right : Is ws (p2 (word ws (p1 (word ws n)))) parameter_form q
  pub here : Is ws (p2 (word ws n)) parameter_form p
  pub there : Is ws (p3 (word ws n)) parameter_form q

-- what a word grows by where its form changes
abbrev pub to_pair : ℕ
to_pair = pair_form - operator_form

abbrev pub to_least : ℕ
to_least = least_form - fold_by_form

-- r is node n's word, or that with the quick form it may have
pub data Quick (ws : List ℕ) (n r : ℕ) : Type 0 where
  stays : r ≡ word ws n → Quick ws n r
  to-pair : form (word ws n) ≡ operator_form → form (word ws (p1 (word ws n))) < leaf_forms → form (word ws (p2 (word ws n))) < leaf_forms → r ≡ word ws n + to_pair → Quick ws n r
  to-least : form (word ws n) ≡ fold_by_form → Least (tree_at ws (body (word ws n))) → r ≡ word ws n + to_least → Quick ws n r

pub record Quickened (ws ws' : List ℕ) : Type 0 where
  pub trees : (n : ℕ) → n < node_limit → tree_at ws' n ≡ tree_at ws n
  pub sorted : AllSorted ws'
  pub number : (n : ℕ) → n < node_limit → form (word ws n) < number_forms → form (word ws' n) < number_forms
