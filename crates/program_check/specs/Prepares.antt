-- The contracts of `examine` and `prepare`. Definitions only: nothing is assumed.
use Rattle.std.specs.Prelude.{◌≡◌, List, ℕ, ◌≤◌, ◌<◌, length, Result, Ok, Err}
use Rattle.program.specs.Table.{node_limit}
use Rattle.program.specs.Check.{check, main_of}
use Rattle.words.specs.Form.{number_forms}
use Rattle.words.specs.Word.{form, word}
use Rattle.words.specs.Trees.{tree_at}
use Rattle.words.specs.Sound.{AllSorted, Sound}
use Rattle.operands.specs.Formed.{AllFormed, Empty}
use Rattle.program_check.specs.declared.Checked.{Checked}
use Rattle.verdict.specs.declared.Refusal.{Refusal}
use Rattle.verdict.specs.Outcome.{refusal_at}

-- the words of a program s that passes the check, with n nodes and this main node
pub record Accepted (s ws : List ℕ) (n main : ℕ) : Type 0 where
  pub few : n ≤ node_limit
  pub long : length ws ≡ node_limit
  pub formed : AllFormed ws
  pub empty : Empty ws n
  pub sorted : AllSorted ws
  pub inside : main < node_limit
  pub number : form (word ws main) < number_forms
  pub tree : tree_at ws main ≡ main_of s

-- r is what the check of s comes to: where it passes, its main node, and how many nodes there are
abbrev pub Checks : List ℕ → Result Checked Refusal → List ℕ → Type 0
Checks s (Ok c) ws = (check s ≡ (0, 0)) × Accepted s ws c.n c.main
Checks s (Err e) ws = check s ≡ refusal_at e

-- the words and masks of an accepted program s, whose main node is main, are what a round requires
pub record Ready (s ws us : List ℕ) (main : ℕ) : Type 0 where
  pub sound : Sound ws us
  pub inside : main < node_limit
  pub number : form (word ws main) < number_forms
  pub tree : tree_at ws main ≡ main_of s

-- r is the main node of an accepted program s, or its refusal
abbrev pub Prepares : List ℕ → Result ℕ Refusal → List ℕ → List ℕ → Type 0
Prepares s (Ok main) ws us = (check s ≡ (0, 0)) × Ready s ws us main
Prepares s (Err e) ws us = check s ≡ refusal_at e
