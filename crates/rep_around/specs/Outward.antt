-- What the walk outwards answers, and one token of it.
use Rattle.std.specs.Prelude.{◌≡◌, Bool, false, cond, ◌&&◌, Option, None, Some, List, [], reverse, ℕ, ◌+◌, ◌-◌, ◌≤◌, eqb, length, take}
use Rattle.std.proofs.Math.Option.{none, some}
use Rattle.notation.specs.Words.{Word, same_word, the_rep}
use Rattle.notation.specs.Grammar.{Token}
use Rattle.notation.proofs.Lexing.{lex}
use Rattle.lexemes.specs.declared.Kind.{Kind}
use Rattle.lexemes.specs.declared.Kind.TheVariants.{Opening, Closing, Word as AWord}
use Rattle.translation.specs.Numbering.{Meaning, parameter, variable}
use Rattle.rep_around.specs.declared.Meant.{Meant}
use Rattle.rep_around.specs.declared.Meant.TheVariants.{Variable, Parameter}
use Rattle.rep_around.specs.declared.Walk.{Walk}
use Rattle.rep_around.specs.Around.{rep_around}

-- the tokens before the bracket of a rep, where it was found in the bytes e, the last first
abbrev pub before_rep : List ℕ → Option ℕ → Rattle.std.proofs.Math.Option.Option (List Token)
before_rep e None = none
before_rep e (Some n) = some (reverse (lex (take n e)))

-- the rep that binds a word behind the bytes e: how many of them stand before its bracket
abbrev pub within : Option ℕ → ℕ → Type 0
within None n = Unit {0}
within (Some i) n = i ≤ n

pub record Outward (w : Word) (e : List ℕ) (r : Option ℕ) : Type 0 where
  pub inside : within r (length e)
  pub same : rep_around w 0 0 [] [] (reverse (lex e)) ≡ before_rep e r

-- what a walk has passed, as `rep_around` has it
pub record Passed : Type 0 where
  pub depth : ℕ
  pub items : ℕ
  pub last : Word
  pub prior : Word

abbrev pub passed_by : Walk → Passed
passed_by x = record { depth = x.depth; items = x.items; last = x.last.now; prior = x.prior.now }

-- whether a token of that kind opens the rep that binds w, at a place of the walk outwards
abbrev pub binds_here : Word → Kind → Passed → Bool
binds_here w Opening x = eqb x.depth 0 && (eqb x.items 3 && (same_word x.last the_rep && same_word x.prior w))
binds_here w Closing x = false
binds_here w AWord x = false

abbrev pub at_first : Passed
at_first = record { depth = 0; items = 0; last = []; prior = [] }

-- one token further out: a bracket opens or closes, or it is a word
abbrev pub stepped : Kind → Word → Passed → Passed
stepped Opening w x = cond (eqb x.depth 0) at_first (record { depth = x.depth - 1; items = x.items; last = x.last; prior = x.prior })
stepped Closing w x = record { depth = x.depth + 1; items = cond (eqb x.depth 0) (x.items + 1) x.items; last = x.last; prior = x.prior }
stepped AWord w x = cond (eqb x.depth 0) (record { depth = 0; items = x.items + 1; last = w; prior = x.last }) x

-- what a name means, as the code answers
abbrev pub meant_of : Meant → Meaning
meant_of (Variable n) = variable n
meant_of (Parameter n) = parameter n
