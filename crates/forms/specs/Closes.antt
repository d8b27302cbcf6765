-- What the scan back from a closing bracket answers.
use Rattle.std.specs.Prelude.{◌≡◌, Bool, false, Option, Some, None, List, [], reverse, ℕ, ◌≤◌, eqb, length, take}
use Rattle.std.proofs.Math.Option.{none, some}
use Rattle.std.proofs.Math.Option as maybe
use Rattle.notation.proofs.Lexing.{lex}
use Rattle.lexemes.specs.declared.Kind.{Kind}
use Rattle.lexemes.specs.declared.Kind.TheVariants.{Opening, Closing, Word as AWord}
use Rattle.rep_around.specs.Outward.{Passed}
use Rattle.tabling.specs.Emit.{Around, around}
use Rattle.forms.specs.declared.Form.{Form}

-- whether a token of that kind opens the form of a walk
abbrev pub opens : Kind → Passed → Bool
opens Opening x = eqb x.depth 0
opens Closing x = false
opens AWord x = false

-- a form that was found in the bytes e, as `around` has it
abbrev pub form_in : List ℕ → Option Form → maybe.Option Around
form_in e None = none
form_in e (Some f) = some (record { rest = reverse (lex (take f.«open» e)); items = f.items; head = f.head.now; second = f.second.now })

-- its numbers are small
abbrev pub within : List ℕ → Option Form → Type 0
within e None = Unit {0}
within e (Some f) = (f.«open» ≤ length e) × (f.items ≤ length e)

-- the form around the end of the bytes e of a top-level form
pub record Closes (e : List ℕ) (r : Option Form) : Type 0 where
  pub inside : within e r
  pub same : around 0 0 [] [] (reverse (lex e)) ≡ form_in e r
