-- What a name means, as the code answers. Assumes nothing.
use Rattle.std.specs.Prelude.{◌≡◌, Bool, true, false, cond, Some, None, List, ℕ, ◌+◌, take, unwrap_or}
use Rattle.std.proofs.Common.{refl, sym}
use mathlib.Core.List.{reverse-reverse}
use Rattle.notation.specs.Words.{Word, one_of, index_of}
use Rattle.notation.proofs.Lexing.{lex}
use Rattle.translation.specs.Numbering.{parameter, variable}
use Rattle.token_scans.specs.Scan.{parameters_in, reps_in}
use Rattle.token_scans.specs.Sought.{named}
use Rattle.rep_around.specs.Meaning.{meaning_at}
use Rattle.rep_around.specs.Outward.{Outward}

module _ (e : List ℕ) (w : Word) (base : ℕ) where
  pub meant-variable : (i : ℕ) → Outward w e (Some i) → (n : ℕ) → n ≡ reps_in (lex (take i e)) → variable (base + n) ≡ meaning_at base (lex e) w
  unfolding meaning_at
  meant-variable i o n q = sym (rw (o.same, reverse-reverse (lex (take i e)), q))

  pub meant-parameter : Outward w e None → (n : ℕ) → n ≡ unwrap_or (named w (parameters_in (lex e))) 0 → parameter n ≡ meaning_at base (lex e) w
  unfolding meaning_at
  meant-parameter o n q = rw (o.same, q) (go (one_of w (parameters_in (lex e))))
    where
      go : (b : Bool) → parameter (unwrap_or (cond b (Some (index_of w (parameters_in (lex e)))) None) 0) ≡ cond b (parameter (index_of w (parameters_in (lex e)))) (parameter 0)
      go true = refl
      go false = refl
