-- What a name stands for, from the tokens before it. bindings' `proofs/Meanings.antt` proves that this is what translation's specs/Numbering looks up in the tree's scope.
use Rattle.std.specs.Prelude.{cond, List, [], reverse, ℕ, ◌+◌}
use Rattle.std.proofs.Math.Option.{Option, none, some}
use Rattle.notation.specs.Words.{Word, one_of, index_of}
use Rattle.notation.specs.Grammar.{Token}
use Rattle.translation.specs.Numbering.{Meaning, parameter, variable}
use Rattle.token_scans.specs.Scan.{parameters_in, reps_in}
use Rattle.rep_around.specs.Around.{rep_around}

-- a rep's variable: base were given out before the top-level form, then one for each rep before its bracket
abbrev pub by_rep : ℕ → Option (List Token) → Meaning → Meaning
by_rep base none other = other
by_rep base (some rest) other = variable (base + reps_in (reverse rest))

abbrev pub by_parameter : List Word → Word → Meaning
by_parameter ps w = cond (one_of w ps) (parameter (index_of w ps)) (parameter 0)

-- before are the tokens of the top-level form in front of the name
unfoldable pub meaning_at : ℕ → List Token → Word → Meaning
meaning_at base before w = by_rep base (rep_around w 0 0 [] [] (reverse before)) (by_parameter (parameters_in before) w)
