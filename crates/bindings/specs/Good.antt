-- Refusal 20 as one pass over the tokens: what each word needs of the tokens before it. `proofs/Names.antt` proves that this is what translation's specs/Names says of the tree.
use Rattle.std.specs.Prelude.{Bool, true, false, not, cond, ◌&&◌, ◌||◌, List, [], ◌∷◌, ◌++◌, reverse, ℕ, zero, suc, eqb}
use Rattle.std.proofs.Math.Option.{Option, none, some}
use Rattle.notation.specs.Words.{Word, one_of, own_name, is_number}
use Rattle.notation.specs.Grammar.{Token, opening, closing, word}
use Rattle.translation.specs.Names.{known}
use Rattle.lexemes.specs.Lexeme.{depth_after}
use Rattle.vocabulary.specs.Codes.{token_code}
use Rattle.token_scans.specs.Scan.{mode_after, definitions_in, parameters_in}
use Rattle.rep_around.specs.Around.{rep_around}

abbrev pub is_some {ℓ} : {A : Type ℓ} → Option A → Bool
is_some none = false
is_some (some a) = true

-- a word in a mode: ds are the definitions before its top-level form, before the tokens of that form in front of it
unfoldable pub word_good : List Word → List Token → ℕ → Word → Bool
word_good ds before m w =
    cond (eqb m 0) (is_number w || (is_some (rep_around w 0 0 [] [] (reverse before)) || one_of w (parameters_in before)))
    (cond (eqb m 1 || eqb m 6) (known ds w)
    (cond (eqb m 2) (own_name w && not (one_of w ds))
    (cond (eqb m 4) (own_name w && not (one_of w (parameters_in before)))
    (cond (eqb m 5) (own_name w) true))))

abbrev pub token_good : List Word → List Token → ℕ → Token → Bool
token_good ds before m opening = true
token_good ds before m closing = true
token_good ds before m (word w) = word_good ds before m w

-- The pass: earlier are the tokens before the top-level form, before those of the form so far, d the brackets that are open, m the mode. Where none is open a form begins
unfoldable pub names_pass : (earlier before : List Token) (d m : ℕ) → List Token → Bool
names_pass earlier before d m [] = true
names_pass earlier before zero m (t ∷ ts) =
    token_good (definitions_in (earlier ++ before)) [] m t && names_pass (earlier ++ before) (t ∷ []) (depth_after 0 t) (mode_after m (token_code t)) ts
names_pass earlier before (suc d) m (t ∷ ts) =
    token_good (definitions_in earlier) before m t && names_pass earlier (before ++ t ∷ []) (depth_after (suc d) t) (mode_after m (token_code t)) ts
