-- What the scans of a text answer.
use Rattle.std.specs.Prelude.{cond, Bool, Option, Some, None, List, [], ◌∷◌, ℕ, ◌+◌}
use Rattle.notation.specs.Words.{Word, one_of, index_of}
use Rattle.notation.specs.Grammar.{Token}
use Rattle.vocabulary.specs.Codes.{token_code}
use Rattle.token_scans.specs.declared.Mode.{Mode}
use Rattle.token_scans.specs.declared.Mode.TheVariants.{Elsewhere, Head, DefinitionName, BeforeParameters, Parameters, BoundName, FoldFunction}
use Rattle.token_scans.specs.Scan.{mode_after}

-- the number of a mode
abbrev pub number_of : Mode → ℕ
number_of Elsewhere = 0
number_of Head = 1
number_of DefinitionName = 2
number_of BeforeParameters = 3
number_of Parameters = 4
number_of BoundName = 5
number_of FoldFunction = 6

-- where a word stands among others, if it does
abbrev pub named : Word → List Word → Option ℕ
named w ws = cond (one_of w ws) (Some (index_of w ws)) None

-- how many tokens pass a test of their mode and their code, from the mode m on
unfoldable pub counted : (ℕ → ℕ → Bool) → ℕ → List Token → ℕ
counted f m [] = 0
counted f m (t ∷ ts) = cond (f m (token_code t)) 1 0 + counted f (mode_after m (token_code t)) ts
