-- What a scan of tokens finds without a stack: where each token stands, the names of definitions and parameters, how many heads have a slot or are rep.
-- bindings' `proofs/Modes.antt` proves of the tokens of a fine program that this is what the tree says.
use Rattle.std.specs.Prelude.{Bool, cond, ◌&&◌, ◌||◌, List, [], ◌∷◌, ◌++◌, ℕ, ◌+◌, eqb}
use Rattle.notation.specs.Words.{Word}
use Rattle.notation.specs.Grammar.{Token, opening, closing, word}
use Rattle.vocabulary.specs.Codes.{token_code}

-- Where the next token stands: 0 anywhere else; 1 behind an opening bracket, a head; 2 behind def, a definition's name; 3 behind that; 4 among its parameters; 5 behind rep, a name that is
-- bound; 6 behind fold-hood*, its function
unfoldable pub mode_after : ℕ → ℕ → ℕ
mode_after m t =
    cond (eqb m 0) (cond (eqb t 22) 1 0)
    (cond (eqb m 1) (cond (eqb t 9) 2 (cond (eqb t 11) 5 (cond (eqb t 17) 6 0)))
    (cond (eqb m 2) 3
    (cond (eqb m 3) 4
    (cond (eqb m 4) (cond (eqb t 23) 0 4) 0))))

-- the words that stand in one mode, in order
abbrev pub word_in : Bool → Token → List Word
word_in b opening = []
word_in b closing = []
word_in b (word w) = cond b (w ∷ []) []

unfoldable pub words_in : ℕ → ℕ → List Token → List Word
words_in k m [] = []
words_in k m (t ∷ ts) = word_in (eqb m k) t ++ words_in k (mode_after m (token_code t)) ts

-- the names of the definitions of these tokens, from the beginning of a text; the parameters of a definition, from its bracket
abbrev pub definitions_in : List Token → List Word
definitions_in ts = words_in 2 0 ts

abbrev pub parameters_in : List Token → List Word
parameters_in ts = words_in 4 0 ts

-- how many heads have a slot (nbr, nbr-range, nbr-lag: codes 14 to 16); how many are rep
unfoldable pub heads_in : (ℕ → Bool) → ℕ → List Token → ℕ
heads_in f m [] = 0
heads_in f m (t ∷ ts) = cond (eqb m 1 && f (token_code t)) 1 0 + heads_in f (mode_after m (token_code t)) ts

abbrev pub slots_in : List Token → ℕ
slots_in ts = heads_in (λ c. eqb c 14 || (eqb c 15 || eqb c 16)) 0 ts

abbrev pub reps_in : List Token → ℕ
reps_in ts = heads_in (λ c. eqb c 11) 0 ts
