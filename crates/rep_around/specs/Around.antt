-- Which rep binds a name, from the tokens before it. bindings' `proofs/Around.antt` proves of the tokens of a fine program that this is what the tree says.
use Rattle.std.specs.Prelude.{cond, ◌&&◌, List, [], ◌∷◌, ℕ, zero, suc, eqb}
use Rattle.std.proofs.Math.Option.{Option, none, some}
use Rattle.notation.specs.Words.{Word, same_word, the_rep}
use Rattle.notation.specs.Grammar.{Token, opening, closing, word}

-- Outwards from an expression, over the tokens before it, the last first: the rep that binds w for it, as what is left before its bracket. n is how many brackets are still to be opened
-- that were closed on the way, k how many items of the form around it were passed, u and v the last word that was passed in it and the one before that (behind it in the text).
-- A rep binds where three items were passed: rep, its name and its initial part
unfoldable pub rep_around : Word → ℕ → ℕ → Word → Word → List Token → Option (List Token)
rep_around w n k u v [] = none
rep_around w zero k u v (closing ∷ ts) = rep_around w 1 (suc k) u v ts
rep_around w (suc n) k u v (closing ∷ ts) = rep_around w (suc (suc n)) k u v ts
rep_around w zero k u v (opening ∷ ts) =
    cond (eqb k 3 && (same_word u the_rep && same_word v w)) (some ts) (rep_around w 0 0 [] [] ts)
rep_around w (suc n) k u v (opening ∷ ts) = rep_around w n k u v ts
rep_around w zero k u v (word x ∷ ts) = rep_around w 0 (suc k) x u ts
rep_around w (suc n) k u v (word x ∷ ts) = rep_around w (suc n) k u v ts
