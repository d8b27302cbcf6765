-- The rep around an expression of a short text, by computation. Assumes nothing.
use mathlib.Core.Path.{◌≡◌, refl}
use mathlib.Core.List.{[], reverse}
use mathlib.Core.Option.{none, some}
use Rattle.notation.specs.Words.{ascii}
use Rattle.notation.specs.Text.{byte_kind}
use Rattle.notation.proofs.Lexing.{lex}
use Rattle.rep_around.specs.Around.{rep_around}

-- a rep binds in its update, not in its initial part
bound-shown : (rep_around (ascii "a") 0 0 [] [] (reverse (lex (ascii "(+ 1 (rep a (+ 1 2) (sense"))) ≡ some (reverse (lex (ascii "(+ 1"))))
    × (rep_around (ascii "a") 0 0 [] [] (reverse (lex (ascii "(+ 1 (rep a (sense"))) ≡ none)
unfolding rep_around byte_kind
bound-shown = (refl, refl)
