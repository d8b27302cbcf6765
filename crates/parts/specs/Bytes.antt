-- The bytes of the parts that a text's words and forms give. Definitions only: nothing is assumed.
use Rattle.std.specs.Prelude.{List, ℕ}
use Rattle.notation.specs.Words.{Word, head_of}
use Rattle.notation.specs.Grammar.{nil, bare}
use Rattle.notation.proofs.Lexing.{lex}
use Rattle.translation.specs.Numbering.{form_part}
use Rattle.token_scans.specs.Scan.{definitions_in}
use Rattle.tabling.specs.Emit.{word_part, given_in}
use Rattle.tabling.specs.Fields.{flat_bytes}

-- the word w: earlier is the text before its top-level form, form the bytes of that before the word
abbrev pub word_bytes : List ℕ → List ℕ → Word → List ℕ
word_bytes earlier form w = flat_bytes (word_part (lex earlier) (lex form) w)

-- a form with that head, the word behind it and the operands ns; before is the text before its bracket
abbrev pub form_bytes : List ℕ → List ℕ → Word → Word → List ℕ → List ℕ
form_bytes earlier before head second ns =
    flat_bytes (form_part (definitions_in (lex earlier)) (given_in (lex before)) head (bare second nil) ns (head_of head))
