-- What reading a text answers and leaves in the slice, and in which order it refuses, by computation. Assumes nothing.
use mathlib.Core.Path.{◌≡◌, refl, sym, ap, ◌∙◌}
use mathlib.Core.Bool.{Bool, true}
use mathlib.Core.List.{List, [], ◌∷◌, ◌++◌}
use Prim.Native.Nat.{ℕ}
use native.Mathlib.Omega.{arith}
use lib.ListN.{replicate}
use Rattle.notation.specs.Words.{ascii}
use Rattle.notation.specs.Grammar.{leaf, Program, program_tokens}
use Rattle.notation.specs.Text.{Longest, spell, over}
use Rattle.decide.proofs.Picks.{not-both}
use Rattle.notation.proofs.Lexing.{lex, spaced-exactly}
use Rattle.notation.proofs.Unique.{one-program}
use Rattle.notation.proofs.Shown.{outside-longest}
use Rattle.program.specs.Check.{Verdict, check}
use Rattle.translation.specs.Names.{names_good}
use Rattle.translation.specs.Numbering.{table}
use Rattle.translation.specs.Accepted.{Accepted}
use Rattle.translation.specs.Reads.{compiled, Reads}
use Rattle.translation.proofs.Answered.{refused}
use Rattle.translation.proofs.Parsed.{program_of, is_fine, fine-program}
use Rattle.translation.proofs.Shown.{opened, reads_as}

-- the table of the text "1", twelve bytes
abbrev one : List ℕ
one = 0x01 ∷ 0x00 ∷ 0x05 ∷ 0x00 ∷ 0x00 ∷ 0x00 ∷ 0x00 ∷ 0x01 ∷ 0x03 ∷ 0x00 ∷ 0x01 ∷ 0x00 ∷ []

-- "the table starts a lent slice, its length is the place, the rest stays": exact room, and more
written : Reads (ascii "1") (replicate 12 9) (0, 12) one × Reads (ascii "1") (replicate 15 9) (0, 12) (one ++ 9 ∷ 9 ∷ 9 ∷ [])
unfolding opened
written = (reads_as _ _ (refl, refl), reads_as _ _ (refl, refl))

-- "one too short gets 13": one byte short, the empty slice. The room is the table's, whatever the text's length (L4.14)
too_short : Reads (ascii "1") (replicate 11 9) (13, 0) (replicate 11 9) × Reads (ascii "1") [] (13, 0) [] × Reads (ascii "     00000000000000001     ") (replicate 12 9) (0, 12) one
unfolding opened
too_short = (reads_as _ _ (refl, refl), reads_as _ _ (refl, refl), reads_as _ _ (refl, refl))

-- "13, last": after 20 and after the table's refusals; "No refusal writes"
last : Reads (ascii "x") [] (20, 0) [] × Reads (ascii "(nbr 1)") [] (7, 1) [] × Reads (ascii "x") (replicate 40 9) (20, 0) (replicate 40 9)
    × Reads (ascii "(nbr 1)") (replicate 40 9) (7, 1) (replicate 40 9)
unfolding opened
last = (reads_as _ _ (refl, refl), reads_as _ _ (refl, refl), reads_as _ _ (refl, refl), reads_as _ _ (refl, refl))

-- "Text outside the grammar gets 19 with the length of the longest beginning it shares with a text of the grammar, .. name 20, in that order"
outside : Reads [] [] (19, 0) [] × Reads (ascii "(def f () 1)") (9 ∷ []) (19, 12) (9 ∷ []) × Reads (ascii "(def if () y) (+ x)") [] (19, 18) []
unfolding opened
outside = (
  refused (λ q. let z : ◌≡◌ {A = ℕ} 0 1 = cc in omega arith),
  refused (λ q. let z : ◌≡◌ {A = ℕ} 0 1 = cc in omega arith),
  refused (λ q. let z : ◌≡◌ {A = ℕ} 0 1 = cc in omega arith),
)

-- what the contract says, taken as it stands: of the text "1", and of bytes outside the grammar
of-a-text : (r : Verdict) (out out' : List ℕ) → Reads (ascii "1") out r out' → (r, out') ≡ compiled (record { defs = []; main = leaf (ascii "1") }) out
unfolding opened
of-a-text r out out' h = h.spelt (record { defs = []; main = leaf (ascii "1") }) (record { definitions = tt; main = refl }) (spell 49 [] (refl, tt) tt over)

of-no-text : (r : Verdict) (out out' : List ℕ) → Reads (ascii "(1") out r out' → (r.0 ≡ 19) × Longest (ascii "(1") r.1 × (out' ≡ out)
unfolding opened
of-no-text r out out' h = h.unspelt (outside-longest (ascii "(1") 1 refl).0

-- "Text is accepted exactly when it is in the grammar, its names resolve .., and the resulting table passes the check"
accepted : Accepted (ascii "(def f (a) a) (f 1)")
unfolding opened
accepted =
    let s : List ℕ = ascii "(def f (a) a) (f 1)" in
    record { program = program_of s; fine = fine-program (program_of s) refl; laid = (spaced-exactly (program_tokens (program_of s)) s).1 refl; names = refl; passes = refl }

-- not where it is outside the grammar, a name does not resolve, is reserved or repeated, or the table is refused; the second, fourth and fifth have a table that passes
not-accepted : (Accepted (ascii "(1") → ⊥) × (Accepted (ascii "(rep + 0 0)") → ⊥) × (Accepted (ascii "x") → ⊥) × (Accepted (ascii "(def if () 1) 1") → ⊥)
    × (Accepted (ascii "(def f () 1) (def f () 1) 1") → ⊥) × (Accepted (ascii "(nbr 1)") → ⊥)
unfolding opened
not-accepted = (
  λ a. (outside-longest (ascii "(1") 1 refl).0 (record { program = a.program; fine = a.fine; laid = a.laid }),
  λ a. (outside-longest (ascii "(rep + 0 0)") 5 refl).0 (record { program = a.program; fine = a.fine; laid = a.laid }),
  λ a. not-both (sym a.names ∙ ap names_good (same (ascii "x") a refl refl)),
  λ a. not-both (sym a.names ∙ ap names_good (same (ascii "(def if () 1) 1") a refl refl)),
  λ a. not-both (sym a.names ∙ ap names_good (same (ascii "(def f () 1) (def f () 1) 1") a refl refl)),
  λ a. let e = sym a.passes ∙ ap (λ (p : Program). (check (table p)).0) (same (ascii "(nbr 1)") a refl refl) in omega (arith, e),
)
  where
    same : (s : List ℕ) (a : Accepted s) → lex s ≡ program_tokens (program_of s) → is_fine (program_of s) ≡ true → a.program ≡ program_of s
    same s a e f =
        one-program a.program (program_of s) a.fine (fine-program (program_of s) f) (sym ((spaced-exactly (program_tokens a.program) s).0 a.laid) ∙ e)
