-- Bytes and words, texts and beginnings, on a few bytes. Assumes nothing.
use mathlib.Core.Path.{◌≡◌, refl}
use mathlib.Core.List.{List, [], ◌∷◌, ◌++◌, map}
use Prim.Native.Nat.{ℕ, zero, suc, ◌≤◌}
use native.Mathlib.Omega.{arith}
use lib.ListN.{replicate, take}
use Rattle.notation.specs.Words.{ascii}
use Rattle.notation.specs.Grammar.{Token, opening, closing, word, Tree, leaf, form, nil, Def, Program, tokens, defs_tokens, program_tokens}
use Rattle.notation.specs.Text.{blank_byte, left, right, word_byte, byte_kind, Apart, Spaced, over, blank, enter, leave, spell, Text, Begins, Longest}
use Rattle.notation.proofs.Lexing.{lex}
use Rattle.notation.proofs.Shown.{opened}

-- "Spaces, line ends (bytes 10, 13) and brackets part words."
parting : map byte_kind (32 ∷ 10 ∷ 13 ∷ 40 ∷ 41 ∷ []) ≡ blank_byte ∷ blank_byte ∷ blank_byte ∷ left ∷ right ∷ []
unfolding opened
parting = refl

-- what stands beside them, a tab, and any other byte is part of a word
no-parting : map byte_kind (0 ∷ 9 ∷ 11 ∷ 12 ∷ 14 ∷ 31 ∷ 33 ∷ 39 ∷ 42 ∷ 48 ∷ 91 ∷ 97 ∷ 123 ∷ 127 ∷ 160 ∷ 255 ∷ []) ≡ replicate 16 word_byte
unfolding opened
no-parting = refl

-- a word goes as far as it can
without-blanks : lex (ascii "(def f()1)2")
    ≡ opening ∷ word (ascii "def") ∷ word (ascii "f") ∷ opening ∷ closing ∷ word (ascii "1") ∷ closing ∷ word (ascii "2") ∷ []
unfolding opened
without-blanks = refl

blanks-part : (lex (ascii "1 2\r3\n4\r\n") ≡ word (ascii "1") ∷ word (ascii "2") ∷ word (ascii "3") ∷ word (ascii "4") ∷ []) × (lex (ascii "+12\t3") ≡ word (ascii "+12\t3") ∷ [])
    × (lex (ascii " \n\r") ≡ [])
unfolding opened
blanks-part = (refl, refl, refl)

laid-alike : lex (ascii "(+ 1 (f 2))") ≡ lex (ascii "\n( +\r1(f  2 ) )\r\n")
unfolding opened
laid-alike = refl

-- the same by the definition: "( f)\n"
laid : Spaced (opening ∷ word (ascii "f") ∷ closing ∷ []) (ascii "( f)\n")
unfolding opened
laid =
    enter 40 refl
    (blank 32 refl
    (spell {s = ascii ")\n"} 102 [] (refl, tt) (λ q. let z : ◌≡◌ {A = ℕ} 0 1 = cc in omega arith)
    (leave 41 refl (blank 10 refl over))))

two-words : Spaced (word (ascii "ab") ∷ word (ascii "c") ∷ []) (ascii "ab c")
unfolding opened
two-words = spell {s = ascii " c"} 97 (ascii "b") (refl, (refl, tt)) (λ q. let z : ◌≡◌ {A = ℕ} 0 1 = cc in omega arith) (blank 32 refl (spell 99 [] (refl, tt) tt over))

-- a word does not end where another byte of it follows
apart : (Apart (ascii "b") → ⊥) × (Apart (ascii "\t") → ⊥) × Apart []
unfolding opened
apart = (λ h. h refl, λ h. h refl, tt)

-- "1" and "(f)" are texts
abbrev one : Program
one = record { defs = []; main = leaf (ascii "1") }

abbrev called : Program
called = record { defs = []; main = form (ascii "f") nil }

text-one : Text (ascii "1")
unfolding opened
text-one = record { program = one; fine = record { definitions = tt; main = refl }; laid = spell 49 [] (refl, tt) tt over }

text-called : Text (ascii "(f)")
unfolding opened
text-called = record {
  program = called;
  fine = record { definitions = tt; main = tt };
  laid = enter 40 refl (spell {s = ascii ")"} 102 [] (refl, tt) (λ q. let z : ◌≡◌ {A = ℕ} 0 1 = cc in omega arith) (leave 41 refl over));
}

-- "the length of the longest beginning it shares with a text of the grammar": one that is a beginning gets its whole length, and no other
whole : Longest (ascii "1") 1
whole = record { within = omega arith; begins = record { rest = []; text = text-one }; longest = λ j h b. h }

half : Longest (ascii "(f") 2
half = record { within = omega arith; begins = record { rest = ascii ")"; text = text-called }; longest = λ j h b. h }

empty : Longest [] 0
empty = record { within = omega arith; begins = record { rest = ascii "1"; text = text-one }; longest = λ j h b. h }

not-shorter : (Longest (ascii "1") 0 → ⊥) × (Longest (ascii "(f") 1 → ⊥)
not-shorter = (
  λ l. let h : 1 ≤ 0 = l.longest 1 (omega arith) (record { rest = []; text = text-one }) in omega arith,
  λ l. let h : 2 ≤ 1 = l.longest 2 (omega arith) (record { rest = ascii ")"; text = text-called }) in omega arith,
)

-- no text begins with a closing bracket
no-closing : (ds : List Def) (t : Tree) (ts : List Token) → defs_tokens ds ++ tokens t ≡ closing ∷ ts → ⊥
unfolding opened
no-closing [] (leaf w) ts q = let z : ◌≡◌ {A = ℕ} 0 1 = cc in omega arith
no-closing [] (form h is) ts q = let z : ◌≡◌ {A = ℕ} 0 1 = cc in omega arith
no-closing (d ∷ ds) t ts q = let z : ◌≡◌ {A = ℕ} 0 1 = cc in omega arith

closed : (p : Program) (ts : List Token) (s : List ℕ) → Spaced ts (41 ∷ s) → program_tokens p ≡ ts → ⊥
unfolding opened
closed p ts s (blank b e r) q = let z : ◌≡◌ {A = ℕ} 0 1 = cc in omega arith
closed p ts s (enter b e r) q = let z : ◌≡◌ {A = ℕ} 0 1 = cc in omega arith
closed p ts s (leave b e r) q = no-closing p.defs p.main _ q
closed p ts s (spell b w h a r) q = let e = h.0 in let z : ◌≡◌ {A = ℕ} 0 1 = cc in omega arith

nothing-shared : Longest (ascii ")") 0
nothing-shared = record { within = omega arith; begins = record { rest = ascii "1"; text = text-one }; longest = longest }
  where
    longest : (j : ℕ) → j ≤ 1 → Begins (take j (ascii ")")) → j ≤ 0
    longest zero h b = omega arith
    longest (suc j) h b = absurd (closed b.text.program _ (take j [] ++ b.rest) b.text.laid refl)

-- nor a place behind it: the closing bracket is not shared, and a place is within the bytes
not-longer : (Longest (ascii ")") 1 → ⊥) × (Longest (ascii "1") 2 → ⊥)
not-longer = (
  λ l. closed l.begins.text.program _ l.begins.rest l.begins.text.laid refl,
  λ l. let h : 2 ≤ 1 = l.within in omega arith,
)
