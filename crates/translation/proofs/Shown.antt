-- What the examples of this crate compute with, and what shows a text's answer. Assumes nothing.
use mathlib.Core.Path.{◌≡◌, refl, sym}
use mathlib.Core.Bool.{Bool, true, false, not, cond}
use mathlib.Core.List.{List, [], ◌∷◌, ◌++◌, map}
use Prim.Native.Nat.{ℕ}
use Prim.Native.String.{String}
use lib.Dec.{eqb, ltb}
use lib.ListN.{length, drop}
use Rattle.notation.specs.Words.{ascii, every}
use Rattle.notation.specs.Grammar.{Program, program_tokens}
use Rattle.decide.proofs.Picks.{both}
use Rattle.notation.proofs.Lexing.{lex}
use Rattle.notation.proofs.Shown.{opened as notation}
use Rattle.program.proofs.Shown.{opened as program}
use Rattle.program.specs.Check.{Verdict, check}
use Rattle.translation.specs.Names.{resolves, items_resolve, parameters_good, definition_good, names_from, names_good}
use Rattle.translation.specs.Numbering.{after, after_items, operands, parts, items_parts, parameters, program_parts, program_after, table}
use Rattle.translation.specs.Reads.{compiled, Reads}
use Rattle.translation.proofs.Answered.{answers}
use Rattle.translation.proofs.Parsed.{items, program_from, program_of, fine_tree, fits, exprs, names, fine_defs, is_fine, fine-program}

unfoldable pub opened : ℕ → ℕ
unfolding notation program resolves items_resolve parameters_good definition_good names_from names_good after after_items operands parts items_parts parameters program_parts program_after
    table compiled items program_from fine_tree fits exprs names fine_defs
opened n = n

-- the program that a text's brackets make is fine, and is spelt so
abbrev pub Spelt : List ℕ → Type 0
Spelt s = (lex s ≡ program_tokens (program_of s)) × (is_fine (program_of s) ≡ true)

pub reads_as : (s out : List ℕ) → Spelt s → Reads s out (compiled (program_of s) out).0 (compiled (program_of s) out).1
reads_as s out h = answers (program_of s) (fine-program (program_of s) h.1) h.0 refl

-- ---- what is answered whatever the slice is: names and tables

-- refused as r says
abbrev pub Refused : List ℕ → Verdict → Type 0
Refused s r = (out : List ℕ) → Reads s out r out

-- its table is t: written to the start of a slice that has room, else 13
abbrev pub Gives : List ℕ → List ℕ → Type 0
Gives s t = (out : List ℕ) → Reads s out (cond (ltb (length out) (length t)) (13, 0) (0, length t)) (cond (ltb (length out) (length t)) out (t ++ drop (length t) out))

abbrev pub verdict : List ℕ → Verdict
verdict s = let p = program_of s in cond (names_good p) (check (table p)) (20, 0)

pub refuses : (s : List ℕ) (r : Verdict) → Spelt s → verdict s ≡ r → eqb r.0 0 ≡ false → Refused s r
unfolding compiled
refuses s r h e n out = answers p (fine-program p h.1) h.0 (go (names_good p) e)
  where
    p : Program
    p = program_of s

    go : (c : Bool) → cond c (check (table p)) (20, 0) ≡ r
        → ◌≡◌ {A = Verdict × List ℕ} (r, out) (cond (not c) ((20, 0), out) (cond (not (eqb (check (table p)).0 0)) (check (table p), out)
        (cond (ltb (length out) (length (table p))) ((13, 0), out) ((0, length (table p)), table p ++ drop (length (table p)) out))))
    go true e = rw (e, n)
    go false e = rw (sym e)

pub gives : (s t : List ℕ) → Spelt s → names_good (program_of s) ≡ true → table (program_of s) ≡ t → check t ≡ (0, 0) → Gives s t
unfolding compiled
gives s t h n f e out = answers (program_of s) (fine-program (program_of s) h.1) h.0 (rw (n, f) (go (ltb (length out) (length t)) e))
  where
    go : (c : Bool) → check t ≡ (0, 0) → ◌≡◌ {A = Verdict × List ℕ} (cond c (13, 0) (0, length t), cond c out (t ++ drop (length t) out))
        (cond (not (eqb (check t).0 0)) (check t, out) (cond c ((13, 0), out) ((0, length t), t ++ drop (length t) out)))
    go true e = rw e
    go false e = rw e

-- ---- several at once
pub data Each (P : List ℕ → Type 0) : List String → Type 0 where
  none : Each P []
  more : {s : String} {l : List String} → P (ascii s) → Each P l → Each P (s ∷ l)

abbrev AllSpelt : List String → Type 0
AllSpelt l = (map (λ s. lex (ascii s)) l ≡ map (λ s. program_tokens (program_of (ascii s))) l) × (every (λ s. is_fine (program_of (ascii s))) l ≡ true)

abbrev pub AllRefused : List String → Verdict → Type 0
AllRefused l r = Each (λ s. Refused s r) l

pub all-refused : (l : List String) (r : Verdict) → AllSpelt l → map (λ s. verdict (ascii s)) l ≡ map (λ s. r) l → eqb r.0 0 ≡ false → AllRefused l r
all-refused [] r h e n = none
all-refused (s ∷ l) r h e n =
    let t = h.0 in
    let f = both (is_fine (program_of (ascii s))) (every (λ s. is_fine (program_of (ascii s))) l) h.1 in
    more (refuses (ascii s) r ((cc), f.0) (cc) n) (all-refused l r ((cc), f.1) (cc) n)

-- accepted: by the table that its program has
abbrev pub AllAccepted : List String → Type 0
AllAccepted l = Each (λ s. Gives s (table (program_of s))) l

pub all-accepted : (l : List String) → AllSpelt l → every (λ s. names_good (program_of (ascii s))) l ≡ true → map (λ s. check (table (program_of (ascii s)))) l ≡ map (λ s. (0, 0)) l → AllAccepted l
all-accepted [] h n e = none
all-accepted (s ∷ l) h n e =
    let t = h.0 in
    let f = both (is_fine (program_of (ascii s))) (every (λ s. is_fine (program_of (ascii s))) l) h.1 in
    let g = both (names_good (program_of (ascii s))) (every (λ s. names_good (program_of (ascii s))) l) n in
    more (gives (ascii s) (table (program_of (ascii s))) ((cc), f.0) g.0 refl (cc)) (all-accepted l ((cc), f.1) g.1 (cc))
