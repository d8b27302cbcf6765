-- Each answer of the reader is the one that the definitions give. Assumes nothing.
use mathlib.Core.Path.{◌≡◌, refl, sym, ap, ◌∙◌}
use mathlib.Core.Bool.{Bool, true, false}
use mathlib.Core.List.{List, [], ◌∷◌, ◌++◌}
use mathlib.Core.Option.{Option, none, some}
use Prim.Native.Nat.{ℕ, ◌≤◌, ◌<◌}
use native.Mathlib.Omega.{arith}
use lib.Dec.{eqb, ltb}
use lib.ListN.{length, drop}
use borrow.Author.Tests.{ne_eqb, lt-ltb, le-ltb}
use Rattle.std.specs.Prelude.{Result, Ok, Err}
use Rattle.program.specs.Check.{Verdict, check}
use Rattle.notation.specs.Grammar.{Program, program_tokens, FineProgram}
use Rattle.notation.specs.Text.{Spaced, Text}
use Rattle.decide.proofs.Picks.{not-both}
use Rattle.notation.proofs.Machine.{Symbol, run, start as outset, programs-exactly}
use Rattle.notation.proofs.Lexing.{lex, spaced-exactly}
use Rattle.notation.proofs.Place.{place, texts-exactly, place-longest}
use Rattle.translation.specs.Names.{names_good}
use Rattle.translation.specs.Numbering.{table}
use Rattle.translation.specs.Reads.{compiled, Reads}
use Rattle.verdict.specs.declared.Reason.{Reason}
use Rattle.verdict.specs.declared.Reason.TheVariants.{BadField, TooMany, OutOfRange, NotGiven, Taken, BadEnd, WrongSort, Misread, Misused, TooCostly, Unsound, BadList, ShortSpace, BadItem, Itself, NothingPending}
use Rattle.verdict.specs.declared.Reason.TheVariants.{DividedByZero, BadFile, Outside, BadName}
use Rattle.verdict.specs.declared.Refusal.{Refusal}
use Rattle.verdict.specs.Outcome.{number_of, refusal_at}
use Rattle.parse.specs.Passed.{ends}
use Rattle.bindings.specs.Good.{names_pass}
use Rattle.bindings.proofs.Names.{names-exactly}

-- ---- the answers in their order
by_names : (p : Program) (out : List ℕ) → names_good p ≡ false → compiled p out ≡ ((20, 0), out)
unfolding compiled
by_names p out e = rw e

by-check : (p : Program) (out : List ℕ) → names_good p ≡ true → eqb (check (table p)).0 0 ≡ false → compiled p out ≡ (check (table p), out)
unfolding compiled
by-check p out e c = rw (e, c)

by-room : (p : Program) (out : List ℕ) → names_good p ≡ true → eqb (check (table p)).0 0 ≡ true → ltb (length out) (length (table p)) ≡ true → compiled p out ≡ ((13, 0), out)
unfolding compiled
by-room p out e c l = rw (e, c, l)

by_written : (p : Program) (out : List ℕ) → names_good p ≡ true → eqb (check (table p)).0 0 ≡ true → ltb (length out) (length (table p)) ≡ false
    → compiled p out ≡ ((0, length (table p)), table p ++ drop (length (table p)) out)
unfolding compiled
by_written p out e c l = rw (e, c, l)

-- no refusal has the number 0
pub refused : (r : Reason) → eqb (number_of r) 0 ≡ false
refused BadField = refl
refused TooMany = refl
refused OutOfRange = refl
refused NotGiven = refl
refused Taken = refl
refused BadEnd = refl
refused WrongSort = refl
refused Misread = refl
refused Misused = refl
refused TooCostly = refl
refused Unsound = refl
refused BadList = refl
refused ShortSpace = refl
refused BadItem = refl
refused Itself = refl
refused NothingPending = refl
refused DividedByZero = refl
refused BadFile = refl
refused Outside = refl
refused BadName = refl

-- the machine ends exactly on the texts
ended : (o : Option (List Symbol)) → ends o ≡ true → o ≡ some []
ended none e = not-both (sym e)
ended (some []) e = refl
ended (some (x ∷ st)) e = not-both (sym e)

is-text : (s : List ℕ) → ends (run outset (lex s)) ≡ true → Text s
is-text s e = (texts-exactly s).1 (ended (run outset (lex s)) e)

spelt-ends : (s : List ℕ) (p : Program) → FineProgram p → Spaced (program_tokens p) s → ends (run outset (lex s)) ≡ true
spelt-ends s p f sp = ap ends ((programs-exactly (lex s)).0 (p, f, (spaced-exactly (program_tokens p) s).0 sp))

pub outside : (s out : List ℕ) (at : ℕ) → (ends (run outset (lex s)) ≡ false) × (at ≡ place s) → Reads s out (19, at) out
outside s out at h = record {
  spelt = λ p f sp. not-both (sym (spelt-ends s p f sp) ∙ h.0);
  unspelt = λ n. (refl, rw h.1 (place-longest s), refl);
}

module _ (s out : List ℕ) (y : ends (run outset (lex s)) ≡ true) (good : Bool) (n : good ≡ names_pass [] [] 0 0 (lex s)) where
  inside : (r : Verdict) (out' : List ℕ) → ((p : Program) → FineProgram p → lex s ≡ program_tokens p → (r, out') ≡ compiled p out) → Reads s out r out'
  inside r out' c = record {
    spelt = λ p f sp. c p f ((spaced-exactly (program_tokens p) s).0 sp);
    unspelt = λ x. absurd (x (is-text s y));
  }

  names : (p : Program) → FineProgram p → lex s ≡ program_tokens p → names_good p ≡ good
  names p f l = sym (names-exactly p f) ∙ ap (names_pass [] [] 0 0) (sym l) ∙ sym n

  pub unresolved : good ≡ false → Reads s out (20, 0) out
  unresolved z = inside (20, 0) out (λ p f l. sym (by_names p out (names p f l ∙ z)))

  -- the bytes are the table of the text's program, or as much of it as the check refuses alike
  module _ (z : good ≡ true) (bytes : List ℕ) (alike : (p : Program) → FineProgram p → lex s ≡ program_tokens p → check bytes ≡ check (table p))
      (whole : (p : Program) → FineProgram p → lex s ≡ program_tokens p → (check (table p)).0 ≡ 0 → bytes ≡ table p) where
    pub unsound : (v : Verdict) → v ≡ check bytes → eqb v.0 0 ≡ false → Reads s out v out
    unsound v e x = inside v out (λ p f l. let q = e ∙ alike p f l in
        sym (by-check p out (names p f l ∙ z) (ap (λ (u : Verdict). eqb u.0 0) (sym q) ∙ x) ∙ ap (λ (u : Verdict). (u, out)) (sym q)))

    module _ (e : (check bytes).0 ≡ 0) where
      same : (p : Program) → FineProgram p → lex s ≡ program_tokens p → bytes ≡ table p
      same p f l = whole p f l (ap (λ (u : Verdict). u.0) (sym (alike p f l)) ∙ e)

      accepted : (p : Program) → FineProgram p → lex s ≡ program_tokens p → eqb (check (table p)).0 0 ≡ true
      accepted p f l = ap (λ (n : ℕ). eqb n 0) (ap (λ (u : Verdict). u.0) (sym (alike p f l)) ∙ e)

      pub no_room : length out < length bytes → Reads s out (13, 0) out
      no_room h =
          inside (13, 0) out (λ p f l. sym (by-room p out (names p f l ∙ z) (accepted p f l)
          (lt-ltb (length out) (length (table p)) (let y = ap length (same p f l) in omega (arith, y, h)))))

      pub written : length bytes ≤ length out → (out' : List ℕ) → out' ≡ bytes ++ drop (length bytes) out → Reads s out (0, length bytes) out'
      written h out' eo = inside (0, length bytes) out' (λ p f l. stored p f l)
        where
          stored : (p : Program) → FineProgram p → lex s ≡ program_tokens p → ((0, length bytes), out') ≡ compiled p out
          stored p f l =
              let b = same p f l in
              let y = ap length b in
              ap (λ (o : List ℕ). ((0, length bytes), o)) eo
              ∙ ap (λ (t : List ℕ). ((0, length t), t ++ drop (length t) out)) b
              ∙ sym (by_written p out (names p f l ∙ z) (accepted p f l) (le-ltb (length out) (length (table p)) (omega (arith, y, h))))
