-- every text and slice has one answer, and what shows it. Assumes nothing.
use mathlib.Core.Path.{◌≡◌, refl, sym, ap, ◌∙◌}
use mathlib.Core.List.{List, [], ◌∷◌}
use mathlib.Core.Option.{Option, none, some}
use mathlib.Core.Logic.{◌⊎◌, inl, inr}
use Prim.Native.Nat.{ℕ}
use native.Mathlib.Omega.{arith}
use Rattle.notation.specs.Grammar.{Program, program_tokens, FineProgram}
use Rattle.notation.specs.Text.{Text, Longest}
use Rattle.notation.proofs.Machine.{Symbol, run, start}
use Rattle.notation.proofs.Lexing.{lex, spaced-exactly}
use Rattle.notation.proofs.Place.{texts-exactly, place, place-longest}
use Rattle.notation.proofs.Unique.{one-program}
use Rattle.program.specs.Check.{Verdict}
use Rattle.translation.specs.Reads.{compiled, Reads}

-- a text of a program is answered as its program is, since no other is spelt so
pub answers : {s out : List ℕ} {r : Verdict} {out' : List ℕ} (p : Program) → FineProgram p → lex s ≡ program_tokens p → (r, out') ≡ compiled p out → Reads s out r out'
answers {s} {out} {r} {out'} p f e c = record {
  spelt = λ q g l. c ∙ ap (λ p. compiled p out) (one-program p q f g (sym e ∙ (spaced-exactly (program_tokens q) s).0 l));
  unspelt = λ n. absurd (n (record { program = p; fine = f; laid = (spaced-exactly (program_tokens p) s).1 e }));
}

-- bytes that the machine does not take are answered 19
pub refused : {s out : List ℕ} → (run start (lex s) ≡ some [] → ⊥) → Reads s out (19, place s) out
refused {s} {out} n = record {
  spelt = λ q g l. absurd (n ((texts-exactly s).0 (record { program = q; fine = g; laid = l })));
  unspelt = λ m. (refl, place-longest s, refl);
}

taken-or-not : (s : List ℕ) → Text s ⊎ (run start (lex s) ≡ some [] → ⊥)
taken-or-not s = go (run start (lex s)) refl
  where
    go : (o : Option (List Symbol)) → run start (lex s) ≡ o → Text s ⊎ (run start (lex s) ≡ some [] → ⊥)
    go none e = inr (λ q. let z : ◌≡◌ {A = ℕ} 0 1 = cc in omega arith)
    go (some []) e = inl ((texts-exactly s).1 e)
    go (some (x ∷ st)) e = inr (λ q. let z : ◌≡◌ {A = ℕ} 0 1 = cc in omega arith)

pub text-or-none : (s : List ℕ) → Text s ⊎ (Text s → ⊥)
text-or-none s = go (taken-or-not s)
  where
    go : Text s ⊎ (run start (lex s) ≡ some [] → ⊥) → Text s ⊎ (Text s → ⊥)
    go (inl t) = inl t
    go (inr n) = inr (λ t. n ((texts-exactly s).0 t))

pub reads-some : (s out : List ℕ) → (r : Verdict) × (out' : List ℕ) × Reads s out r out'
reads-some s out = go (taken-or-not s)
  where
    go : Text s ⊎ (run start (lex s) ≡ some [] → ⊥) → (r : Verdict) × (out' : List ℕ) × Reads s out r out'
    go (inl t) =
        let c = compiled t.program out in
        (c.0, c.1, answers t.program t.fine ((spaced-exactly (program_tokens t.program) s).0 t.laid) refl)
    go (inr n) = ((19, place s), out, refused n)

longest-one : {s : List ℕ} (j k : ℕ) → Longest s j → Longest s k → j ≡ k
longest-one j k a b = let h = b.longest j a.within a.begins in let g = a.longest k b.within b.begins in omega arith

pub reads-one : {s out : List ℕ} {r r' : Verdict} {o o' : List ℕ} → Reads s out r o → Reads s out r' o' → (r ≡ r') × (o ≡ o')
reads-one {s} {out} {r} {r'} {o} {o'} a b = go (taken-or-not s)
  where
    go : Text s ⊎ (run start (lex s) ≡ some [] → ⊥) → (r ≡ r') × (o ≡ o')
    go (inl t) =
        let e : ◌≡◌ {A = Verdict × List ℕ} (r, o) (r', o') = a.spelt t.program t.fine t.laid ∙ sym (b.spelt t.program t.fine t.laid) in
        (ap (λ (p : Verdict × List ℕ). p.0) e, ap (λ (p : Verdict × List ℕ). p.1) e)
    go (inr n) =
        let h = a.unspelt (λ t. n ((texts-exactly s).0 t)) in
        let k = b.unspelt (λ t. n ((texts-exactly s).0 t)) in
        let c = h.0 ∙ sym k.0 in
        let d = longest-one r.1 r'.1 h.1 k.1 in
        ((λ i. (c i, d i)), h.2 ∙ sym k.2)
