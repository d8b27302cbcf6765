-- The turns of the loop that counts tokens, and what the tests count.
use Rattle.std.specs.Prelude.{◌≡◌, Bool, true, false, cond, ◌&&◌, Some, None, List, [], ◌∷◌, ◌++◌, ℕ, ◌+◌, ◌≤◌, eqb, ltb, length, drop}
use Rattle.std.proofs.Common.{refl, sym, ap, ◌∙◌, arith}
use Rattle.std.proofs.lemmas.Bool.{lt-ltb}
use Rattle.notation.specs.Grammar.{Token, opening, closing, word}
use Rattle.notation.proofs.Lexing.{lex}
use Rattle.lexemes.specs.declared.Lexeme.{Lexeme}
use Rattle.lexemes.specs.Lexeme.{next_lexeme, token_of}
use Rattle.lexemes.proofs.Laws.{next-end, next-token}
use Rattle.vocabulary.specs.Codes.{code_of, token_code}
use Rattle.vocabulary.proofs.Laws.{code-limit}
use Rattle.token_scans.specs.Scan.{mode_after, word_in, words_in, heads_in}
use Rattle.token_scans.specs.Sought.{counted}

-- n were counted of the tokens before the place
pub record Counting (f : ℕ → ℕ → Bool) (e : List ℕ) (at m n : ℕ) : Type 0 where
  pub same : counted f 0 (lex e) ≡ n + counted f m (lex (drop at e))

pub counting-first : (f : ℕ → ℕ → Bool) (e : List ℕ) → Counting f e 0 0 0
counting-first f e = record { same = omega arith }

module _ {f : ℕ → ℕ → Bool} {e : List ℕ} {at m n : ℕ} (h : at ≤ length e) (g : Counting f e at m n) where
  pub counting-end : next_lexeme e at ≡ None → n ≡ counted f 0 (lex e)
  unfolding counted
  counting-end q = sym (g.same ∙ rw (next-end e at h q) (omega arith))

  pub counting-next : (r : Lexeme) → next_lexeme e at ≡ Some r → (c m' i : ℕ) → c ≡ token_code (token_of e r) → m' ≡ mode_after m c → i ≡ cond (f m c) 1 0 → Counting f e r.end m' (n + i)
  unfolding counted
  counting-next r q c m' i u v w = record { same = g.same ∙ rw (next-token e at h r q, v, w, u) (omega arith) }

-- ---- what the tests count
pub heads-counted : (f : ℕ → Bool) (m : ℕ) (ts : List Token) → counted (λ m c. eqb m 1 && f c) m ts ≡ heads_in f m ts
unfolding counted heads_in
heads-counted f m [] = refl
heads-counted f m (t ∷ ts) = ap (λ (n : ℕ). cond (eqb m 1 && f (token_code t)) 1 0 + n) (heads-counted f (mode_after m (token_code t)) ts)

pub words-counted : (k m : ℕ) (ts : List Token) → counted (λ m c. eqb m k && ltb c 22) m ts ≡ length (words_in k m ts)
unfolding counted words_in
words-counted k m [] = refl
words-counted k m (opening ∷ ts) = rw (words-counted k (mode_after m 22) ts) (go (eqb m k))
  where
    go : (b : Bool) → cond (b && false) 1 0 + length (words_in k (mode_after m 22) ts) ≡ length (words_in k (mode_after m 22) ts)
    go true = omega arith
    go false = omega arith
words-counted k m (closing ∷ ts) = rw (words-counted k (mode_after m 23) ts) (go (eqb m k))
  where
    go : (b : Bool) → cond (b && false) 1 0 + length (words_in k (mode_after m 23) ts) ≡ length (words_in k (mode_after m 23) ts)
    go true = omega arith
    go false = omega arith
words-counted k m (word w ∷ ts) =
    rw (words-counted k (mode_after m (code_of w)) ts, lt-ltb (code_of w) 22 (let l = code-limit w in omega arith)) (go (eqb m k))
  where
    go : (b : Bool) → cond (b && true) 1 0 + length (words_in k (mode_after m (code_of w)) ts) ≡ length (word_in b (word w) ++ words_in k (mode_after m (code_of w)) ts)
    go true = omega arith
    go false = omega arith
