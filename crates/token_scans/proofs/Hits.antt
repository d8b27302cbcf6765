-- The turns of the loop that looks for a word among those of one mode.
use Rattle.std.specs.Prelude.{◌≡◌, Bool, true, false, cond, Some, None, List, [], ◌∷◌, ◌++◌, ℕ, ◌+◌, ◌≤◌, eqb, length, drop}
use Rattle.std.proofs.Common.{refl, ap, arith}
use denote.Enum.Bare.{sameb}
use Rattle.lexemes.specs.contracts.Kind.{the_type}
use Rattle.notation.specs.Words.{Word, between, same_word, one_of, index_of}
use Rattle.notation.proofs.Lexing.{lex}
use Rattle.lexemes.specs.declared.Kind.{Kind}
use Rattle.lexemes.specs.declared.Kind.TheVariants.{Opening, Closing, Word as AWord}
use Rattle.lexemes.specs.declared.Lexeme.{Lexeme}
use Rattle.lexemes.specs.Lexeme.{next_lexeme, token_by, token_of}
use Rattle.lexemes.proofs.Laws.{next-within, next-end, next-token}
use Rattle.vocabulary.specs.Codes.{token_code}
use Rattle.token_scans.specs.Scan.{mode_after, word_in, words_in}
use Rattle.token_scans.specs.Sought.{named}

-- the words that are still to come, from a place and a mode, behind n others
pub record Naming (k : ℕ) (w : Word) (e : List ℕ) (at m n : ℕ) : Type 0 where
  pub within : at ≤ length e
  pub passed : n ≤ at
  pub yes : one_of w (words_in k 0 (lex e)) ≡ one_of w (words_in k m (lex (drop at e)))
  pub index : index_of w (words_in k 0 (lex e)) ≡ n + index_of w (words_in k m (lex (drop at e)))

pub naming-first : (k : ℕ) (w : Word) (e : List ℕ) → Naming k w e 0 0 0
naming-first k w e = record { within = omega arith; passed = omega arith; yes = refl; index = omega arith }

-- whether a token of that kind is a word of the mode that is sought
abbrev pub sought : Bool → Kind → Bool
sought b Opening = false
sought b Closing = false
sought b AWord = b

pub sought-by : (a b : Bool) (k : Kind) → a ≡ true → b ≡ sought true k → b ≡ sought a k
sought-by a b k e h = rw e h

pub sought-not : (a b : Bool) (k : Kind) → a ≡ false → b ≡ false → b ≡ sought a k
sought-not a b Opening e h = h
sought-not a b Closing e h = h
sought-not a b AWord e h = rw (h, e)

pub sought_word : (k : Kind) → sameb the_type k AWord ≡ sought true k
sought_word Opening = refl
sought_word Closing = refl
sought_word AWord = refl

word_sought : (b : Bool) (k : Kind) (x : Word) → word_in b (token_by k x) ≡ cond (sought b k) (x ∷ []) []
word_sought true Opening x = refl
word_sought true Closing x = refl
word_sought true AWord x = refl
word_sought false Opening x = refl
word_sought false Closing x = refl
word_sought false AWord x = refl

module _ {k : ℕ} {w : Word} {e : List ℕ} {at m n : ℕ} (g : Naming k w e at m n) where
  pub naming-end : next_lexeme e at ≡ None → None ≡ named w (words_in k 0 (lex e))
  unfolding words_in
  naming-end q = rw (g.yes, next-end e at g.within q)

  module _ (r : Lexeme) (q : next_lexeme e at ≡ Some r) (b : Bool) (is : b ≡ sought (eqb m k) r.kind) where
    abbrev here : Word
    here = between r.start r.end e

    abbrev later : List Word
    later = words_in k (mode_after m (token_code (token_of e r))) (lex (drop r.end e))

    words-next : words_in k m (lex (drop at e)) ≡ cond b (here ∷ []) [] ++ later
    unfolding words_in
    words-next = rw (next-token e at g.within r q, is, word_sought (eqb m k) r.kind here)

    pub naming-found : b ≡ true → true ≡ same_word w here → Some n ≡ named w (words_in k 0 (lex e))
    unfolding index_of
    naming-found p f = rw (g.yes, g.index, words-next, p, ← f) (ap (λ (i : ℕ). Some i) (omega arith))

    pub naming-next : (b ≡ true → false ≡ same_word w here) → (h m' : ℕ) → h ≡ cond b 1 0 → m' ≡ mode_after m (token_code (token_of e r)) → Naming k w e r.end m' (n + h)
    unfolding index_of
    naming-next f h m' i j = go b refl
      where
        go : (c : Bool) → b ≡ c → Naming k w e r.end m' (n + h)
        go true p = let x = next-within e at g.within r q in record {
          within = x.inside;
          passed = rw (i, p) (omega (arith, g.passed, x.filled, x.behind));
          yes = rw (j, g.yes, words-next, p, ← f p);
          index = rw (i, j, g.index, words-next, p, ← f p) (omega arith);
        }
        go false p = let x = next-within e at g.within r q in record {
          within = x.inside;
          passed = rw (i, p) (omega (arith, g.passed, x.filled, x.behind));
          yes = rw (j, g.yes, words-next, p);
          index = rw (i, j, g.index, words-next, p) (omega arith);
        }
