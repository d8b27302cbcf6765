-- The front of a top-level form: its second token.
use Rattle.std.specs.Prelude.{◌≡◌, true, false, Some, None, List, ◌∷◌, ℕ, ◌≤◌, length, drop}
use Rattle.std.proofs.Common.{refl, sym, ap, ◌∙◌, arith}
use denote.Enum.Bare.{sameb}
use Rattle.lexemes.specs.contracts.Kind.{the_type}
use Rattle.notation.specs.Words.{Word, between, same_word, the_def}
use Rattle.notation.specs.Grammar.{Token}
use Rattle.notation.proofs.Lexing.{lex}
use Rattle.lexemes.specs.declared.Kind.{Kind}
use Rattle.lexemes.specs.declared.Kind.TheVariants.{Opening, Closing, Word as AWord}
use Rattle.lexemes.specs.declared.Lexeme.{Lexeme}
use Rattle.lexemes.specs.Lexeme.{next_lexeme, token_by, token_of}
use Rattle.lexemes.proofs.Laws.{next-within, next-end, next-token}
use Rattle.tabling.specs.Emit.{is_definition}

pub word-kind : (k : Kind) → sameb the_type k AWord ≡ true → k ≡ AWord
word-kind Opening e = cc
word-kind Closing e = cc
word-kind AWord e = refl

no_word : (t : Token) (k : Kind) (w : Word) (ts : List Token) → (k ≡ AWord → ⊥) → false ≡ is_definition (t ∷ token_by k w ∷ ts)
no_word t Opening w ts n = refl
no_word t Closing w ts n = refl
no_word t AWord w ts n = absurd (n refl)

pub front-none : (e : List ℕ) → next_lexeme e 0 ≡ None → false ≡ is_definition (lex e)
front-none e q = sym (ap is_definition (next-end e 0 (omega arith) q))

module _ (e : List ℕ) (l : Lexeme) (f : next_lexeme e 0 ≡ Some l) where
  pub front-end : l.end ≤ length e
  front-end = (next-within e 0 (omega arith) l f).inside

  first : lex e ≡ token_of e l ∷ lex (drop l.end e)
  first = next-token e 0 (omega arith) l f

  pub front-one : next_lexeme e l.end ≡ None → false ≡ is_definition (lex e)
  front-one q = rw (first, next-end e l.end front-end q)

  module _ (m : Lexeme) (g : next_lexeme e l.end ≡ Some m) where
    pub second-end : m.end ≤ length e
    second-end = (next-within e l.end front-end m g).inside

    second : lex e ≡ token_of e l ∷ token_of e m ∷ lex (drop m.end e)
    second = first ∙ ap (λ (ts : List Token). token_of e l ∷ ts) (next-token e l.end front-end m g)

    pub front-other : (m.kind ≡ AWord → ⊥) → false ≡ is_definition (lex e)
    front-other q = rw second (no_word (token_of e l) m.kind (between m.start m.end e) (lex (drop m.end e)) q)

    pub front-word : m.kind ≡ AWord → same_word (between m.start m.end e) the_def ≡ is_definition (lex e)
    front-word q = rw (second, q)
