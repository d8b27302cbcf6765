-- The next token of a text, as the lexemes and the vocabulary give it. Assumes nothing.
use mathlib.Core.Path.{◌≡◌, refl, ap, ◌∙◌}
use mathlib.Core.List.{List, [], ◌∷◌, ◌++◌}
use mathlib.Core.Option.{none, some}
use Prim.Native.Nat.{ℕ, suc, ◌+◌, ◌-◌, ◌≤◌, ◌<◌}
use native.Mathlib.Omega.{arith}
use lib.ListN.{length, get_or, drop}
use Rattle.notation.specs.Words.{no_form, between, role, role_of}
use Rattle.notation.specs.Grammar.{Token, opening, closing, word}
use Rattle.notation.specs.Text.{ByteKind, left, right, byte_kind, Plain, Apart}
use Rattle.notation.proofs.Machine.{Symbol, step}
use Rattle.notation.proofs.Lexing.{lex}
use Rattle.notation.proofs.Place.{after_word, reach}
use Rattle.notation.proofs.Rules.{viable-within, taken-from, refused-from}
use Rattle.std.specs.Prelude.{Some, None}
use Rattle.lexemes.specs.declared.Kind.{Kind}
use Rattle.lexemes.specs.declared.Kind.TheVariants.{Opening, Closing, Word}
use Rattle.lexemes.specs.declared.Lexeme.{Lexeme}
use Rattle.lexemes.specs.Lexeme.{token_by, token_of, next_lexeme}
use Rattle.lexemes.proofs.Laws.{next-within, next-end, next-token, next_word, next-opening, next-closing, next-reach, next-reach_end, Behind}
use Rattle.vocabulary.specs.Codes.{code_of, head_by_code}
use Rattle.notation.proofs.Between.{length-between}
use Rattle.vocabulary.proofs.Laws.{code-limit, code-atom, code-binder, code-function, code-head}
use Rattle.levels.proofs.Steps.{each, ◌▹◌, roles, Coded, CodedToken}
use Rattle.parse.proofs.Tokens.{front, Next}
use Rattle.parse.proofs.Follows.{OfKind, an_opening, a_closing, a_word}

-- ---- a word's number
roles-right : (k : ℕ) → k < 22 → role_of (head_by_code k) ≡ get_or roles k no_form
unfolding head_by_code
roles-right k h =
    each 22 (λ k. role_of (head_by_code k) ≡ get_or roles k no_form) (
    refl ▹ refl ▹ refl ▹ refl ▹ refl ▹ refl ▹ refl ▹ refl ▹ refl ▹ refl ▹ refl ▹ refl ▹ refl ▹ refl ▹ refl ▹ refl ▹ refl ▹ refl ▹ refl ▹ refl ▹ refl ▹ refl ▹ tt
    ) k h

coded-role : (w : List ℕ) → role w ≡ get_or roles (code_of w) no_form
unfolding role
coded-role w = ap role_of (code-head w) ∙ roles-right (code_of w) (omega (arith, code-limit w))

coded-word : (w : List ℕ) → Coded w (code_of w)
coded-word w = record { below = omega (arith, code-limit w); atoms = code-atom w; binders = code-binder w; functions = code-function w; rolled = coded-role w }

pub coded : (t : Token) → CodedToken t
coded opening = tt
coded closing = tt
coded (word w) = coded-word w

-- ---- a bracket
abbrev On : ByteKind → Token → Type 0
On o t = (st : List Symbol) (b : ℕ) (s : List ℕ) → byte_kind b ≡ o
    → ((st' : List Symbol) → step st t ≡ some st' → reach st [] (b ∷ s) ≡ 1 + reach st' [] s) × (step st t ≡ none → reach st [] (b ∷ s) ≡ 0)

on-left : On left opening
on-left st b s e = (λ st' q. rw (e, q) (omega arith), λ q. rw (e, q))

on-right : On right closing
on-right st b s e = (λ st' q. rw (e, q) (omega arith), λ q. rw (e, q))

-- ---- a filled word
after_filled : (st : List Symbol) (w : List ℕ) → (w ≡ [] → ⊥) → after_word st w ≡ step st (word w)
after_filled st [] f = absurd (f refl)
after_filled st (b ∷ w) f = refl

-- ---- the token by its kind
abbrev Taken : List ℕ → ℕ → ℕ → Token → Type 0
Taken s start end t =
    ((st st' : List Symbol) → step st t ≡ some st' → reach st [] (drop start s) ≡ (end - start) + reach st' [] (drop end s))
    × ((st : List Symbol) → step st t ≡ none → reach st [] (drop start s) ≡ front st t) × ((st : List Symbol) → front st t ≤ end - start)

by-bracket : (s : List ℕ) (start end : ℕ) (o : ByteKind) (t : Token) → On o t → ((st : List Symbol) → front st t ≡ 0) → byte_kind (get_or s start 0) ≡ o
    → drop start s ≡ get_or s start 0 ∷ drop end s → end ≡ suc start → Taken s start end t
by-bracket s start end o t f z q d e =
    let one : end - start ≡ 1 = omega (arith, e) in (
      (λ st st' p. rw (d, one) ((f st (get_or s start 0) (drop end s) q).0 st' p)),
      (λ st p. rw (d, z st) ((f st (get_or s start 0) (drop end s) q).1 p)),
      λ st. rw (z st) (omega arith),
    )

by_word : (s : List ℕ) (start end : ℕ) (w : List ℕ) → Plain w → Apart (drop end s) → drop start s ≡ w ++ drop end s → (w ≡ [] → ⊥) → length w ≡ end - start → Taken s start end (word w)
by_word s start end w p a d f l = (
  (λ st st' q. rw (d, ← l) (taken-from w [] st st' (drop end s) p a (after_filled st w f ∙ q))),
  (λ st q. rw d (refused-from w [] st (drop end s) p a (after_filled st w f ∙ q))),
  λ st. rw (← l) (viable-within st [] w),
)

-- the lexeme that the code reads
module _ (s : List ℕ) (at : ℕ) (h : at ≤ length s) (r : Lexeme) (e : next_lexeme s at ≡ Some r) where
  abbrev Found : Kind → Type 0
  Found k = Taken s r.start r.end (token_by k (between r.start r.end s)) × OfKind (token_by k (between r.start r.end s)) k

  pub read-within : Behind s at r
  read-within = next-within s at h r e

  by_kind : (k : Kind) → r.kind ≡ k → Found k
  by_kind Opening q = let b = next-opening s at h r e q in (by-bracket s r.start r.end left opening on-left (λ st. refl) b.sorted b.first b.one, an_opening)
  by_kind Closing q = let b = next-closing s at h r e q in (by-bracket s r.start r.end right closing on-right (λ st. refl) b.sorted b.first b.one, a_closing)
  by_kind Word q =
      let w = next_word s at h r e q in
      (by_word s r.start r.end (between r.start r.end s) w.plain w.apart w.whole w.filled (length-between r.start r.end s read-within.inside), a_word)

  pub read-kind : OfKind (token_of s r) r.kind
  read-kind = (by_kind r.kind refl).1

  pub read : Next s at (token_of s r) r.start r.end
  read =
      let t = (by_kind r.kind refl).0 in
      let p = read-within in
      let b = p.behind in
      let o = p.filled in
      record {
        behind = b;
        filled = o;
        within = p.inside;
        coded = coded (token_of s r);
        tokens = next-token s at h r e;
        taken = λ st st' q. next-reach s at h r e st ∙ ap (λ (k : ℕ). r.start - at + k) (t.0 st st' q) ∙ omega (arith, b, o);
        refused = λ st q. next-reach s at h r e st ∙ ap (λ (k : ℕ). r.start - at + k) (t.1 st q);
        short = t.2;
      }

-- the end of the text: all that is left are blanks
pub read-end : (s : List ℕ) (at : ℕ) → at ≤ length s → next_lexeme s at ≡ None → (lex (drop at s) ≡ []) × ((st : List Symbol) → reach st [] (drop at s) ≡ length s - at)
read-end s at h e = (next-end s at h e, λ st. next-reach_end s at h e st ∙ omega arith)
