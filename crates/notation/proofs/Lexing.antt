-- from bytes to tokens. The word in hand grows at its end, so that a beginning of the bytes is read alike.
use mathlib.Core.Path.{◌≡◌, refl, ap, ◌∙◌}
use mathlib.Core.List.{List, [], ◌∷◌, ◌++◌, append_assoc, append-nil}
use mathlib.Core.Logic.{◌↔◌}
use Prim.Native.Nat.{ℕ}
use native.Mathlib.Omega.{arith}
use Rattle.notation.specs.Words.{Word}
use Rattle.notation.specs.Grammar.{Token, opening, closing, word}
use Rattle.notation.specs.Text.{ByteKind, blank_byte, left, right, word_byte, byte_kind, Plain, Apart, Spaced, over, blank, enter, leave, spell}

-- the word in hand, if there is one, then the rest
abbrev pub flush : Word → List Token → List Token
flush [] ts = ts
flush (b ∷ w) ts = word (b ∷ w) ∷ ts

abbrev pub lex_byte : ByteKind → Word → ℕ → (Word → List Token) → List Token
lex_byte blank_byte w b k = flush w (k [])
lex_byte left w b k = flush w (opening ∷ k [])
lex_byte right w b k = flush w (closing ∷ k [])
lex_byte word_byte w b k = k (w ++ b ∷ [])

abbrev pub lex_from : Word → List ℕ → List Token
lex_from w [] = flush w []
lex_from w (b ∷ s) = lex_byte (byte_kind b) w b (λ w. lex_from w s)

abbrev pub lex : List ℕ → List Token
lex s = lex_from [] s

-- bytes of a word go to the word in hand
pub lex-plain : (x w : Word) → Plain x → (s : List ℕ) → lex_from w (x ++ s) ≡ lex_from (w ++ x) s
lex-plain [] w h s = rw (append-nil w)
lex-plain (b ∷ x) w h s = rw h.0 (lex-plain x (w ++ b ∷ []) h.1 s ∙ ap (λ (v : Word). lex_from v s) (append_assoc w (b ∷ []) x))

-- where no word goes on, the word in hand is done
pub lex-apart : (w : Word) (s : List ℕ) → Apart s → lex_from w s ≡ flush w (lex s)
lex-apart w [] h = refl
lex-apart w (b ∷ s) h = go (byte_kind b) refl
  where
    go : (o : ByteKind) → byte_kind b ≡ o → lex_byte o w b (λ w. lex_from w s) ≡ flush w (lex_byte o [] b (λ w. lex_from w s))
    go blank_byte e = refl
    go left e = refl
    go right e = refl
    go word_byte e = absurd (h e)

lexed : {ts : List Token} {s : List ℕ} → Spaced ts s → lex s ≡ ts
lexed over = refl
lexed (blank b e r) = rw e (lexed r)
lexed (enter b e r) = rw e (ap (λ (l : List Token). opening ∷ l) (lexed r))
lexed (leave b e r) = rw e (ap (λ (l : List Token). closing ∷ l) (lexed r))
lexed (spell {s = s} b w h a r) = lex-plain (b ∷ w) [] h s ∙ lex-apart (b ∷ w) s a ∙ ap (λ (l : List Token). word (b ∷ w) ∷ l) (lexed r)

-- the word in hand, laid out before bytes that do not go on with it
pub plain_end : (w : Word) (b : ℕ) → Plain w → byte_kind b ≡ word_byte → Plain (w ++ b ∷ [])
plain_end [] b h e = (e, tt)
plain_end (a ∷ w) b h e = (h.0, plain_end w b h.1 e)

hand : (w : Word) {ts : List Token} (s : List ℕ) → Plain w → Apart s → Spaced ts s → Spaced (flush w ts) (w ++ s)
hand [] s h a r = r
hand (b ∷ w) s h a r = spell b w h a r

laid_from : (s : List ℕ) (w : Word) → Plain w → Spaced (lex_from w s) (w ++ s)
laid_from [] w h = hand w [] h tt over
laid_from (b ∷ s) w h = go (byte_kind b) refl (laid_from s)
  where
    go : (o : ByteKind) → byte_kind b ≡ o → ((w : Word) → Plain w → Spaced (lex_from w s) (w ++ s)) → Spaced (lex_byte o w b (λ w. lex_from w s)) (w ++ b ∷ s)
    go blank_byte e ih = hand w (b ∷ s) h (λ q. let z : ◌≡◌ {A = ℕ} 0 1 = cc in omega arith) (blank b e (ih [] tt))
    go left e ih = hand w (b ∷ s) h (λ q. let z : ◌≡◌ {A = ℕ} 0 1 = cc in omega arith) (enter b e (ih [] tt))
    go right e ih = hand w (b ∷ s) h (λ q. let z : ◌≡◌ {A = ℕ} 0 1 = cc in omega arith) (leave b e (ih [] tt))
    go word_byte e ih = rw (append_assoc w (b ∷ []) s) at (ih (w ++ b ∷ []) (plain_end w b h e))

-- bytes lay out the tokens that lexing gives, and no others
pub spaced-exactly : (ts : List Token) (s : List ℕ) → Spaced ts s ↔ (lex s ≡ ts)
spaced-exactly ts s = (lexed, λ e. rw e at (laid_from s [] tt))
