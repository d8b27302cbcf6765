-- the place, token by token, as a loop over tokens finds it: a taken token counts whole, the first refused one by the longest beginning that its place allows.
use mathlib.Core.Path.{◌≡◌, refl, sym, ap, ◌∙◌}
use mathlib.Core.Bool.{Bool, true, false, cond}
use mathlib.Core.List.{List, [], ◌∷◌, ◌++◌, append-nil, append_assoc}
use mathlib.Core.Option.{Option, none, some}
use Prim.Native.Nat.{ℕ, suc, ◌+◌, ◌≤◌}
use native.Mathlib.Omega.{arith}
use lib.ListN.{length}
use Rattle.notation.specs.Words.{Word}
use Rattle.notation.specs.Grammar.{opening, closing, word}
use Rattle.notation.specs.Text.{ByteKind, blank_byte, left, right, word_byte, byte_kind, Plain, Apart, Longest}
use Rattle.notation.proofs.Machine.{Symbol, step, start}
use Rattle.notation.proofs.Viable.{front-begins}
use Rattle.notation.proofs.Finish.{step-takes}
use Rattle.notation.proofs.Place.{begins_in, after_word, bare, next, reach_by, reach, place, place-longest}
use Rattle.notation.proofs.Lexing.{plain_end}

-- how much of x, behind the word in hand, still begins a word that the stack takes
abbrev pub viable : List Symbol → Word → Word → ℕ
viable st w [] = 0
viable st w (b ∷ x) = cond (begins_in st (w ++ b ∷ [])) (suc (viable st (w ++ b ∷ []) x)) 0

pub viable-within : (st : List Symbol) (w x : Word) → viable st w x ≤ length x
viable-within st w [] = omega arith
viable-within st w (b ∷ x) = go (begins_in st (w ++ b ∷ [])) (viable-within st (w ++ b ∷ []) x)
  where
    go : (c : Bool) → viable st (w ++ b ∷ []) x ≤ length x → cond c (suc (viable st (w ++ b ∷ []) x)) 0 ≤ suc (length x)
    go true h = omega (arith, h)
    go false h = omega arith

-- behind the word in hand no word goes on
ended : (st : List Symbol) (w : Word) (s : List ℕ) → Apart s → after_word st w ≡ none → reach st w s ≡ 0
ended st w [] a e = refl
ended st w (b ∷ s) a e = go (byte_kind b) refl
  where
    go : (o : ByteKind) → byte_kind b ≡ o → reach_by (next o st w b) (λ st w. reach st w s) ≡ 0
    go blank_byte q = rw e
    go left q = rw e
    go right q = rw e
    go word_byte q = absurd (a q)

went : (st st' : List Symbol) (w : Word) (s : List ℕ) → Apart s → after_word st w ≡ some st' → reach st w s ≡ reach st' [] s
went st st' w [] a e = refl
went st st' w (b ∷ s) a e = go (byte_kind b) refl
  where
    go : (o : ByteKind) → byte_kind b ≡ o → reach_by (next o st w b) (λ st w. reach st w s) ≡ reach_by (next o st' [] b) (λ st w. reach st w s)
    go blank_byte q = rw e
    go left q = rw e
    go right q = rw e
    go word_byte q = absurd (a q)

pub refused-from : (x w : Word) (st : List Symbol) (s : List ℕ) → Plain x → Apart s → after_word st (w ++ x) ≡ none → reach st w (x ++ s) ≡ viable st w x
refused-from [] w st s p a e = ended st w s a (rw append-nil at e)
refused-from (b ∷ x) w st s p a e = rw p.0 (go (begins_in st (w ++ b ∷ [])) (refused-from x (w ++ b ∷ []) st s p.1 a (rw (append_assoc w (b ∷ []) x) e)))
  where
    go : (c : Bool) → reach st (w ++ b ∷ []) (x ++ s) ≡ viable st (w ++ b ∷ []) x
        → reach_by (cond c (some (st, w ++ b ∷ [])) none) (λ st w. reach st w (x ++ s)) ≡ cond c (suc (viable st (w ++ b ∷ []) x)) 0
    go true ih = ap suc ih
    go false ih = refl

-- each beginning of a word that is taken begins a word that the stack takes
on-the-way : (st st' : List Symbol) (w : Word) (b : ℕ) (x : Word) → step st (word ((w ++ b ∷ []) ++ x)) ≡ some st' → begins_in st (w ++ b ∷ []) ≡ true
on-the-way st st' w b x e = let t = step-takes st st' ((w ++ b ∷ []) ++ x) e in rw t.listed (front-begins t.kind (w ++ b ∷ []) x t.good)

after_filled : (st : List Symbol) (w : Word) (b : ℕ) (x : Word) → after_word st ((w ++ b ∷ []) ++ x) ≡ step st (word ((w ++ b ∷ []) ++ x))
after_filled st [] b x = refl
after_filled st (a ∷ w) b x = refl

pub taken-from : (x w : Word) (st st' : List Symbol) (s : List ℕ) → Plain x → Apart s → after_word st (w ++ x) ≡ some st' → reach st w (x ++ s) ≡ length x + reach st' [] s
taken-from [] w st st' s p a e = went st st' w s a (rw append-nil at e) ∙ omega arith
taken-from (b ∷ x) w st st' s p a e =
    let f : after_word st ((w ++ b ∷ []) ++ x) ≡ some st' = rw (append_assoc w (b ∷ []) x) e in
    let h = on-the-way st st' w b x (sym (after_filled st w b x) ∙ f) in
    rw (p.0, h) (ap suc (taken-from x (w ++ b ∷ []) st st' s p.1 a f) ∙ omega arith)

-- a word once it has ended: whole, or the longest beginning that its place allows
abbrev counted : Option (List Symbol) → List Symbol → Word → (List Symbol → ℕ) → ℕ
counted none st w k = viable st [] w
counted (some st') st w k = length w + k st'

abbrev stepped : Option (List Symbol) → (List Symbol → ℕ) → ℕ
stepped none k = 0
stepped (some st) k = suc (k st)

abbrev tally_byte : ByteKind → List Symbol → Word → ℕ → (List Symbol → Word → ℕ) → ℕ
tally_byte blank_byte st w b k = counted (after_word st w) st w (λ st. suc (k st []))
tally_byte left st w b k = counted (after_word st w) st w (λ st. stepped (step st opening) (λ st. k st []))
tally_byte right st w b k = counted (after_word st w) st w (λ st. stepped (step st closing) (λ st. k st []))
tally_byte word_byte st w b k = k st (w ++ b ∷ [])

abbrev pub tally : List Symbol → Word → List ℕ → ℕ
tally st w [] = counted (after_word st w) st w (λ st. 0)
tally st w (b ∷ s) = tally_byte (byte_kind b) st w b (λ st w. tally st w s)

unfoldable pub token_place : List ℕ → ℕ
token_place s = tally start [] s

-- at a word's end the two ways of counting agree if they agree behind it
counts : (st : List Symbol) (w : Word) (s : List ℕ) (k : List Symbol → ℕ) → Plain w → Apart s → ((st : List Symbol) → k st ≡ reach st [] s) → counted (after_word st w) st w k ≡ reach st [] (w ++ s)
counts st w s k p a h = go (after_word st w) refl
  where
    go : (o : Option (List Symbol)) → after_word st w ≡ o → counted o st w k ≡ reach st [] (w ++ s)
    go none e = sym (refused-from w [] st s p a e)
    go (some st') e = rw (h st') (sym (taken-from w [] st st' s p a e))

tally-reach : (s : List ℕ) (st : List Symbol) (w : Word) → Plain w → tally st w s ≡ reach st [] (w ++ s)
tally-reach [] st w p = counts st w [] (λ st. 0) p tt (λ st. refl)
tally-reach (b ∷ s) st w p = go (byte_kind b) refl (tally-reach s)
  where
    IH : Type 0
    IH = (st : List Symbol) (w : Word) → Plain w → tally st w s ≡ reach st [] (w ++ s)

    one : IH → (o : Option (List Symbol)) → stepped o (λ st. tally st [] s) ≡ reach_by (bare o) (λ st w. reach st w s)
    one ih none = refl
    one ih (some st) = ap suc (ih st [] tt)

    go : (o : ByteKind) → byte_kind b ≡ o → IH → tally_byte o st w b (λ st w. tally st w s) ≡ reach st [] (w ++ b ∷ s)
    go blank_byte e ih = counts st w (b ∷ s) (λ st. suc (tally st [] s)) p (λ q. let z : ◌≡◌ {A = ℕ} 0 1 = cc in omega arith) (λ st. rw e (ap suc (ih st [] tt)))
    go left e ih = counts st w (b ∷ s) (λ st. stepped (step st opening) (λ st. tally st [] s)) p (λ q. let z : ◌≡◌ {A = ℕ} 0 1 = cc in omega arith) (λ st. rw e (one ih (step st opening)))
    go right e ih = counts st w (b ∷ s) (λ st. stepped (step st closing) (λ st. tally st [] s)) p (λ q. let z : ◌≡◌ {A = ℕ} 0 1 = cc in omega arith) (λ st. rw e (one ih (step st closing)))
    go word_byte e ih = ih st (w ++ b ∷ []) (plain_end w b p e) ∙ ap (λ (l : List ℕ). reach st [] l) (append_assoc w (b ∷ []) s)

-- the same for the place that is found token by token
pub token-place : (s : List ℕ) → token_place s ≡ place s
unfolding token_place place
token-place s = tally-reach s start [] tt

pub token-place-longest : (s : List ℕ) → Longest s (token_place s)
token-place-longest s = rw (token-place s) (place-longest s)
