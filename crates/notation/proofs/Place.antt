-- the longest beginning that bytes share with a text.
use mathlib.Core.Path.{◌≡◌, refl, sym, ap, ◌∙◌}
use mathlib.Core.Bool.{Bool, true, false, cond}
use mathlib.Core.List.{List, [], ◌∷◌, ◌++◌, append-nil, append_assoc}
use mathlib.Core.Option.{Option, none, some}
use mathlib.Core.Logic.{◌↔◌}
use Prim.Native.Nat.{ℕ, zero, suc, ◌≤◌, suc-le-suc}
use native.Mathlib.Nat.{le_of_suc-le-suc}
use native.Mathlib.Omega.{arith}
use lib.ListN.{length, take}
use Rattle.decide.proofs.Options.{none-some}
use Rattle.notation.specs.Words.{Word}
use Rattle.notation.specs.Grammar.{Token, opening, closing, word, program_tokens}
use Rattle.notation.specs.Text.{ByteKind, blank_byte, left, right, word_byte, byte_kind, Text, Begins, Longest}
use Rattle.decide.proofs.Picks.{not-both}
use Rattle.notation.proofs.Machine.{Symbol, step, onward, run, start, programs-exactly}
use Rattle.notation.proofs.Lexing.{flush, lex_byte, lex_from, lex, spaced-exactly}
use Rattle.notation.proofs.Viable.{Class, begins, front-begins}
use Rattle.notation.proofs.Extends.{begins-extends}
use Rattle.notation.proofs.Finish.{words_of, step-takes, takes_step, lex-word, finish}

-- the texts are what the machine takes, once lexed
pub texts-exactly : (s : List ℕ) → Text s ↔ (run start (lex s) ≡ some [])
texts-exactly s = (there, back)
  where
    there : Text s → run start (lex s) ≡ some []
    there t = rw ((spaced-exactly (program_tokens t.program) s).0 t.laid) ((programs-exactly (program_tokens t.program)).0 (t.program, t.fine, refl))

    back : run start (lex s) ≡ some [] → Text s
    back q = let p = (programs-exactly (lex s)).1 q in record { program = p.0; fine = p.1; laid = (spaced-exactly (program_tokens p.0) s).1 p.2 }

-- some word that the stack takes begins so
abbrev in_class : Option Class → Word → Bool
in_class none w = false
in_class (some c) w = begins c w

abbrev pub begins_in : List Symbol → Word → Bool
begins_in st w = in_class (words_of st) w

-- the stack behind the word in hand, if there is one
abbrev pub after_word : List Symbol → Word → Option (List Symbol)
after_word st [] = some st
after_word st (b ∷ w) = step st (word (b ∷ w))

-- one byte: the stack and the word in hand behind it, or a refusal
abbrev pub bare : Option (List Symbol) → Option (List Symbol × Word)
bare none = none
bare (some st) = some (st, [])

abbrev pub next : ByteKind → List Symbol → Word → ℕ → Option (List Symbol × Word)
next blank_byte st w b = bare (after_word st w)
next left st w b = bare (onward (after_word st w) (λ st. step st opening))
next right st w b = bare (onward (after_word st w) (λ st. step st closing))
next word_byte st w b = cond (begins_in st (w ++ b ∷ [])) (some (st, w ++ b ∷ [])) none

-- how many bytes are taken before the first refusal
abbrev pub reach_by : Option (List Symbol × Word) → (List Symbol → Word → ℕ) → ℕ
reach_by none k = 0
reach_by (some p) k = suc (k p.0 p.1)

abbrev pub reach : List Symbol → Word → List ℕ → ℕ
reach st w [] = 0
reach st w (b ∷ s) = reach_by (next (byte_kind b) st w b) (λ st w. reach st w s)

unfoldable pub place : List ℕ → ℕ
place s = reach start [] s

-- no byte is refused
abbrev AliveBy : Option (List Symbol × Word) → (List Symbol → Word → Type 0) → Type 0
AliveBy none k = ⊥
AliveBy (some p) k = k p.0 p.1

abbrev pub Alive : List Symbol → Word → List ℕ → Type 0
Alive st w [] = Unit {0}
Alive st w (b ∷ s) = AliveBy (next (byte_kind b) st w b) (λ st w. Alive st w s)

reach-within : (s : List ℕ) (st : List Symbol) (w : Word) → reach st w s ≤ length s
reach-within [] st w = omega arith
reach-within (b ∷ s) st w = go (next (byte_kind b) st w b) (reach-within s)
  where
    go : (o : Option (List Symbol × Word)) → ((st : List Symbol) (w : Word) → reach st w s ≤ length s) → reach_by o (λ st w. reach st w s) ≤ suc (length s)
    go none ih = omega arith
    go (some p) ih = suc-le-suc (ih p.0 p.1)

reach-alive : (s : List ℕ) (st : List Symbol) (w : Word) → Alive st w (take (reach st w s) s)
reach-alive [] st w = tt
reach-alive (b ∷ s) st w = go (next (byte_kind b) st w b) refl (reach-alive s)
  where
    go : (o : Option (List Symbol × Word)) → next (byte_kind b) st w b ≡ o → ((st : List Symbol) (w : Word) → Alive st w (take (reach st w s) s))
        → Alive st w (take (reach_by o (λ st w. reach st w s)) (b ∷ s))
    go none e ih = tt
    go (some p) e ih = rw e (ih p.0 p.1)

reach-longest : (s : List ℕ) (st : List Symbol) (w : Word) (j : ℕ) → j ≤ length s → Alive st w (take j s) → j ≤ reach st w s
reach-longest s st w zero h a = omega arith
reach-longest [] st w (suc j) h a = omega arith
reach-longest (b ∷ s) st w (suc j) h a = go (next (byte_kind b) st w b) a (λ st w. reach-longest s st w j (le_of_suc-le-suc h))
  where
    go : (o : Option (List Symbol × Word)) → AliveBy o (λ st w. Alive st w (take j s)) → ((st : List Symbol) (w : Word) → Alive st w (take j s) → j ≤ reach st w s)
        → suc j ≤ reach_by o (λ st w. reach st w s)
    go none a ih = absurd a
    go (some p) a ih = suc-le-suc (ih p.0 p.1 a)

-- ---- the beginnings of texts are what is taken without a refusal
run-flush : (w : Word) (ts : List Token) (st : List Symbol) → run st (flush w ts) ≡ onward (after_word st w) (λ st. run st ts)
run-flush [] ts st = refl
run-flush (b ∷ w) ts st = refl

-- the word in hand goes on to a word
goes_on : (s : List ℕ) (b : ℕ) (w : Word) → (x : Word) × (ts : List Token) × (lex_from (b ∷ w) s ≡ word ((b ∷ w) ++ x) ∷ ts)
goes_on [] b w = ([], [], rw (append-nil w))
goes_on (c ∷ s) b w = go (byte_kind c) (goes_on s b)
  where
    go : (o : ByteKind) → ((w : Word) → (x : Word) × (ts : List Token) × (lex_from (b ∷ w) s ≡ word ((b ∷ w) ++ x) ∷ ts))
        → (x : Word) × (ts : List Token) × (lex_byte o (b ∷ w) c (λ w. lex_from w s) ≡ word ((b ∷ w) ++ x) ∷ ts)
    go blank_byte ih = ([], lex s, rw (append-nil w))
    go left ih = ([], opening ∷ lex s, rw (append-nil w))
    go right ih = ([], closing ∷ lex s, rw (append-nil w))
    go word_byte ih = let g = ih (w ++ c ∷ []) in (c ∷ g.0, g.1, g.2 ∙ ap (λ (v : Word). word (b ∷ v) ∷ g.1) (append_assoc w (c ∷ []) g.0))

in-hand : (st : List Symbol) (b : ℕ) (w : Word) (s : List ℕ) → run st (lex_from (b ∷ w) s) ≡ some [] → begins_in st (b ∷ w) ≡ true
in-hand st b w s q = let g = goes_on s b w in go g.0 g.1 (step st (word ((b ∷ w) ++ g.0))) refl (sym (ap (λ (l : List Token). run st l) g.2) ∙ q)
  where
    go : (x : Word) (ts : List Token) (o : Option (List Symbol)) → step st (word ((b ∷ w) ++ x)) ≡ o → onward o (λ st. run st ts) ≡ some [] → begins_in st (b ∷ w) ≡ true
    go x ts none e q = none-some q
    go x ts (some st') e q = let t = step-takes st st' ((b ∷ w) ++ x) e in rw t.listed (front-begins t.kind (b ∷ w) x t.good)

in-hand-end : (st : List Symbol) (w : Word) (b : ℕ) (s : List ℕ) → run st (lex_from (w ++ b ∷ []) s) ≡ some [] → begins_in st (w ++ b ∷ []) ≡ true
in-hand-end st [] b s q = in-hand st b [] s q
in-hand-end st (a ∷ w) b s q = in-hand st a (w ++ b ∷ []) s q

begins-alive : (t u : List ℕ) (st : List Symbol) (w : Word) → run st (lex_from w (t ++ u)) ≡ some [] → Alive st w t
begins-alive [] u st w q = tt
begins-alive (b ∷ t) u st w q = go (byte_kind b) q (begins-alive t u)
  where
    on : (o : Option (List Symbol)) → onward o (λ st. run st (lex (t ++ u))) ≡ some [] → ((st : List Symbol) (w : Word) → run st (lex_from w (t ++ u)) ≡ some [] → Alive st w t)
        → AliveBy (bare o) (λ st w. Alive st w t)
    on none q ih = none-some q
    on (some st) q ih = ih st [] q

    one : (o : Option (List Symbol)) (k : Token) → onward o (λ st. run st (k ∷ lex (t ++ u))) ≡ some []
        → onward (onward o (λ st. step st k)) (λ st. run st (lex (t ++ u))) ≡ some []
    one none k q = q
    one (some st) k q = q

    go : (o : ByteKind) → run st (lex_byte o w b (λ w. lex_from w (t ++ u))) ≡ some [] → ((st : List Symbol) (w : Word) → run st (lex_from w (t ++ u)) ≡ some [] → Alive st w t)
        → AliveBy (next o st w b) (λ st w. Alive st w t)
    go blank_byte q ih = on (after_word st w) (sym (run-flush w (lex (t ++ u)) st) ∙ q) ih
    go left q ih = on (onward (after_word st w) (λ st. step st opening)) (one (after_word st w) opening (sym (run-flush w (opening ∷ lex (t ++ u)) st) ∙ q)) ih
    go right q ih = on (onward (after_word st w) (λ st. step st closing)) (one (after_word st w) closing (sym (run-flush w (closing ∷ lex (t ++ u)) st) ∙ q)) ih
    go word_byte q ih = rw (in-hand-end st w b (t ++ u) q) (ih st (w ++ b ∷ []) q)

-- the word in hand, if there is one, begins a word that the stack takes
abbrev Held : List Symbol → Word → Type 0
Held st [] = Unit {0}
Held st (b ∷ w) = begins_in st (b ∷ w) ≡ true

held-end : (st : List Symbol) (w : Word) (b : ℕ) → begins_in st (w ++ b ∷ []) ≡ true → Held st (w ++ b ∷ [])
held-end st [] b e = e
held-end st (a ∷ w) b e = e

complete : (st : List Symbol) (w : Word) → Held st w → (u : List ℕ) × (run st (lex_from w u) ≡ some [])
complete st [] h = ((finish st).bytes, (finish st).ends)
complete st (b ∷ w) h = go (words_of st) refl h
  where
    go : (o : Option Class) → words_of st ≡ o → in_class o (b ∷ w) ≡ true → (u : List ℕ) × (run st (lex_from (b ∷ w) u) ≡ some [])
    go none l h = not-both (sym h)
    go (some c) l h =
        let x = begins-extends c (b ∷ w) h in
        let t = takes_step st c ((b ∷ w) ++ x.more) l x.good in
        let f = finish t.0 in
        (x.more ++ 32 ∷ f.bytes, rw (lex-word (b ∷ w) x.more x.plain x.filled f.bytes, t.1) f.ends)

alive-begins : (t : List ℕ) (st : List Symbol) (w : Word) → Held st w → Alive st w t → (u : List ℕ) × (run st (lex_from w (t ++ u)) ≡ some [])
alive-begins [] st w h a = complete st w h
alive-begins (b ∷ t) st w h a = go (byte_kind b) a (alive-begins t)
  where
    IH : Type 0
    IH = (st : List Symbol) (w : Word) → Held st w → Alive st w t → (u : List ℕ) × (run st (lex_from w (t ++ u)) ≡ some [])

    on : (o : Option (List Symbol)) → AliveBy (bare o) (λ st w. Alive st w t) → IH → (u : List ℕ) × (onward o (λ st. run st (lex (t ++ u))) ≡ some [])
    on none a ih = absurd a
    on (some st) a ih = ih st [] tt a

    one : (o : Option (List Symbol)) (k : Token) (u : List ℕ) → onward (onward o (λ st. step st k)) (λ st. run st (lex (t ++ u))) ≡ some []
        → onward o (λ st. run st (k ∷ lex (t ++ u))) ≡ some []
    one none k u q = q
    one (some st) k u q = q

    word_size : (c : Bool) → begins_in st (w ++ b ∷ []) ≡ c → AliveBy (cond c (some (st, w ++ b ∷ [])) none) (λ st w. Alive st w t) → IH
        → (u : List ℕ) × (run st (lex_from (w ++ b ∷ []) (t ++ u)) ≡ some [])
    word_size true e a ih = ih st (w ++ b ∷ []) (held-end st w b e) a
    word_size false e a ih = absurd a

    go : (o : ByteKind) → AliveBy (next o st w b) (λ st w. Alive st w t) → IH → (u : List ℕ) × (run st (lex_byte o w b (λ w. lex_from w (t ++ u))) ≡ some [])
    go blank_byte a ih = let g = on (after_word st w) a ih in (g.0, run-flush w (lex (t ++ g.0)) st ∙ g.1)
    go left a ih =
        let g = on (onward (after_word st w) (λ st. step st opening)) a ih in
        (g.0, run-flush w (opening ∷ lex (t ++ g.0)) st ∙ one (after_word st w) opening g.0 g.1)
    go right a ih =
        let g = on (onward (after_word st w) (λ st. step st closing)) a ih in
        (g.0, run-flush w (closing ∷ lex (t ++ g.0)) st ∙ one (after_word st w) closing g.0 g.1)
    go word_byte a ih = word_size (begins_in st (w ++ b ∷ [])) refl a ih

pub begins-exactly : (t : List ℕ) → Begins t ↔ Alive start [] t
begins-exactly t = (λ h. begins-alive t h.rest start [] ((texts-exactly (t ++ h.rest)).0 h.text), back)
  where
    back : Alive start [] t → Begins t
    back a = let g = alive-begins t start [] tt a in record { rest = g.0; text = (texts-exactly (t ++ g.0)).1 g.1 }

-- the place is the longest beginning, of any bytes; where they are no text it is the place of the refusal
pub place-longest : (s : List ℕ) → Longest s (place s)
unfolding place
place-longest s = record {
  within = reach-within s start [];
  begins = (begins-exactly (take (place s) s)).1 (reach-alive s start []);
  longest = λ j h b. reach-longest s start [] j h ((begins-exactly (take j s)).0 b);
}
