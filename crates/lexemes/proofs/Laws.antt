-- The tokens that `next` and `last` find are those of notation's layout, one at a time. Assumes nothing.
use mathlib.Core.Path.{◌≡◌, sym, ap, ◌∙◌}
use mathlib.Core.List.{List, [], ◌∷◌, ◌++◌, reverse, reverse-reverse}
use mathlib.Core.Logic.{◌⊎◌, inl, inr}
use Prim.Native.Nat.{ℕ, zero, suc, ◌+◌, ◌-◌, ◌≤◌, ◌<◌}
use native.Mathlib.Omega.{arith}
use native.Mathlib.Nat.{add-zero}
use lib.ListN.{length, get_or, take, drop, take-append-drop, length-drop, length-reverse}
use lib.Seq.{drop-length, drop-cons, drop-drop, get_or-drop, take-add, length-take-le}
use Rattle.notation.specs.Words.{between}
use Rattle.notation.specs.Text.{ByteKind, left, right, byte_kind, Plain, Apart}
use Rattle.notation.proofs.Lexing.{lex}
use Rattle.notation.proofs.Machine.{Symbol}
use Rattle.notation.proofs.Place.{reach}
use Rattle.std.specs.Prelude.{Some, None}
use Rattle.lexemes.specs.declared.Kind.{Kind}
use Rattle.lexemes.specs.declared.Kind.TheVariants.{Opening, Closing, Word}
use Rattle.lexemes.specs.declared.Lexeme.{Lexeme}
use Rattle.lexemes.specs.Lexeme.{blank_size, next_lexeme, last_lexeme, token_of, Parted}
use Rattle.lexemes.proofs.Leading.{forth-within, back-drop, back-take}
use Rattle.lexemes.proofs.Made.{firm, last-back, firm-back, From, from-none, from-some, To, to-none, to-some}
use Rattle.lexemes.proofs.Cut.{cut, lex-gaps, blank-after, back-gaps, reach-gaps}
use Rattle.lexemes.proofs.Seen.{Seen, seen_size, seen-some, seen-token, seen-alone, seen_back, seen-word, seen-left, seen-right, seen_end, seen_start, gaps-end}

-- ---- places that are not inside a word
pub parted-first : (s : List ℕ) → Parted s 0
unfolding Parted
parted-first s = inl tt

pub parted-last : (s : List ℕ) → Parted s (length s)
unfolding Parted
parted-last s = inr (rw (drop-length s) tt)

pub parted-splits : (s : List ℕ) (at : ℕ) → Parted s at → lex s ≡ lex (take at s) ++ lex (drop at s)
unfolding Parted
parted-splits s at p = ap lex (sym (take-append-drop at s)) ∙ cut (take at s) (drop at s) p

-- ---- the bytes a..b
slice : (s : List ℕ) (a n : ℕ) → between a (a + n) s ≡ take n (drop a s)
slice s a n = let e : a + n - a ≡ n = omega arith in rw e

slice-drop : (s : List ℕ) (a b : ℕ) → a ≤ b → drop a s ≡ between a b s ++ drop b s
slice-drop s a b h =
    let e : a + (b - a) ≡ b = omega arith in
    sym (take-append-drop (b - a) (drop a s)) ∙ ap (λ (l : List ℕ). between a b s ++ l) (rw e at (drop-drop (b - a) a s))

-- ---- the next token
pub record Behind (s : List ℕ) (at : ℕ) (r : Lexeme) : Type 0 where
  pub behind : at ≤ r.start
  pub filled : r.start < r.end
  pub inside : r.end ≤ length s

-- its bytes are those of a word, as far as it goes
pub record WordAt (s : List ℕ) (r : Lexeme) : Type 0 where
  pub plain : Plain (between r.start r.end s)
  pub apart : Apart (drop r.end s)
  pub whole : drop r.start s ≡ between r.start r.end s ++ drop r.end s
  pub filled : between r.start r.end s ≡ [] → ⊥

-- it is one byte of that kind
pub record BracketAt (s : List ℕ) (r : Lexeme) (o : ByteKind) : Type 0 where
  pub sorted : byte_kind (get_or s r.start 0) ≡ o
  pub first : drop r.start s ≡ get_or s r.start 0 ∷ drop r.end s
  pub one : r.end ≡ suc r.start

apart-take : (n : ℕ) (v : List ℕ) → Apart v → Apart (take n v)
apart-take zero v a = tt
apart-take (suc n) [] a = tt
apart-take (suc n) (b ∷ v) a = a

module _ (s : List ℕ) (at : ℕ) (h : at ≤ length s) where
  abbrev first : ℕ
  first = at + blank_size (drop at s)

  first-within : first ≤ length s
  first-within = forth-within s at h

  lex-first : lex (drop at s) ≡ lex (drop first s)
  lex-first = lex-gaps (drop at s) ∙ ap lex (drop-drop (blank_size (drop at s)) at s)

  lex-before : lex (take first s) ≡ lex (take at s)
  lex-before = rw (take-add at (blank_size (drop at s)) s) (blank-after (take at s) (drop at s))

  reach-first : (st : List Symbol) → reach st [] (drop at s) ≡ first - at + reach st [] (drop first s)
  reach-first st =
      let e : first - at ≡ blank_size (drop at s) = omega arith in
      rw (e, ← drop-drop (blank_size (drop at s)) at s) (reach-gaps st (drop at s))

  parted-here : Parted s at → Parted s first
  unfolding Parted
  parted-here p = rw (take-add at (blank_size (drop at s)) s, ← drop-drop (blank_size (drop at s)) at s) (gaps-end (take at s) (drop at s) p)

  -- ---- there is none
  module _ (e : next_lexeme s at ≡ None) where
    nothing : drop first s ≡ []
    nothing = from-none first (drop first s) e

    pub next-end : lex (drop at s) ≡ []
    next-end = lex-first ∙ ap lex nothing

    first-last : first ≡ length s
    first-last = omega (arith, first-within, length-drop first s, ap length nothing)

    pub next-reach_end : (st : List Symbol) → reach st [] (drop at s) ≡ length s - at + reach st [] []
    next-reach_end st = rw first-last at (rw nothing at (reach-first st))

  -- ---- it is of that kind and size
  module _ {k : Kind} {n : ℕ} (g : Seen (drop first s) k n) where
    abbrev it : Lexeme
    it = record { kind = k; start = first; end = first + n }

    end-within : first + n ≤ length s
    end-within = omega (arith, seen_size g, length-drop first s, first-within)

    it-within : Behind s at it
    it-within = record { behind = omega arith; filled = omega (arith, seen-some g); inside = end-within }

    it-token : lex (drop at s) ≡ token_of s it ∷ lex (drop it.end s)
    it-token = lex-first ∙ rw (slice s first n, ← drop-drop n first s) (seen-token g)

    it-word : k ≡ Word → WordAt s it
    it-word q =
        let w = seen-word g q in
        record {
          plain = rw (slice s first n) w.0;
          apart = rw (← drop-drop n first s) w.1;
          whole = slice-drop s first (first + n) (omega arith);
          filled = λ e. omega (arith, seen-some g, seen_size g, length-take-le n (drop first s) (seen_size g), ap length (sym (slice s first n) ∙ e));
        }

    it-bracket : (o : ByteKind) → (byte_kind (get_or (drop first s) 0 0) ≡ o) × (n ≡ 1) → BracketAt s it o
    it-bracket o b =
        let e : first + n ≡ suc first = omega (arith, b.1) in
        record {
          sorted = ap (λ (i : ℕ). byte_kind (get_or s i 0)) (sym (add-zero first)) ∙ ap byte_kind (sym (get_or-drop first s 0 0)) ∙ b.0;
          first = rw e (drop-cons s first 0 (omega (arith, end-within)));
          one = e;
        }

    it-end : Parted s it.end
    unfolding Parted
    it-end = rw (take-add first n s, ← drop-drop n first s) (seen_end g (take first s))

    it-prefix : Parted s at → lex (take it.end s) ≡ lex (take at s) ++ token_of s it ∷ []
    unfolding Parted
    it-prefix p =
        rw (take-add first n s, slice s first n)
        (cut (take first s) (take n (drop first s)) (go (parted-here p)) ∙ rw (lex-before, seen-alone g))
      where
        go : Apart (reverse (take first s)) ⊎ Apart (drop first s) → Apart (reverse (take first s)) ⊎ Apart (take n (drop first s))
        go (inl a) = inl a
        go (inr a) = inr (apart-take n (drop first s) a)

  module _ (r : Lexeme) (e : next_lexeme s at ≡ Some r) where
    found : From first (drop first s) r
    found = from-some first (drop first s) r (firm s at) e

    pub next-within : Behind s at r
    next-within = rw found.is (it-within found.front)

    pub next-token : lex (drop at s) ≡ token_of s r ∷ lex (drop r.end s)
    next-token = rw found.is (it-token found.front)

    pub next_word : r.kind ≡ Word → WordAt s r
    next_word q = rw found.is (it-word found.front (rw found.is at q))

    pub next-opening : r.kind ≡ Opening → BracketAt s r left
    next-opening q = rw found.is (it-bracket found.front left (seen-left found.front (rw found.is at q)))

    pub next-closing : r.kind ≡ Closing → BracketAt s r right
    next-closing q = rw found.is (it-bracket found.front right (seen-right found.front (rw found.is at q)))

    -- blanks are always taken
    pub next-reach : (st : List Symbol) → reach st [] (drop at s) ≡ r.start - at + reach st [] (drop r.start s)
    next-reach st = rw found.is (reach-first st)

    -- ---- the tokens of the bytes before it, and with it
    pub next-before : lex (take r.start s) ≡ lex (take at s)
    next-before = rw found.is lex-before

    pub next-parted : Parted s at → Parted s r.start
    next-parted p = rw found.is (parted-here p)

    pub next-parted-end : Parted s r.end
    next-parted-end = rw found.is (it-end found.front)

    pub next-prefix : Parted s at → lex (take r.end s) ≡ lex (take at s) ++ token_of s r ∷ []
    next-prefix p = rw found.is (it-prefix found.front p)

-- ---- the last token
pub record Before (at : ℕ) (r : Lexeme) : Type 0 where
  pub filled : r.start < r.end
  pub inside : r.end ≤ at

-- a token that is seen from its end, backwards
module _ (s : List ℕ) (end : ℕ) (h : end ≤ length s) {k : Kind} {n : ℕ} (g : Seen (reverse (take end s)) k n) where
  size-within : n ≤ end
  size-within = omega (arith, seen_size g, length-reverse (take end s), length-take-le end s h)

  before : (at : ℕ) → end ≤ at → Before at (record { kind = k; start = end - n; end = end })
  before at l = record { filled = omega (arith, size-within, seen-some g); inside = l }

  -- the bytes before it, and its own
  rest : reverse (drop n (reverse (take end s))) ≡ take (end - n) s
  rest = rw (back-drop s end n h size-within) (reverse-reverse (take (end - n) s))

  own : reverse (take n (reverse (take end s))) ≡ between (end - n) end s
  own =
      let f = size-within in
      let e : end - (end - n) ≡ n = omega arith in
      rw (back-take s end n h f, e) (reverse-reverse (take n (drop (end - n) s)))

  token : lex (take end s) ≡ lex (take (end - n) s) ++ token_of s (record { kind = k; start = end - n; end = end }) ∷ []
  token = rw (← rest, ← own) (rw reverse-reverse at (seen_back g))

  parted : Parted s (end - n)
  unfolding Parted
  parted = rw (slice-drop s (end - n) end (omega arith), ← own, ← back-drop s end n h size-within) (seen_start g (drop end s))

module _ (s : List ℕ) (at : ℕ) (h : at ≤ length s) where
  abbrev past : ℕ
  past = at - blank_size (reverse (take at s))

  past-within : past ≤ length s
  past-within = omega arith

  lex-past : lex (take at s) ≡ lex (take past s)
  lex-past = rw (reverse-reverse, last-back s at h, reverse-reverse) at (back-gaps (reverse (take at s)))

  pub last_none : last_lexeme s at ≡ None → lex (take at s) ≡ []
  last_none e = lex-past ∙ rw reverse-reverse at (ap (λ (l : List ℕ). lex (reverse l)) (to-none past (reverse (take past s)) e))

  module _ (r : Lexeme) (e : last_lexeme s at ≡ Some r) where
    met : To past (reverse (take past s)) r
    met = to-some past (reverse (take past s)) r (firm-back s at h) e

    pub last_within : Before at r
    last_within = rw met.is (before s past past-within met.front at (omega arith))

    pub last-token : lex (take at s) ≡ lex (take r.start s) ++ token_of s r ∷ []
    last-token = lex-past ∙ rw met.is (token s past past-within met.front)

    pub last-parted : Parted s r.start
    last-parted = rw met.is (parted s past past-within met.front)
