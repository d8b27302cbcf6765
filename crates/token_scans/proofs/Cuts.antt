-- A pass over a text's tokens, form by form: where the text is cut, its tokens are, and how the cuts move behind a token. Assumes nothing.
use mathlib.Core.Path.{◌≡◌, refl, sym, ap, ◌∙◌}
use mathlib.Core.Bool.{Bool, true, false, cond}
use mathlib.Core.List.{List, [], ◌∷◌, ◌++◌, append_assoc, append_cancel_left}
use Rattle.std.specs.Prelude.{Some}
use mathlib.Core.Logic.{inl, inr}
use Prim.Native.Nat.{ℕ, zero, suc, ◌+◌, ◌-◌, ◌≤◌}
use native.Mathlib.Omega.{arith}
use lib.Dec.{eqb}
use lib.ListN.{length, take, drop}
use lib.Seq.{take-take}
use borrow.Author.Tests.{eq-eqb, ne_eqb}
use Rattle.notation.specs.Words.{between}
use Rattle.notation.specs.Grammar.{Token}
use Rattle.notation.specs.Text.{Apart}
use Rattle.notation.proofs.Lexing.{lex}
use Rattle.lexemes.specs.declared.Lexeme.{Lexeme}
use Rattle.lexemes.specs.Lexeme.{next_lexeme, token_of, Parted}
use Rattle.lexemes.proofs.Laws.{Behind, parted-first, parted-splits, next-within, next-token, next-before, next-parted, next-parted-end, next-prefix}
use Rattle.notation.proofs.Between.{between-empty, drop-take}

-- ---- where a text is cut, its tokens are
apart-take : (n : ℕ) (v : List ℕ) → Apart v → Apart (take n v)
apart-take zero v a = tt
apart-take (suc n) [] a = tt
apart-take (suc n) (b ∷ v) a = a

parted-take : (s : List ℕ) (top n : ℕ) → top ≤ n → Parted s top → Parted (take n s) top
unfolding Parted
parted-take s top n h (inl a) = inl (rw (take-take top n s h) a)
parted-take s top n h (inr a) = inr (rw (drop-take top n s) (apart-take (n - top) (drop top s) a))

pub lex-part : (s : List ℕ) (top n : ℕ) → top ≤ n → Parted s top → lex (take n s) ≡ lex (take top s) ++ lex (between top n s)
lex-part s top n h p = rw (take-take top n s h, drop-take top n s) at (parted-splits (take n s) top (parted-take s top n h p))

-- the form around the place `at` begins at `top`, with d brackets open
pub record Cut (s : List ℕ) (top at d : ℕ) : Type 0 where
  pub within : at ≤ length s
  pub begun : top ≤ at
  pub deep : d ≤ at
  pub cut_top : Parted s top
  pub cut_here : Parted s at

pub cut-first : (s : List ℕ) → Cut s 0 0 0
cut-first s = record { within = omega arith; begun = omega arith; deep = omega arith; cut_top = parted-first s; cut_here = parted-first s }

-- r is the next token, and the form around it begins at top'
module _ (s : List ℕ) (top at d : ℕ) (g : Cut s top at d) (r : Lexeme) (e : next_lexeme s at ≡ Some r) where
  pub cut-within : Behind s at r
  cut-within = next-within s at g.within r e

  module _ (top' : ℕ) (t : top' ≡ cond (eqb d 0) r.start top) where
    abbrev token : Token
    token = token_of s r

    cut-start : Parted s r.start
    cut-start = next-parted s at g.within r e g.cut_here

    to_start : lex (take r.start s) ≡ lex (take at s)
    to_start = next-before s at g.within r e

    pub to-end-from : lex (take r.end s) ≡ lex (take at s) ++ token ∷ []
    to-end-from = next-prefix s at g.within r e g.cut_here

    to_end : lex (take r.end s) ≡ lex (take r.start s) ++ token ∷ []
    to_end = rw to_start to-end-from

    -- from any cut before it, one token more
    pub one_more : (cut : ℕ) → cut ≤ r.start → Parted s cut → lex (between cut r.end s) ≡ lex (between cut r.start s) ++ token ∷ []
    one_more cut h p =
        let b = cut-within in
        append_cancel_left (lex (take cut s)) (lex (between cut r.end s)) (lex (between cut r.start s) ++ token ∷ [])
        (sym (lex-part s cut r.end (omega (arith, b.filled)) p) ∙ to_end
        ∙ rw (lex-part s cut r.start h p) (append_assoc (lex (take cut s)) (lex (between cut r.start s)) (token ∷ [])))

    pub cut-begun : top' ≤ r.start
    cut-begun = rw t (go (eqb d 0))
      where
        go : (c : Bool) → cond c r.start top ≤ r.start
        go true = omega arith
        go false = let b = cut-within in omega (arith, g.begun, b.behind)

    pub cut-top : Parted s top'
    cut-top = rw t (go (eqb d 0))
      where
        go : (c : Bool) → Parted s (cond c r.start top)
        go true = cut-start
        go false = g.cut_top

    pub new-form : d ≡ 0 → (lex (take top' s) ≡ lex (take top s) ++ lex (between top at s)) × (lex (between top' r.start s) ≡ [])
    new-form z =
        let q : top' ≡ r.start = t ∙ rw (eq-eqb d 0 z) in
        rw q (to_start ∙ lex-part s top at g.begun g.cut_top, ap lex (between-empty r.start r.start s (omega arith)))

    pub same-form : (d ≡ 0 → ⊥) → (lex (take top' s) ≡ lex (take top s)) × (lex (between top' r.start s) ≡ lex (between top at s))
    same-form z =
        let q : top' ≡ top = t ∙ rw (ne_eqb d 0 z) in
        let b = cut-within in
        rw q (
          refl,
          append_cancel_left (lex (take top s)) (lex (between top r.start s)) (lex (between top at s))
              (sym (lex-part s top r.start (omega (arith, g.begun, b.behind)) g.cut_top) ∙ to_start ∙ lex-part s top at g.begun g.cut_top),
        )

    pub next-tokens : lex (drop at s) ≡ token ∷ lex (drop r.end s)
    next-tokens = next-token s at g.within r e

    pub cut-next : (d' : ℕ) → d' ≤ d + 1 → Cut s top' r.end d'
    cut-next d' h =
        let b = cut-within in
        record {
          within = b.inside;
          begun = omega (arith, cut-begun, b.filled);
          deep = omega (arith, h, g.deep, b.behind, b.filled);
          cut_top = cut-top;
          cut_here = next-parted-end s at g.within r e;
        }
