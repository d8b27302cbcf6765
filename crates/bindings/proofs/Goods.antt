-- The tests of one word, and the turns of the pass over a text's names.
use Rattle.std.specs.Prelude.{◌≡◌, Bool, true, false, not, cond, ◌&&◌, ◌||◌, ◌⊎◌, Option, Some, None, is_some as holds_some, List}
use Rattle.std.specs.Prelude.{[], ◌∷◌, ◌++◌, reverse, ℕ, zero, suc, ◌≤◌, eqb, take, drop}
use Rattle.std.proofs.Common.{refl, sym, ap, ◌∙◌, inl, inr, arith}
use borrow.Author.Tests.{ne_eqb}
use Rattle.notation.specs.Words.{Word, between, one_of, index_of, own_name}
use Rattle.notation.specs.Grammar.{Token}
use Rattle.notation.proofs.Lexing.{lex}
use Rattle.lexemes.specs.declared.Lexeme.{Lexeme}
use Rattle.lexemes.specs.Lexeme.{next_lexeme, token_of, depth_by, depth_after}
use Rattle.lexemes.proofs.Laws.{Behind, next-end}
use Rattle.lexemes.proofs.Depth.{depth-kind, depth-most}
use Rattle.vocabulary.specs.Codes.{code_of, token_code}
use Rattle.vocabulary.proofs.Laws.{code-number, code-own}
use Rattle.token_scans.specs.Scan.{mode_after, definitions_in, parameters_in}
use Rattle.token_scans.specs.Sought.{named}
use Rattle.token_scans.proofs.Cuts.{Cut, cut-first, cut-within, cut-begun, cut-top, cut-next, next-tokens, new-form, same-form, one_more}
use Rattle.rep_around.specs.Around.{rep_around}
use Rattle.rep_around.specs.Outward.{Outward}
use Rattle.bindings.specs.Good.{is_some, word_good, token_good, names_pass}

-- ---- one word
pub named-some : (w : Word) (ws : List Word) → holds_some (named w ws) ≡ one_of w ws
named-some w ws = go (one_of w ws)
  where
    go : (b : Bool) → holds_some (cond b (Some (index_of w ws)) None) ≡ b
    go true = refl
    go false = refl

pub turned_over : (a b : Bool) → not a ≡ b → a ≡ not b
turned_over true b e = ap not e
turned_over false b e = ap not e

pub outward-some : (w : Word) (e : List ℕ) (r : Option ℕ) → Outward w e r → is_some (rep_around w 0 0 [] [] (reverse (lex e))) ≡ holds_some r
outward-some w e None o = rw o.same
outward-some w e (Some i) o = rw o.same

pub own_code : (w : Word) → own_name w ≡ eqb (code_of w) 19
own_code w = code-own w

-- k is its code
module _ (w : Word) (k : ℕ) (e : k ≡ code_of w) where
  pub own-by : own_name w ≡ eqb k 19
  own-by = rw (code-own w, ← e)

  module _ (before : List Token) where
    pub number-word : (k ≡ 18) ⊎ (k ≡ 20) → true ≡ word_good [] before 0 w
    unfolding word_good
    number-word (inl h) = rw (code-number w, ← e, h)
    number-word (inr h) = rw (code-number w, ← e, h)

    pub other-word : ((k ≡ 18) ⊎ (k ≡ 20) → ⊥) → word_good [] before 0 w ≡ (is_some (rep_around w 0 0 [] [] (reverse before)) || one_of w (parameters_in before))
    unfolding word_good
    other-word h = rw (code-number w, ← e, ne_eqb k 18 (λ q. h (inl q)), ne_eqb k 20 (λ q. h (inr q)))

-- one turn of the pass, whether a form begins or goes on
turn_by : (d m : ℕ) (earlier before earlier' before' more : List Token) (t : Token) (ts : List Token) → (d ≡ 0 → (earlier' ≡ earlier ++ before) × (before' ≡ []))
    → ((d ≡ 0 → ⊥) → (earlier' ≡ earlier) × (before' ≡ before)) → more ≡ before' ++ t ∷ []
    → names_pass earlier before d m (t ∷ ts) ≡ (token_good (definitions_in earlier') before' m t && names_pass earlier' more (depth_after d t) (mode_after m (token_code t)) ts)
unfolding names_pass
turn_by zero m earlier before earlier' before' more t ts z n e = let p = z refl in rw (e, p.0, p.1)
turn_by (suc d) m earlier before earlier' before' more t ts z n e = let p = n (λ q. omega arith) in rw (e, p.0, p.1)

-- ---- the pass over a text: the form around `at` begins at `top`
pub record Passing (s : List ℕ) (top at d m : ℕ) : Type 0 where
  pub cut : Cut s top at d
  pub same : names_pass [] [] 0 0 (lex s) ≡ names_pass (lex (take top s)) (lex (between top at s)) d m (lex (drop at s))

pub passing-first : (s : List ℕ) → Passing s 0 0 0 0
passing-first s = record { cut = cut-first s; same = refl }

module _ {s : List ℕ} {top at d m : ℕ} (g : Passing s top at d m) where
  pub passing-end : next_lexeme s at ≡ None → true ≡ names_pass [] [] 0 0 (lex s)
  unfolding names_pass
  passing-end q = sym (g.same ∙ rw (next-end s at g.cut.within q))

  -- r is the next token, and the form around it begins at top'
  module _ (r : Lexeme) (e : next_lexeme s at ≡ Some r) where
    pub passing-within : Behind s at r
    passing-within = cut-within s top at d g.cut r e

    module _ (top' : ℕ) (t : top' ≡ cond (eqb d 0) r.start top) where
      pub passing-begun : top' ≤ r.start
      passing-begun = cut-begun s top at d g.cut r e top' t

      abbrev token : Token
      token = token_of s r

      turned : names_pass [] [] 0 0 (lex s)
          ≡ (token_good (definitions_in (lex (take top' s))) (lex (between top' r.start s)) m token
          && names_pass (lex (take top' s)) (lex (between top' r.end s)) (depth_after d token) (mode_after m (token_code token)) (lex (drop r.end s)))
      turned =
          g.same
          ∙ ap (λ (l : List Token). names_pass (lex (take top s)) (lex (between top at s)) d m l) (next-tokens s top at d g.cut r e top' t)
          ∙ turn_by d m (lex (take top s)) (lex (between top at s)) (lex (take top' s)) (lex (between top' r.start s)) (lex (between top' r.end s)) token (lex (drop r.end s))
          (new-form s top at d g.cut r e top' t) (same-form s top at d g.cut r e top' t)
          (one_more s top at d g.cut r e top' t top' passing-begun (cut-top s top at d g.cut r e top' t))

      module _ (c : Bool) (f : c ≡ token_good (definitions_in (lex (take top' s))) (lex (between top' r.start s)) m (token_of s r)) where
        pub passing-bad : c ≡ false → false ≡ names_pass [] [] 0 0 (lex s)
        passing-bad q = sym (turned ∙ rw (← f, q))

        pub passing-next : c ≡ true → (d' k m' : ℕ) → d' ≡ depth_by d r.kind → k ≡ token_code (token_of s r) → m' ≡ mode_after m k → Passing s top' r.end d' m'
        passing-next q d' k m' u v w = record {
          cut = cut-next s top at d g.cut r e top' t d' (rw u (depth-most d r.kind));
          same = turned ∙ rw (← f, q, u, w, v, depth-kind d r.kind (between r.start r.end s));
        }
