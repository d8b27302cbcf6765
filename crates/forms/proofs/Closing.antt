-- The turns of the walk back from a closing bracket to the one that opens its form.
use Rattle.std.specs.Prelude.{◌≡◌, true, false, cond, Some, None, List, [], ◌∷◌, reverse, ℕ, zero, suc, ◌≤◌, length, take}
use Rattle.std.proofs.Common.{refl, ◌∙◌, add-one, sub-one, arith}
use Rattle.std.proofs.Math.Option as maybe
use mathlib.Core.List.{reverse-append}
use lib.Dec.{eqb-suc-zero}
use lib.Seq.{take_all}
use Rattle.notation.specs.Words.{Word, between}
use Rattle.notation.specs.Grammar.{Token}
use Rattle.notation.proofs.Lexing.{lex}
use Rattle.lexemes.specs.declared.Kind.{Kind}
use Rattle.lexemes.specs.declared.Kind.TheVariants.{Opening, Closing as Closer, Word as AWord}
use Rattle.lexemes.specs.declared.Lexeme.{Lexeme}
use Rattle.lexemes.specs.Lexeme.{last_lexeme, token_by}
use Rattle.lexemes.proofs.Laws.{Before, last_within, last_none, last-token}
use Rattle.rep_around.specs.Outward.{Passed, at_first, stepped}
use Rattle.rep_around.proofs.Walks.{Kept, kept_step}
use Rattle.tabling.specs.Emit.{Around, around}
use Rattle.forms.specs.declared.Form.{Form}
use Rattle.forms.specs.Closes.{opens, Closes}

-- the walk from a place on
abbrev pub outwards : Passed → List Token → maybe.Option Around
outwards x ts = around x.depth x.items x.last x.prior ts

-- the form of a walk that ends before those tokens
abbrev pub formed : Passed → List Token → Around
formed x ts = record { rest = ts; items = x.items; head = x.last; second = x.prior }

walk-token : (k : Kind) (v : Word) (x : Passed) (ts : List Token) → outwards x (token_by k v ∷ ts) ≡ cond (opens k x) (maybe.some (formed x ts)) (outwards (stepped k v x) ts)
unfolding around
walk-token k v x ts = go k x.depth x.items x.last x.prior
  where
    go : (k : Kind) (n i : ℕ) (a b : Word) → around n i a b (token_by k v ∷ ts)
        ≡ cond (opens k (record { depth = n; items = i; last = a; prior = b })) (maybe.some (record { rest = ts; items = i; head = a; second = b }))
        (outwards (stepped k v (record { depth = n; items = i; last = a; prior = b })) ts)
    go Opening zero i a b = refl
    go Opening (suc n) i a b = rw (eqb-suc-zero n, sub-one (suc n))
    go Closer zero i a b = rw (add-one i)
    go Closer (suc n) i a b = rw (eqb-suc-zero n, add-one (suc n))
    go AWord zero i a b = rw (add-one i)
    go AWord (suc n) i a b = rw (eqb-suc-zero n)

-- a walk over the bytes e: p of them are still to come
pub record Closing (e : List ℕ) (p : ℕ) (x : Passed) : Type 0 where
  pub within : p ≤ length e
  pub kept : Kept (length e) p x
  pub same : around 0 0 [] [] (reverse (lex e)) ≡ outwards x (reverse (lex (take p e)))

pub closing-first : (e : List ℕ) → Closing e (length e) at_first
closing-first e = record {
  within = omega arith;
  kept = omega arith;
  same = rw (take_all (length e) e (omega arith));
}

module _ {e : List ℕ} {p : ℕ} {x : Passed} (g : Closing e p x) where
  pub closing-end : last_lexeme e p ≡ None → Closes e None
  unfolding around
  closing-end q = record { inside = tt; same = g.same ∙ rw (last_none e p g.within q) }

  module _ (r : Lexeme) (q : last_lexeme e p ≡ Some r) where
    pub closing-within : Before p r
    closing-within = last_within e p g.within r q

    abbrev here : Word
    here = between r.start r.end e

    turned : around 0 0 [] [] (reverse (lex e))
        ≡ cond (opens r.kind x) (maybe.some (formed x (reverse (lex (take r.start e))))) (outwards (stepped r.kind here x) (reverse (lex (take r.start e))))
    turned =
        g.same
        ∙ rw (last-token e p g.within r q, reverse-append (lex (take r.start e)) (token_by r.kind here ∷ []))
        (walk-token r.kind here x (reverse (lex (take r.start e))))

    pub closing-found : (f : Form) → f.«open» ≡ r.start → f.items ≡ x.items → f.head.now ≡ x.last → f.second.now ≡ x.prior → opens r.kind x ≡ true → Closes e (Some f)
    closing-found f i j k l b = record {
      inside = (let h = closing-within in let m = g.kept.many in (omega (arith, h.filled, h.inside, g.within, i), omega (arith, m, j)));
      same = turned ∙ rw (b, i, j, k, l);
    }

    pub closing-next : opens r.kind x ≡ false → (y : Passed) → y ≡ stepped r.kind here x → Closing e r.start y
    closing-next b y z = rw z (record {
      within = (let h = closing-within in omega (arith, h.filled, h.inside, g.within));
      kept = kept_step (length e) p r.start r.kind here x g.kept (let h = closing-within in omega (arith, h.filled, h.inside));
      same = turned ∙ rw b;
    })

    -- a word opens nothing
    pub closing-word : r.kind ≡ AWord → (y : Passed) → y ≡ stepped AWord here x → Closing e r.start y
    closing-word k y z = closing-next (rw k refl) y (rw k z)
