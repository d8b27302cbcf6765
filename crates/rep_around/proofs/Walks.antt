-- The turns of the walk outwards to the rep that binds a word.
use Rattle.std.specs.Prelude.{◌≡◌, Bool, true, false, cond, ◌&&◌, Some, None, List, [], ◌∷◌, reverse, ℕ, zero, suc, ◌+◌, ◌-◌, ◌≤◌, ◌<◌, eqb, length, take}
use Rattle.std.proofs.Common.{refl, ◌∙◌, add-one, sub-one, arith}
use Rattle.std.proofs.Math.Option as maybe
use mathlib.Core.List.{reverse-append}
use lib.Dec.{eqb-suc-zero}
use lib.Seq.{take_all}
use Rattle.notation.specs.Words.{Word, between, same_word, the_rep}
use Rattle.notation.specs.Grammar.{Token}
use Rattle.notation.proofs.Lexing.{lex}
use Rattle.lexemes.specs.declared.Kind.{Kind}
use Rattle.lexemes.specs.declared.Kind.TheVariants.{Opening, Closing, Word as AWord}
use Rattle.lexemes.specs.declared.Lexeme.{Lexeme}
use Rattle.lexemes.specs.Lexeme.{last_lexeme, token_by}
use Rattle.lexemes.proofs.Laws.{Before, last_within, last_none, last-token}
use Rattle.rep_around.specs.Around.{rep_around}
use Rattle.rep_around.specs.Outward.{Outward, Passed, binds_here, at_first, stepped}

-- the walk from a place on
abbrev pub outwards : Word → Passed → List Token → maybe.Option (List Token)
outwards w x ts = rep_around w x.depth x.items x.last x.prior ts

-- one token
pub walk-token : (w : Word) (k : Kind) (v : Word) (x : Passed) (ts : List Token)
    → outwards w x (token_by k v ∷ ts) ≡ cond (binds_here w k x) (maybe.some ts) (outwards w (stepped k v x) ts)
unfolding rep_around
walk-token w k v x ts = go k x.depth x.items x.last x.prior
  where
    go : (k : Kind) (n i : ℕ) (a b : Word) → rep_around w n i a b (token_by k v ∷ ts)
        ≡ cond (binds_here w k (record { depth = n; items = i; last = a; prior = b })) (maybe.some ts) (outwards w (stepped k v (record { depth = n; items = i; last = a; prior = b })) ts)
    go Opening zero i a b = refl
    go Opening (suc n) i a b = rw (eqb-suc-zero n, sub-one (suc n))
    go Closing zero i a b = rw (add-one i)
    go Closing (suc n) i a b = rw (eqb-suc-zero n, add-one (suc n))
    go AWord zero i a b = rw (add-one i)
    go AWord (suc n) i a b = rw (eqb-suc-zero n)

-- what the code's tests say
pub binds-by : (w : Word) (x : Passed) → x.depth ≡ 0 → x.items ≡ 3 → (b : Bool) → b ≡ (same_word x.last the_rep && same_word x.prior w) → b ≡ binds_here w Opening x
binds-by w x p q b e = rw (p, q) e

-- the numbers of a walk stay small: p of `room` bytes are still to come
pub record Kept (room p : ℕ) (x : Passed) : Type 0 where
  pub deep : x.depth + p ≤ room
  pub many : x.items + p ≤ room

pub kept_step : (room p p' : ℕ) (k : Kind) (v : Word) (x : Passed) → Kept room p x → p' < p → Kept room p' (stepped k v x)
kept_step room p p' Opening v x h l = go (eqb x.depth 0)
  where
    go : (z : Bool) → Kept room p' (cond z at_first (record { depth = x.depth - 1; items = x.items; last = x.last; prior = x.prior }))
    go true = omega (arith, h.deep)
    go false = omega (arith, h)
kept_step room p p' Closing v x h l = go (eqb x.depth 0)
  where
    go : (z : Bool) → Kept room p' (record { depth = x.depth + 1; items = cond z (x.items + 1) x.items; last = x.last; prior = x.prior })
    go true = omega (arith, h)
    go false = omega (arith, h)
kept_step room p p' AWord v x h l = go (eqb x.depth 0)
  where
    go : (z : Bool) → Kept room p' (cond z (record { depth = 0; items = x.items + 1; last = v; prior = x.last }) x)
    go true = omega (arith, h)
    go false = omega (arith, h)

-- a walk over the bytes e: p of them are still to come
pub record Walking (w : Word) (e : List ℕ) (p : ℕ) (x : Passed) : Type 0 where
  pub within : p ≤ length e
  pub kept : Kept (length e) p x
  pub same : rep_around w 0 0 [] [] (reverse (lex e)) ≡ outwards w x (reverse (lex (take p e)))

pub walk_first : (w : Word) (e : List ℕ) → Walking w e (length e) at_first
walk_first w e = record {
  within = omega arith;
  kept = omega arith;
  same = rw (take_all (length e) e (omega arith));
}

module _ {w : Word} {e : List ℕ} {p : ℕ} {x : Passed} (g : Walking w e p x) where
  pub walk-end : last_lexeme e p ≡ None → Outward w e None
  unfolding rep_around
  walk-end q = record { inside = tt; same = g.same ∙ rw (last_none e p g.within q) }

  module _ (r : Lexeme) (q : last_lexeme e p ≡ Some r) where
    pub walk-within : Before p r
    walk-within = last_within e p g.within r q

    abbrev here : Word
    here = between r.start r.end e

    turned : rep_around w 0 0 [] [] (reverse (lex e))
        ≡ cond (binds_here w r.kind x) (maybe.some (reverse (lex (take r.start e)))) (outwards w (stepped r.kind here x) (reverse (lex (take r.start e))))
    turned =
        g.same
        ∙ rw (last-token e p g.within r q, reverse-append (lex (take r.start e)) (token_by r.kind here ∷ []))
        (walk-token w r.kind here x (reverse (lex (take r.start e))))

    pub walk-found : binds_here w r.kind x ≡ true → Outward w e (Some r.start)
    walk-found b = record { inside = (let h = walk-within in omega (arith, h.filled, h.inside, g.within)); same = turned ∙ rw b }

    pub walk-next : binds_here w r.kind x ≡ false → (y : Passed) → y ≡ stepped r.kind here x → Walking w e r.start y
    walk-next b y z = rw z (record {
      within = (let h = walk-within in omega (arith, h.filled, h.inside, g.within));
      kept = kept_step (length e) p r.start r.kind here x g.kept (let h = walk-within in omega (arith, h.filled, h.inside));
      same = turned ∙ rw b;
    })

    -- a word binds nothing
    pub walk-word : r.kind ≡ AWord → (y : Passed) → y ≡ stepped AWord here x → Walking w e r.start y
    walk-word k y z = walk-next (rw k refl) y (rw k z)
