-- what the scope of a tree has for a name is what the tokens before it say.
use mathlib.Core.Path.{◌≡◌, refl, ap, ◌∙◌}
use mathlib.Core.Bool.{Bool, true, false, cond, ◌||◌}
use mathlib.Core.List.{List, [], ◌∷◌, ◌++◌, reverse, reverse-reverse}
use mathlib.Core.Option.{some}
use Prim.Native.Nat.{ℕ, suc, ◌+◌}
use native.Mathlib.Nat.{zero-add}
use native.Mathlib.Omega.{arith}
use Rattle.notation.specs.Words.{Word, same_word, one_of, index_of, lookup, Head}
use Rattle.notation.specs.Grammar.{Token, Items, nil, expr, bare}
use Rattle.translation.specs.Names.{is_rep, binding}
use Rattle.translation.specs.Numbering.{Meaning, parameter, variable, Scope, parameters}
use Rattle.token_scans.specs.Scan.{heads_in, reps_in}
use Rattle.rep_around.specs.Meaning.{by_rep, meaning_at}
use Rattle.bindings.proofs.Modes.{modes_after, heads-append}
use Rattle.bindings.proofs.Around.{Trail, found, Seen}
use Rattle.bindings.proofs.Names.{same-sym}

-- the scope of a trail: each name with its rep's variable
abbrev pub trail_scope : ℕ → Trail → Scope
trail_scope base [] = []
trail_scope base (x ∷ tr) = (x.0, variable (base + reps_in (reverse x.1))) ∷ trail_scope base tr

abbrev pub scope_of : ℕ → List Word → Trail → Scope
scope_of base ps tr = trail_scope base tr ++ parameters 0 ps

lookup-parameters : (w : Word) (k : ℕ) (ps : List Word) (r : Meaning) → lookup w (parameters k ps) r ≡ cond (one_of w ps) (parameter (k + index_of w ps)) r
unfolding parameters index_of
lookup-parameters w k [] r = refl
lookup-parameters w k (x ∷ ps) r = go (same_word w x) (one_of w ps) (lookup-parameters w (suc k) ps r)
  where
    go : (c d : Bool) → lookup w (parameters (suc k) ps) r ≡ cond d (parameter (suc k + index_of w ps)) r
        → cond c (parameter k) (lookup w (parameters (suc k) ps) r) ≡ cond (c || d) (parameter (k + cond c 0 (suc (index_of w ps)))) r
    go true d e = ap parameter (omega arith)
    go false true e = e ∙ ap parameter (omega arith)
    go false false e = e

lookup-trail : (w : Word) (base : ℕ) (tr : Trail) (sc : Scope) (r : Meaning) → lookup w (trail_scope base tr ++ sc) r ≡ by_rep base (found w tr) (lookup w sc r)
lookup-trail w base [] sc r = refl
lookup-trail w base (x ∷ tr) sc r = rw (same-sym x.0 w) (go (same_word w x.0) (lookup-trail w base tr sc r))
  where
    go : (c : Bool) → lookup w (trail_scope base tr ++ sc) r ≡ by_rep base (found w tr) (lookup w sc r)
        → cond c (variable (base + reps_in (reverse x.1))) (lookup w (trail_scope base tr ++ sc) r) ≡ by_rep base (cond c (some x.1) (found w tr)) (lookup w sc r)
    go true e = refl
    go false e = e

-- a name's meaning
pub meaning-exactly : (base : ℕ) {ps : List Word} {before : List Token} {tr : Trail} → Seen ps before tr → (w : Word)
    → lookup w (scope_of base ps tr) (parameter 0) ≡ meaning_at base before w
unfolding meaning_at
meaning-exactly base {ps} {before} {tr} s w =
    lookup-trail w base tr (parameters 0 ps) (parameter 0)
    ∙ rw (s.reps w, s.params, lookup-parameters w 0 ps (parameter 0), zero-add (index_of w ps))

-- the scope behind a form's first expression
pub later-meanings : (base : ℕ) (ps : List Word) (tr : Trail) (before : List Token) (k : Head) (is : Items)
    → scope_of base ps (binding k is (λ x. (x, reverse before)) tr) ≡ binding k is (λ x. (x, variable (base + reps_in before))) (scope_of base ps tr)
later-meanings base ps tr before k nil = refl
later-meanings base ps tr before k (expr t is) = refl
later-meanings base ps tr before k (bare x is) = go (is_rep k)
  where
    go : (c : Bool) → scope_of base ps (cond c ((x, reverse before) ∷ tr) tr) ≡ cond c ((x, variable (base + reps_in before)) ∷ scope_of base ps tr) (scope_of base ps tr)
    go true = rw (reverse-reverse before)
    go false = refl

-- heads are counted on
pub heads-on : (f : ℕ → Bool) (before ts : List Token) → modes_after 0 before ≡ 0 → heads_in f 0 (before ++ ts) ≡ heads_in f 0 before + heads_in f 0 ts
heads-on f before ts m = rw m at (heads-append f 0 before ts)
