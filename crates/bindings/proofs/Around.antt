-- the names that are bound by reps around a place of a tree, as the scan outwards finds them.
use mathlib.Core.Path.{◌≡◌, refl, sym, ap, ◌∙◌}
use mathlib.Core.Bool.{true, false, cond, and-false}
use mathlib.Core.List.{List, [], ◌∷◌, ◌++◌, append-nil, reverse, reverse_aux, reverse_aux-append}
use mathlib.Core.Option.{Option, none, some}
use Prim.Native.Nat.{ℕ, zero, suc}
use Rattle.notation.specs.Words.{Word, same_word, Head, head_of, the_def}
use Rattle.notation.specs.Grammar.{Token, opening, closing, word, Tree, leaf, form, Items, nil, expr, bare, Def, tokens, item_tokens, name_tokens, Fine}
use Rattle.translation.specs.Names.{is_rep, binding}
use Rattle.token_scans.specs.Scan.{words_in, parameters_in}
use Rattle.rep_around.specs.Around.{rep_around}
use Rattle.token_scans.proofs.Codes.{rep_code, head-facts}
use Rattle.bindings.proofs.Trees.{Each, by-trees, each_of, Shape, plainly, folding, repeating, shape_of}
use Rattle.bindings.proofs.Modes.{modes_after, modes-append, words_append, Passed, lead_tokens, def_front, lead-front, reps-passed, front-passed}

pub back-append : (a b : List Token) → reverse (a ++ b) ≡ reverse_aux b (reverse a)
back-append a b = reverse_aux-append a b []

-- inside brackets that were closed on the way nothing counts
abbrev Unseen : List Token → Type 0
Unseen ts = (w : Word) (n k : ℕ) (u v : Word) (r : List Token) → rep_around w (suc n) k u v (reverse_aux ts r) ≡ rep_around w (suc n) k u v r

abbrev UnseenTree : Tree → Type 0
UnseenTree t = Unseen (tokens t)

items-unseen : (is : Items) → Each UnseenTree is → Unseen (item_tokens is)
unfolding item_tokens rep_around
items-unseen nil e w n k u v r = refl
items-unseen (expr t is) e w n k u v r = rw (reverse_aux-append (tokens t) (item_tokens is) r) (items-unseen is e.1 w n k u v (reverse_aux (tokens t) r) ∙ e.0 w n k u v r)
items-unseen (bare x is) e w n k u v r = items-unseen is e w n k u v (word x ∷ r)

form-unseen : (h : Word) (is : Items) → Each UnseenTree is → Unseen (tokens (form h is))
unfolding tokens rep_around
form-unseen h is e w n k u v r = rw (reverse_aux-append (item_tokens is) (closing ∷ []) (word h ∷ opening ∷ r)) (items-unseen is e w (suc n) k u v (word h ∷ opening ∷ r))

tree-unseen : (t : Tree) → Unseen (tokens t)
unfolding tokens rep_around
tree-unseen t = by-trees t UnseenTree (λ x w n k u v r. refl) form-unseen

-- a whole tree is one item; a leaf's word is the last one then
abbrev pub last_word : Tree → Word → Word
last_word (leaf x) u = x
last_word (form h is) u = u

abbrev pub word_before : Tree → Word → Word → Word
word_before (leaf x) u v = u
word_before (form h is) u v = v

pub tree-back : (t : Tree) (w : Word) (k : ℕ) (u v : Word) (r : List Token) → rep_around w 0 k u v (reverse_aux (tokens t) r) ≡ rep_around w 0 (suc k) (last_word t u) (word_before t u v) r
unfolding tokens rep_around
tree-back (leaf x) w k u v r = refl
tree-back (form h is) w k u v r =
    rw (reverse_aux-append (item_tokens is) (closing ∷ []) (word h ∷ opening ∷ r)) (items-unseen is (each_of UnseenTree tree-unseen is) w 0 (suc k) u v (word h ∷ opening ∷ r))

-- the rep that binds a word among those around, the nearest first, each with what is left before its bracket
abbrev pub Trail : Type 0
Trail = List (Word × List Token)

abbrev pub found : Word → Trail → Option (List Token)
found w [] = none
found w (x ∷ tr) = cond (same_word x.0 w) (some x.1) (found w tr)

-- Before an expression, all tokens of its top-level form so far: ps are the parameters, tr is the trail of the reps around
pub record Seen (ps : List Word) (before : List Token) (tr : Trail) : Type 0 where
  pub mode : modes_after 0 before ≡ 0
  pub params : parameters_in before ≡ ps
  pub reps : (w : Word) → rep_around w 0 0 [] [] (reverse before) ≡ found w tr

-- the same, whatever was passed of the form around
record Steady (ps : List Word) (before : List Token) (tr : Trail) : Type 0 where
  mode : modes_after 0 before ≡ 0
  params : parameters_in before ≡ ps
  reps : (w : Word) (k : ℕ) (u v : Word) → rep_around w 0 k u v (reverse before) ≡ found w tr

seen-steady : {ps : List Word} {before : List Token} {tr : Trail} → Steady ps before tr → Seen ps before tr
seen-steady s = record { mode = s.mode; params = s.params; reps = λ w. s.reps w 0 [] [] }

-- the next n expressions of a form: tr around the first of them, later around those behind it
abbrev pub Row : List Word → ℕ → List Token → Trail → Trail → Type 0
Row ps zero before tr later = Unit {0}
Row ps (suc n) before tr later = Seen ps before tr × ((t : Tree) → Fine t → Row ps n (before ++ tokens t) later later)

abbrev pub expr_count : Items → ℕ
expr_count nil = 0
expr_count (expr t is) = suc (expr_count is)
expr_count (bare w is) = expr_count is

on-mode : {n : ℕ} (before ts : List Token) → modes_after 0 before ≡ 0 → Passed rep_code 0 ts 0 [] [] n → modes_after 0 (before ++ ts) ≡ 0
on-mode before ts m p = modes-append 0 before ts ∙ rw m p.mode

on-params : {n : ℕ} {ps : List Word} (before ts : List Token) → modes_after 0 before ≡ 0 → parameters_in before ≡ ps → Passed rep_code 0 ts 0 [] [] n → parameters_in (before ++ ts) ≡ ps
on-params {ps = ps} before ts m e p = words_append 4 0 before ts ∙ rw (m, e, p.params) (append-nil ps)

steady-row : (n : ℕ) (ps : List Word) (before : List Token) (tr : Trail) → Steady ps before tr → Row ps n before tr tr
steady-row zero ps before tr s = tt
steady-row (suc n) ps before tr s = (seen-steady s, λ t f. steady-row n ps (before ++ tokens t) tr (on t f))
  where
    on : (t : Tree) → Fine t → Steady ps (before ++ tokens t) tr
    on t f = record {
      mode = on-mode before (tokens t) s.mode (reps-passed t f);
      params = on-params before (tokens t) s.mode s.params (reps-passed t f);
      reps = λ w k u v. rw (back-append before (tokens t)) (tree-back t w k u v (reverse before) ∙ s.reps w (suc k) (last_word t u) (word_before t u v));
    }

-- a form that is no rep binds nothing
other-reps : (h w : Word) (k : ℕ) (u v : Word) (r : List Token) → is_rep (head_of h) ≡ false → rep_around w 0 k u v (word h ∷ opening ∷ r) ≡ rep_around w 0 0 [] [] r
unfolding rep_around
other-reps h w k u v r e = rw (sym (head-facts h).spelt ∙ e, and-false)

lead-reps : (h w : Word) (is : Items) (k : ℕ) (u v : Word) (r : List Token) → is_rep (head_of h) ≡ false
    → rep_around w 0 k u v (reverse_aux (lead_tokens is) (word h ∷ opening ∷ r)) ≡ rep_around w 0 0 [] [] r
unfolding rep_around
lead-reps h w nil k u v r e = other-reps h w k u v r e
lead-reps h w (expr t is) k u v r e = other-reps h w k u v r e
lead-reps h w (bare x is) k u v r e = other-reps h w (suc k) x u r e

rep-front : (h x w : Word) (r : List Token) → rep_around w 0 0 [] [] (word x ∷ word h ∷ opening ∷ r) ≡ rep_around w 0 0 [] [] r
unfolding rep_around
rep-front h x w r = refl

rep-update : (h x w u v : Word) (r : List Token) → is_rep (head_of h) ≡ true
    → rep_around w 0 1 u v (word x ∷ word h ∷ opening ∷ r) ≡ cond (same_word x w) (some r) (rep_around w 0 0 [] [] r)
unfolding rep_around
rep-update h x w u v r e = rw (sym (head-facts h).spelt ∙ e)

binds-none {ℓ} : {A : Type ℓ} (k : Head) (is : Items) (f : Word → A) (around : List A) → is_rep k ≡ false → binding k is f around ≡ around
binds-none k nil f around e = refl
binds-none k (expr t is) f around e = refl
binds-none k (bare x is) f around e = rw e

module _ (ps : List Word) (before : List Token) (tr : Trail) (s : Seen ps before tr) (h : Word) where
  -- the tokens up to the form's first expression
  abbrev into : Items → List Token
  into is = opening ∷ word h ∷ lead_tokens is

  entered : (is : Items) → Shape h is → Passed rep_code 0 (into is) 0 [] [] (cond (is_rep (head_of h)) 1 0)
  entered is sh = lead-front rep_code is_rep (λ w. (head-facts w).repeats) h is sh

  other_row : (is : Items) → is_rep (head_of h) ≡ false → Shape h is → Row ps (expr_count is) (before ++ into is) tr tr
  other_row is e sh = steady-row (expr_count is) ps (before ++ into is) tr (record {
    mode = on-mode before (into is) s.mode (entered is sh);
    params = on-params before (into is) s.mode s.params (entered is sh);
    reps = λ w k u v. rw (back-append before (into is)) (lead-reps h w is k u v (reverse before) e ∙ s.reps w);
  })

  rep-row : (x : Word) (a b : Tree) → is_rep (head_of h) ≡ true → Shape h (bare x (expr a (expr b nil)))
      → Row ps 2 (before ++ into (bare x (expr a (expr b nil)))) tr ((x, reverse before) ∷ tr)
  rep-row x a b e sh = (record { mode = m; params = p; reps = λ w. rw (back-append before front) (rep-front h x w (reverse before) ∙ s.reps w) }, λ t f. (inside t f, λ t f. tt))
    where
      front : List Token
      front = into (bare x (expr a (expr b nil)))

      m : modes_after 0 (before ++ front) ≡ 0
      m = on-mode before front s.mode (entered (bare x (expr a (expr b nil))) sh)

      p : parameters_in (before ++ front) ≡ ps
      p = on-params before front s.mode s.params (entered (bare x (expr a (expr b nil))) sh)

      inside : (t : Tree) → Fine t → Seen ps (before ++ front ++ tokens t) ((x, reverse before) ∷ tr)
      inside t f = record {
        mode = on-mode (before ++ front) (tokens t) m (reps-passed t f);
        params = on-params (before ++ front) (tokens t) m p (reps-passed t f);
        reps = λ w.
            rw (back-append (before ++ front) (tokens t), back-append before front)
            (tree-back t w 0 [] [] (word x ∷ word h ∷ opening ∷ reverse before)
            ∙ rep-update h x w (last_word t []) (word_before t [] []) (reverse before) e ∙ rw (s.reps w));
      }

  shape_row : (is : Items) → Shape h is → Row ps (expr_count is) (before ++ into is) tr (binding (head_of h) is (λ x. (x, reverse before)) tr)
  shape_row is (plainly m r x) = rw (binds-none (head_of h) is (λ x. (x, reverse before)) tr r) (other_row is r (plainly m r x))
  shape_row _ (folding {is = is} w q t x) = rw (ap is_rep q) (other_row (bare w is) (ap is_rep q) (folding w q t x))
  shape_row _ (repeating x a b q t fa fb) = rw (ap is_rep q) (rep-row x a b (ap is_rep q) (repeating x a b q t fa fb))

  -- how the trail moves into a form: a rep's name is on it behind the first expression, before its update
  pub form-row : (is : Items) → Fine (form h is) → Row ps (expr_count is) (before ++ opening ∷ word h ∷ lead_tokens is) tr (binding (head_of h) is (λ x. (x, reverse before)) tr)
  form-row is f = shape_row is (shape_of h is f)

-- at the beginning of a top-level form nothing is bound; before a definition's body its parameters are
pub seen_first : Seen [] [] []
unfolding modes_after words_in rep_around
seen_first = record { mode = refl; params = refl; reps = λ w. refl }

names-unseen : (ws : List Word) → Unseen (name_tokens ws)
unfolding name_tokens rep_around
names-unseen [] w n k u v r = refl
names-unseen (x ∷ ws) w n k u v r = names-unseen ws w n k u v (word x ∷ r)

pub seen-body : (d : Def) → Seen d.params (def_front d) []
unfolding rep_around
seen-body d =
    let p = front-passed rep_code is_rep (λ w. (head-facts w).repeats) refl d in
    record {
      mode = p.mode;
      params = p.params;
      reps = λ w.
          rw (reverse_aux-append (name_tokens d.params) (closing ∷ []) (opening ∷ word d.name ∷ word the_def ∷ opening ∷ []))
          (names-unseen d.params w 0 1 [] [] (opening ∷ word d.name ∷ word the_def ∷ opening ∷ []));
    }
