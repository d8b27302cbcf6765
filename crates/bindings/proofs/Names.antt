-- the pass over the tokens of a fine program says what its tree says of its names.
use mathlib.Core.Path.{◌≡◌, refl, sym, ap, ◌∙◌}
use mathlib.Core.Bool.{Bool, true, false, not, cond, ◌&&◌, ◌||◌, and_assoc, and-true, or_assoc}
use mathlib.Core.List.{List, [], ◌∷◌, ◌++◌, append_assoc, append-nil, reverse}
use mathlib.Core.Option.{some}
use Prim.Native.Nat.{ℕ, zero, suc, ◌-◌}
use native.Mathlib.Omega.{arith}
use lib.Dec.{eqb}
use borrow.Author.Tests.{eqb-true, eqb-false}
use Rattle.notation.specs.Words.{Word, same_word, every, index_of, operator, is_letter, is_digit, name_byte, one_of, own_name, is_name, reserved, is_number, binder, Head, head_of, the_def}
use Rattle.notation.specs.Grammar.{Token, opening, closing, word, Tree, leaf, form, Items, nil, expr, bare, Def, Program, tokens, item_tokens, name_tokens, def_tokens, defs_tokens, program_tokens}
use Rattle.notation.specs.Grammar.{Fine, Exprs, Names, FineDef, FineDefs, FineProgram}
use Rattle.notation.specs.Text.{Spaced}
use Rattle.notation.proofs.Lexing.{lex, spaced-exactly}
use Rattle.translation.specs.Names.{known, is_rep, binding, lead_good, resolves, items_resolve, parameters_good, definition_good, names_from, names_good}
use Rattle.vocabulary.specs.Codes.{code_of, token_code}
use Rattle.token_scans.specs.Scan.{mode_after, words_in, definitions_in, parameters_in}
use Rattle.rep_around.specs.Around.{rep_around}
use Rattle.bindings.specs.Good.{is_some, word_good, token_good, names_pass}
use Rattle.token_scans.proofs.Codes.{head_mode, rep_code, head-facts}
use Rattle.bindings.proofs.Trees.{Each, by-trees, each_of, Shape, plainly, folding, repeating, shape_of}
use Rattle.bindings.proofs.Modes.{modes_after, modes-append, words_append, Passed, tree_heads, lead_tokens, no_lead, def_front, def-parts, reps-passed, def-passed}
use Rattle.bindings.proofs.Around.{Trail, found, Seen, Row, expr_count, form-row, seen_first, seen-body}

-- the words of some tokens of one top-level form
unfoldable pub within : List Word → List Token → ℕ → List Token → Bool
within ds before m [] = true
within ds before m (t ∷ ts) = token_good ds before m t && within ds (before ++ t ∷ []) (mode_after m (token_code t)) ts

within-append : (ds : List Word) (before : List Token) (m : ℕ) (a b : List Token)
    → within ds before m (a ++ b) ≡ (within ds before m a && within ds (before ++ a) (modes_after m a) b)
unfolding within modes_after
within-append ds before m [] b = rw (append-nil before)
within-append ds before m (t ∷ a) b =
    rw (within-append ds (before ++ t ∷ []) (mode_after m (token_code t)) a b)
    (rw (append_assoc before (t ∷ []) a)
    (sym (and_assoc (token_good ds before m t) (within ds (before ++ t ∷ []) (mode_after m (token_code t)) a) (within ds (before ++ t ∷ a) (modes_after (mode_after m (token_code t)) a) b))))

within-shut : (ds : List Word) (before : List Token) (m : ℕ) (ts : List Token) → within ds before m (ts ++ closing ∷ []) ≡ within ds before m ts
unfolding within
within-shut ds before m ts = within-append ds before m ts (closing ∷ []) ∙ and-true (within ds before m ts)

-- ---- inside a form the depth does not come back to 0
abbrev Stays : List Token → Type 0
Stays ts = (earlier before : List Token) (d m : ℕ) (r : List Token)
    → names_pass earlier before (suc d) m (ts ++ r) ≡ (within (definitions_in earlier) before m ts && names_pass earlier (before ++ ts) (suc d) (modes_after m ts) r)

abbrev StaysTree : Tree → Type 0
StaysTree t = Stays (tokens t)

stays-word : (w : Word) → Stays (word w ∷ [])
unfolding within modes_after names_pass
stays-word w earlier before d m r = sym (and_assoc (word_good (definitions_in earlier) before m w) true (names_pass earlier (before ++ word w ∷ []) (suc d) (mode_after m (code_of w)) r))

stays-append : (a b : List Token) → Stays a → Stays b → Stays (a ++ b)
stays-append a b p q earlier before d m r =
    rw (append_assoc a b r, p earlier before d m (b ++ r), q earlier (before ++ a) d (modes_after m a) r)
    (rw (append_assoc before a b, modes-append m a b, within-append (definitions_in earlier) before m a b)
    (sym (and_assoc (within (definitions_in earlier) before m a) (within (definitions_in earlier) (before ++ a) (modes_after m a) b)
    (names_pass earlier (before ++ (a ++ b)) (suc d) (modes_after (modes_after m a) b) r))))

-- up to the bracket that closes a form
shut-pass : (inner : List Token) → Stays inner → (earlier before : List Token) (d m : ℕ) (r : List Token)
    → names_pass earlier before (suc d) m ((inner ++ closing ∷ []) ++ r)
    ≡ (within (definitions_in earlier) before m (inner ++ closing ∷ []) && names_pass earlier (before ++ (inner ++ closing ∷ [])) d (modes_after m (inner ++ closing ∷ [])) r)
unfolding within modes_after names_pass
shut-pass inner p earlier before d m r =
    let e : suc d - 1 ≡ d = omega arith in
    rw (append_assoc inner (closing ∷ []) r, p earlier before d m (closing ∷ r), e)
    (rw (within-append (definitions_in earlier) before m inner (closing ∷ []), modes-append m inner (closing ∷ []), append_assoc before inner (closing ∷ []))
    (sym (and_assoc (within (definitions_in earlier) before m inner) true (names_pass earlier (before ++ (inner ++ closing ∷ [])) d (mode_after (modes_after m inner) 23) r))))

stays-brackets : (inner : List Token) → Stays inner → Stays (opening ∷ inner ++ closing ∷ [])
unfolding within modes_after names_pass
stays-brackets inner p earlier before d m r =
    shut-pass inner p earlier (before ++ opening ∷ []) (suc d) (mode_after m 22) r ∙ rw (append_assoc before (opening ∷ []) (inner ++ closing ∷ []))

stays-items : (is : Items) → Each StaysTree is → Stays (item_tokens is)
unfolding item_tokens within modes_after names_pass
stays-items nil e = λ earlier before d m r. rw (append-nil before)
stays-items (expr t is) e = stays-append (tokens t) (item_tokens is) e.0 (stays-items is e.1)
stays-items (bare w is) e = stays-append (word w ∷ []) (item_tokens is) (stays-word w) (stays-items is e)

stays-inner : (h : Word) (is : Items) → Each StaysTree is → Stays (word h ∷ item_tokens is)
stays-inner h is e = stays-append (word h ∷ []) (item_tokens is) (stays-word h) (stays-items is e)

stays-tree : (t : Tree) → Stays (tokens t)
unfolding tokens
stays-tree t = by-trees t StaysTree stays-word λ h is e. stays-brackets (word h ∷ item_tokens is) (stays-inner h is e)

-- a top-level form
abbrev Whole : List Token → Type 0
Whole ts = (earlier before : List Token) (m : ℕ) (r : List Token)
    → names_pass earlier before 0 m (ts ++ r) ≡ (within (definitions_in (earlier ++ before)) [] m ts && names_pass (earlier ++ before) ts 0 (modes_after m ts) r)

whole-brackets : (inner : List Token) → Stays inner → Whole (opening ∷ inner ++ closing ∷ [])
unfolding within modes_after names_pass
whole-brackets inner p earlier before m r = shut-pass inner p (earlier ++ before) (opening ∷ []) 0 (mode_after m 22) r

whole-tree : (t : Tree) → Whole (tokens t)
unfolding tokens within modes_after names_pass
whole-tree (leaf w) = λ earlier before m r.
    sym (and_assoc (word_good (definitions_in (earlier ++ before)) [] m w) true (names_pass (earlier ++ before) (word w ∷ []) 0 (mode_after m (code_of w)) r))
whole-tree (form h is) = whole-brackets (word h ∷ item_tokens is) (stays-inner h is (each_of StaysTree stays-tree is))

stays-names : (ws : List Word) → Stays (name_tokens ws)
unfolding name_tokens within modes_after names_pass
stays-names [] = λ earlier before d m r. rw (append-nil before)
stays-names (w ∷ ws) = stays-append (word w ∷ []) (name_tokens ws) (stays-word w) (stays-names ws)

whole-def : (d : Def) → Whole (def_tokens d)
whole-def d =
    rw (def-inner d)
    (whole-brackets (word the_def ∷ word d.name ∷ (opening ∷ name_tokens d.params ++ closing ∷ []) ++ tokens d.body)
    (stays-append (word the_def ∷ []) (word d.name ∷ (opening ∷ name_tokens d.params ++ closing ∷ []) ++ tokens d.body) (stays-word the_def)
    (stays-append (word d.name ∷ []) ((opening ∷ name_tokens d.params ++ closing ∷ []) ++ tokens d.body) (stays-word d.name)
    (stays-append (opening ∷ name_tokens d.params ++ closing ∷ []) (tokens d.body) (stays-brackets (name_tokens d.params) (stays-names d.params)) (stays-tree d.body)))))
  where
    def-inner : (d : Def) → def_tokens d ≡ opening ∷ (word the_def ∷ word d.name ∷ (opening ∷ name_tokens d.params ++ closing ∷ []) ++ tokens d.body) ++ closing ∷ []
    def-inner d =
        def-parts d ∙ ap (λ (l : List Token). opening ∷ word the_def ∷ word d.name ∷ opening ∷ l) (sym (append_assoc (name_tokens d.params ++ closing ∷ []) (tokens d.body) (closing ∷ [])))

-- ---- the words of an expression
abbrev pub trail_names : Trail → List Word
trail_names [] = []
trail_names (x ∷ tr) = x.0 ∷ trail_names tr

pub same-sym : (a b : Word) → same_word a b ≡ same_word b a
same-sym [] [] = refl
same-sym [] (y ∷ b) = refl
same-sym (x ∷ a) [] = refl
same-sym (x ∷ a) (y ∷ b) = rw (same-sym a b) (ap (λ (c : Bool). c && same_word b a) (eqb-sym x y))
  where
    eqb-sym : (x y : ℕ) → eqb x y ≡ eqb y x
    eqb-sym x y = go (eqb x y) (eqb y x) refl refl
      where
        go : (c d : Bool) → eqb x y ≡ c → eqb y x ≡ d → c ≡ d
        go true true p q = refl
        go true false p q = absurd (eqb-false y x q (sym (eqb-true x y p)))
        go false true p q = absurd (eqb-false x y p (sym (eqb-true y x q)))
        go false false p q = refl

pub one-of-append : (w : Word) (a b : List Word) → one_of w (a ++ b) ≡ (one_of w a || one_of w b)
one-of-append w [] b = refl
one-of-append w (x ∷ a) b = rw (one-of-append w a b) (sym (or_assoc (same_word w x) (one_of w a) (one_of w b)))

pub found-names : (w : Word) (tr : Trail) → is_some (found w tr) ≡ one_of w (trail_names tr)
found-names w [] = refl
found-names w (x ∷ tr) = rw (same-sym x.0 w) (go (same_word w x.0) (found-names w tr))
  where
    go : (c : Bool) → is_some (found w tr) ≡ one_of w (trail_names tr) → is_some (cond c (some x.1) (found w tr)) ≡ (c || one_of w (trail_names tr))
    go true e = refl
    go false e = e

lead-none : (ds : List Word) (k : Head) (is : Items) → Exprs is → lead_good ds k is ≡ true
unfolding Exprs
lead-none ds k nil x = refl
lead-none ds k (expr t is) x = refl
lead-none ds k (bare w is) x = absurd x

module _ (ds ps : List Word) where
  abbrev scope : Trail → List Word
  scope tr = trail_names tr ++ ps

  abbrev Resolves : Tree → Type 0
  Resolves t = Fine t → (before : List Token) (tr : Trail) → Seen ps before tr → within ds before 0 (tokens t) ≡ resolves ds (scope tr) t

  leaf-resolves : (w : Word) → Resolves (leaf w)
  unfolding tokens within word_good resolves
  leaf-resolves w f before tr s =
      and-true (is_number w || (is_some (rep_around w 0 0 [] [] (reverse before)) || one_of w (parameters_in before)))
      ∙ rw (s.reps w, s.params, found-names w tr, one-of-append w (trail_names tr) ps)

  row-resolves : (is : Items) → Each Resolves is → Exprs is → (before : List Token) (tr later : Trail) → Row ps (expr_count is) before tr later
      → within ds before 0 (item_tokens is) ≡ items_resolve ds (scope tr) (scope later) is
  unfolding Exprs item_tokens within items_resolve
  row-resolves nil e x before tr later r = refl
  row-resolves (expr t is) e x before tr later r =
      within-append ds before 0 (tokens t) (item_tokens is)
      ∙ rw ((reps-passed t x.0).mode, e.0 x.0 before tr r.0, row-resolves is e.1 x.1 (before ++ tokens t) later later (r.1 t x.0))
  row-resolves (bare w is) e x before tr later r = absurd x

  -- from the head on, mode by mode
  lead-resolves : (h : Word) (is : Items) → Shape h is → Each Resolves is → (before : List Token) (tr later : Trail)
      → Row ps (expr_count is) (before ++ opening ∷ word h ∷ lead_tokens is) tr later
      → within ds (before ++ opening ∷ word h ∷ []) (head_mode (head_of h)) (item_tokens is) ≡ (lead_good ds (head_of h) is && items_resolve ds (scope tr) (scope later) is)
  unfolding item_tokens within word_good mode_after items_resolve Exprs own_name binder
  lead-resolves h is (plainly m n x) e before tr later r =
      rw (m, lead-none ds (head_of h) is x) (row-resolves is e x (before ++ opening ∷ word h ∷ []) tr later (rw (no_lead is x) at r))
  lead-resolves h _ (folding {is = is} w q t x) e before tr later r =
      rw q
      (rw (append_assoc before (opening ∷ word h ∷ []) (word w ∷ []))
      (rw (row-resolves is e x (before ++ opening ∷ word h ∷ word w ∷ []) tr later r)))
  lead-resolves h _ (repeating w a b q t fa fb) e before tr later r =
      rw q
      (rw (append_assoc before (opening ∷ word h ∷ []) (word w ∷ []))
      (rw (row-resolves (expr a (expr b nil)) e (fa, (fb, tt)) (before ++ opening ∷ word h ∷ word w ∷ []) tr later r, t)))

  later-scope : (k : Head) (is : Items) (r : List Token) (tr : Trail) → scope (binding k is (λ x. (x, r)) tr) ≡ binding k is (λ x. x) (scope tr)
  later-scope k nil r tr = refl
  later-scope k (expr t is) r tr = refl
  later-scope k (bare x is) r tr = go (is_rep k)
    where
      go : (c : Bool) → scope (cond c ((x, r) ∷ tr) tr) ≡ cond c (x ∷ scope tr) (scope tr)
      go true = refl
      go false = refl

  form-resolves : (h : Word) (is : Items) → Each Resolves is → Resolves (form h is)
  unfolding tokens within word_good mode_after resolves
  form-resolves h is e f before tr s =
      ap (λ (c : Bool). known ds h && c)
      (rw (append_assoc before (opening ∷ []) (word h ∷ []))
      (within-shut ds (before ++ opening ∷ word h ∷ []) (mode_after 1 (code_of h)) (item_tokens is)
      ∙ rw (head-facts h).mode
      (lead-resolves h is (shape_of h is f) e before tr (binding (head_of h) is (λ x. (x, reverse before)) tr) (form-row ps before tr s h is f)
      ∙ rw (later-scope (head_of h) is (reverse before) tr))))

  pub tree-resolves : (t : Tree) → Resolves t
  tree-resolves t = by-trees t Resolves leaf-resolves form-resolves

-- ---- parameters: that none stands among those before it is that none stands among those behind it
abbrev params_pass : List Word → List Word → Bool
params_pass ps [] = true
params_pass ps (w ∷ ws) = (own_name w && not (one_of w ps)) && params_pass (ps ++ w ∷ []) ws

abbrev apart : List Word → List Word → Bool
apart ps ws = every (λ w. not (one_of w ps)) ws

own_name_lem : (w : Word) → binder w ≡ true → own_name w ≡ not (reserved w)
unfolding own_name binder
own_name_lem w e = rw e

apart_more : (ps : List Word) (w : Word) (ws : List Word) → apart (ps ++ w ∷ []) ws ≡ (apart ps ws && not (one_of w ws))
apart_more ps w [] = refl
apart_more ps w (v ∷ ws) =
    rw (apart_more ps w ws, one-of-append v ps (w ∷ []), same-sym v w) (go (one_of v ps) (same_word w v) (apart ps ws) (one_of w ws))
  where
    go : (a s c o : Bool) → (not (a || (s || false)) && (c && not o)) ≡ ((not a && c) && not (s || o))
    go true s c o = refl
    go false true true o = refl
    go false true false o = refl
    go false false c o = refl

params-apart : (n : ℕ) (ps ws : List Word) → Names n ws → params_pass ps ws ≡ (parameters_good ws && apart ps ws)
unfolding Names parameters_good
params-apart n ps [] x = refl
params-apart zero ps (w ∷ ws) x = absurd x
params-apart (suc n) ps (w ∷ ws) x =
    rw (own_name_lem w x.0, params-apart n (ps ++ w ∷ []) ws x.1, apart_more ps w ws)
    (go (not (reserved w)) (not (one_of w ps)) (not (one_of w ws)) (parameters_good ws) (apart ps ws))
  where
    go : (a b d g c : Bool) → ((a && b) && (g && (c && d))) ≡ ((a && (d && g)) && (b && c))
    go false b d g c = refl
    go true false true true c = refl
    go true false true false c = refl
    go true false false g c = refl
    go true true true true true = refl
    go true true true true false = refl
    go true true true false c = refl
    go true true false true true = refl
    go true true false true false = refl
    go true true false false c = refl

apart_none : (ws : List Word) → apart [] ws ≡ true
apart_none [] = refl
apart_none (w ∷ ws) = apart_none ws

names-within : (ds : List Word) (before : List Token) (ws : List Word) → modes_after 0 before ≡ 4
    → within ds before 4 (name_tokens ws ++ closing ∷ []) ≡ params_pass (parameters_in before) ws
unfolding name_tokens within word_good mode_after
names-within ds before [] m = refl
names-within ds before (w ∷ ws) m =
    rw (head-facts w).no_closing (ap (λ (c : Bool). (own_name w && not (one_of w (parameters_in before))) && c) (names-within ds (before ++ word w ∷ []) ws (on w m) ∙ rw (more w m)))
  where
    on : (w : Word) → modes_after 0 before ≡ 4 → modes_after 0 (before ++ word w ∷ []) ≡ 4
    on w m = modes-append 0 before (word w ∷ []) ∙ rw m (unfold modes_after mode_after in rw (head-facts w).no_closing)

    more : (w : Word) → modes_after 0 before ≡ 4 → parameters_in (before ++ word w ∷ []) ≡ parameters_in before ++ w ∷ []
    more w m = words_append 4 0 before (word w ∷ []) ∙ rw m (unfold words_in in refl)

-- ---- definitions and programs
abbrev def_head : Def → List Token
def_head d = opening ∷ word the_def ∷ word d.name ∷ opening ∷ []

front-within : (ds : List Word) (d : Def) → within ds [] 0 (def_front d) ≡ ((own_name d.name && not (one_of d.name ds)) && within ds (def_head d) 4 (name_tokens d.params ++ closing ∷ []))
unfolding within word_good mode_after code_of operator reserved index_of own_name is_name is_letter is_digit name_byte
front-within ds d = refl

head-mode : (d : Def) → modes_after 0 (def_head d) ≡ 4
unfolding modes_after mode_after code_of operator reserved index_of
head-mode d = refl

head-params : (d : Def) → parameters_in (def_head d) ≡ []
unfolding words_in mode_after code_of operator reserved index_of
head-params d = refl

front-good : (ds : List Word) (d : Def) → FineDef d → within ds [] 0 (def_front d) ≡ (not (reserved d.name) && (not (one_of d.name ds) && parameters_good d.params))
front-good ds d x =
    front-within ds d
    ∙ and_assoc (own_name d.name) (not (one_of d.name ds)) (within ds (def_head d) 4 (name_tokens d.params ++ closing ∷ []))
    ∙ rw (
      own_name_lem d.name x.named,
      names-within ds (def_head d) d.params (head-mode d),
      head-params d,
      params-apart 4 [] d.params x.at_most_four,
      apart_none d.params,
      and-true (parameters_good d.params),
    )

def-good : (ds : List Word) (d : Def) → FineDef d → within ds [] 0 (def_tokens d) ≡ definition_good ds d
unfolding definition_good
def-good ds d x =
    let a : Bool = not (reserved d.name) in
    let b : Bool = not (one_of d.name ds) in
    let c : Bool = parameters_good d.params in
    let r : Bool = resolves ds d.params d.body in
    rw (def-parts d)
    (within-append ds [] 0 (def_front d) (tokens d.body ++ closing ∷ [])
    ∙ rw ((seen-body d).mode, within-shut ds (def_front d) 0 (tokens d.body), tree-resolves ds d.params d.body x.fine (def_front d) [] (seen-body d), front-good ds d x)
    (and_assoc a (b && c) r ∙ ap (λ (e : Bool). a && e) (and_assoc b c r)))

def-quiet : (d : Def) → FineDef d → Passed rep_code 0 (def_tokens d) 0 (d.name ∷ []) d.params (tree_heads is_rep d.body)
def-quiet = def-passed rep_code is_rep (λ w. (head-facts w).repeats) refl

defs-pass : (more : List Def) (main : Tree) → FineDefs more → Fine main → (earlier before : List Token) → modes_after 0 (earlier ++ before) ≡ 0
    → names_pass earlier before 0 0 (defs_tokens more ++ tokens main) ≡ names_from (definitions_in (earlier ++ before)) more main
unfolding defs_tokens FineDefs names_from names_pass
defs-pass [] main x y earlier before m =
    (rw (append-nil (tokens main)) at (whole-tree main earlier before 0 []))
    ∙ and-true (within (definitions_in (earlier ++ before)) [] 0 (tokens main))
    ∙ tree-resolves (definitions_in (earlier ++ before)) [] main y [] [] seen_first
defs-pass (d ∷ more) main x y earlier before m =
    rw (append_assoc (def_tokens d) (defs_tokens more) (tokens main))
    (whole-def d earlier before 0 (defs_tokens more ++ tokens main)
    ∙ rw (def-good (definitions_in (earlier ++ before)) d x.0, (def-quiet d x.0).mode)
    (ap (λ (c : Bool). definition_good (definitions_in (earlier ++ before)) d && c)
    (defs-pass more main x.1 y (earlier ++ before) (def_tokens d) (modes-append 0 (earlier ++ before) (def_tokens d) ∙ rw m (def-quiet d x.0).mode)
    ∙ rw (words_append 2 0 (earlier ++ before) (def_tokens d), m, (def-quiet d x.0).named))))

-- refusal 20 by tokens is refusal 20 by the tree
pub names-exactly : (p : Program) → FineProgram p → names_pass [] [] 0 0 (program_tokens p) ≡ names_good p
unfolding program_tokens names_good modes_after words_in
names-exactly p x = defs-pass p.defs p.main x.definitions x.main [] [] refl

pub text-names : (p : Program) → FineProgram p → (s : List ℕ) → Spaced (program_tokens p) s → names_pass [] [] 0 0 (lex s) ≡ names_good p
text-names p x s l = rw ((spaced-exactly (program_tokens p) s).0 l) (names-exactly p x)
