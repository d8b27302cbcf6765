-- how the modes run over the tokens of fine trees, definitions and programs: where the words stand that name definitions and parameters, and how many heads pass a test.
use mathlib.Core.Path.{◌≡◌, refl, sym, ap, ◌∙◌}
use mathlib.Core.Bool.{Bool, true, false, cond}
use mathlib.Core.List.{List, [], ◌∷◌, ◌++◌, append_assoc, append-nil}
use Prim.Native.Nat.{ℕ, suc, ◌+◌}
use native.Mathlib.Omega.{arith}
use lib.Dec.{eqb}
use Rattle.notation.specs.Words.{Word, Head, define, head_of, the_def}
use Rattle.notation.specs.Grammar.{Token, opening, closing, word, Tree, leaf, form, Items, nil, expr, bare, Def, tokens, item_tokens, name_tokens, def_tokens, defs_tokens, Fine, Exprs, FineDef}
use Rattle.notation.specs.Grammar.{FineDefs}
use Rattle.translation.specs.Names.{is_rep}
use Rattle.translation.specs.Numbering.{Given, has_slot, entered, after, after_items}
use Rattle.vocabulary.specs.Codes.{code_of, token_code}
use Rattle.token_scans.specs.Scan.{mode_after, word_in, words_in, definitions_in, heads_in, slots_in, reps_in}
use Rattle.token_scans.proofs.Codes.{head_mode, slot_code, rep_code, head-facts}
use Rattle.bindings.proofs.Trees.{Each, by-trees, each_of, Shape, plainly, folding, repeating, shape_of}

-- the mode behind some tokens
unfoldable pub modes_after : ℕ → List Token → ℕ
modes_after m [] = m
modes_after m (t ∷ ts) = modes_after (mode_after m (token_code t)) ts

pub modes-append : (m : ℕ) (a b : List Token) → modes_after m (a ++ b) ≡ modes_after (modes_after m a) b
unfolding modes_after
modes-append m [] b = refl
modes-append m (t ∷ a) b = modes-append (mode_after m (token_code t)) a b

pub words_append : (k m : ℕ) (a b : List Token) → words_in k m (a ++ b) ≡ words_in k m a ++ words_in k (modes_after m a) b
unfolding modes_after words_in
words_append k m [] b = refl
words_append k m (t ∷ a) b =
    rw (words_append k (mode_after m (token_code t)) a b)
    (sym (append_assoc (word_in (eqb m k) t) (words_in k (mode_after m (token_code t)) a) (words_in k (modes_after (mode_after m (token_code t)) a) b)))

pub heads-append : (f : ℕ → Bool) (m : ℕ) (a b : List Token) → heads_in f m (a ++ b) ≡ heads_in f m a + heads_in f (modes_after m a) b
unfolding modes_after heads_in
heads-append f m [] b = omega arith
heads-append f m (t ∷ a) b = let h = heads-append f (mode_after m (token_code t)) a b in omega arith

-- what some tokens are from one mode to another: the names of definitions and the parameters that they give, and how many heads pass a test of codes
pub record Passed (f : ℕ → Bool) (m : ℕ) (ts : List Token) (m' : ℕ) (ds ps : List Word) (n : ℕ) : Type 0 where
  pub mode : modes_after m ts ≡ m'
  pub named : words_in 2 m ts ≡ ds
  pub params : words_in 4 m ts ≡ ps
  pub heads : heads_in f m ts ≡ n

pub joined : {f : ℕ → Bool} {m m' m'' : ℕ} {a b : List Token} {ds ps ds' ps' : List Word} {n n' : ℕ}
    → Passed f m a m' ds ps n → Passed f m' b m'' ds' ps' n' → Passed f m (a ++ b) m'' (ds ++ ds') (ps ++ ps') (n + n')
joined {f} {m} {a = a} {b} p q = record {
  mode = modes-append m a b ∙ rw p.mode q.mode;
  named = words_append 2 m a b ∙ rw (p.mode, p.named, q.named);
  params = words_append 4 m a b ∙ rw (p.mode, p.params, q.params);
  heads = heads-append f m a b ∙ rw (p.mode, p.heads, q.heads);
}

recounted : {f : ℕ → Bool} {m m' : ℕ} {ts : List Token} {ds ps : List Word} {n n' : ℕ} → n ≡ n' → Passed f m ts m' ds ps n → Passed f m ts m' ds ps n'
recounted e p = rw (← e) p

-- how many heads of a tree pass a test
unfoldable mutual
  pub tree_heads : (Head → Bool) → Tree → ℕ
  tree_heads g (leaf w) = 0
  tree_heads g (form h is) = cond (g (head_of h)) 1 0 + item_heads g is

  pub item_heads : (Head → Bool) → Items → ℕ
  item_heads g nil = 0
  item_heads g (expr t is) = tree_heads g t + item_heads g is
  item_heads g (bare w is) = item_heads g is

abbrev pub lead_tokens : Items → List Token
lead_tokens nil = []
lead_tokens (expr t is) = []
lead_tokens (bare w is) = word w ∷ []

pub no_lead : (is : Items) → Exprs is → lead_tokens is ≡ []
unfolding Exprs
no_lead nil x = refl
no_lead (expr t is) x = refl
no_lead (bare w is) x = absurd x

-- a definition up to its body
abbrev pub def_front : Def → List Token
def_front d = opening ∷ word the_def ∷ word d.name ∷ opening ∷ (name_tokens d.params ++ closing ∷ [])

pub def-parts : (d : Def) → def_tokens d ≡ def_front d ++ (tokens d.body ++ closing ∷ [])
unfolding def_tokens
def-parts d = rw (append_assoc (name_tokens d.params) (closing ∷ []) (tokens d.body ++ closing ∷ []))

abbrev pub def_names : List Def → List Word
def_names [] = []
def_names (d ∷ ds) = d.name ∷ def_names ds

abbrev pub def_params : List Def → List Word
def_params [] = []
def_params (d ∷ ds) = d.params ++ def_params ds

abbrev pub def_heads : (Head → Bool) → List Def → ℕ
def_heads g [] = 0
def_heads g (d ∷ ds) = tree_heads g d.body + def_heads g ds

module _ (f : ℕ → Bool) (g : Head → Bool) (same : (w : Word) → f (code_of w) ≡ g (head_of w)) where
  opened : Passed f 0 (opening ∷ []) 1 [] [] 0
  unfolding modes_after mode_after words_in heads_in
  opened = record { mode = refl; named = refl; params = refl; heads = refl }

  closed : Passed f 0 (closing ∷ []) 0 [] [] 0
  unfolding modes_after mode_after words_in heads_in
  closed = record { mode = refl; named = refl; params = refl; heads = refl }

  headed : (h : Word) → Passed f 1 (word h ∷ []) (head_mode (head_of h)) [] [] (cond (g (head_of h)) 1 0)
  unfolding modes_after words_in heads_in
  headed h = record { mode = (head-facts h).mode; named = refl; params = refl; heads = rw (same h) (omega arith) }

  bound : (w : Word) → Passed f 5 (word w ∷ []) 0 [] [] 0
  unfolding modes_after mode_after words_in heads_in
  bound w = record { mode = refl; named = refl; params = refl; heads = refl }

  folded : (w : Word) → Passed f 6 (word w ∷ []) 0 [] [] 0
  unfolding modes_after mode_after words_in heads_in
  folded w = record { mode = refl; named = refl; params = refl; heads = refl }

  alone : (w : Word) → Passed f 0 (word w ∷ []) 0 [] [] 0
  unfolding modes_after mode_after words_in heads_in
  alone w = record { mode = rw (head-facts w).no_opening; named = refl; params = refl; heads = refl }

  head_front : (h : Word) (m : ℕ) → head_mode (head_of h) ≡ m → Passed f 0 (opening ∷ word h ∷ []) m [] [] (cond (g (head_of h)) 1 0)
  head_front h m e = rw (← e) (recounted (omega arith) (joined opened (headed h)))

  abbrev Counts : Tree → Type 0
  Counts t = Fine t → Passed f 0 (tokens t) 0 [] [] (tree_heads g t)

  exprs-passed : (is : Items) → Each Counts is → Exprs is → Passed f 0 (item_tokens is) 0 [] [] (item_heads g is)
  unfolding item_tokens Exprs item_heads modes_after words_in heads_in
  exprs-passed nil e x = record { mode = refl; named = refl; params = refl; heads = refl }
  exprs-passed (expr t is) e x = joined (e.0 x.0) (exprs-passed is e.1 x.1)
  exprs-passed (bare w is) e x = absurd x

  lead-passed : (h : Word) (is : Items) → Each Counts is → Shape h is → Passed f (head_mode (head_of h)) (item_tokens is) 0 [] [] (item_heads g is)
  unfolding item_tokens Exprs item_heads Fine
  lead-passed h is e (plainly m r x) = rw m (exprs-passed is e x)
  lead-passed h _ e (folding {is = is} w q t x) =
      rw q (recounted (omega arith) (joined (folded w) (exprs-passed is e x)))
  lead-passed h _ e (repeating x a b q t fa fb) =
      rw q (recounted (omega arith) (joined (bound x) (exprs-passed (expr a (expr b nil)) e (fa, (fb, tt)))))

  -- a form up to its first expression
  pub lead-front : (h : Word) (is : Items) → Shape h is → Passed f 0 (opening ∷ word h ∷ lead_tokens is) 0 [] [] (cond (g (head_of h)) 1 0)
  lead-front h is (plainly m r x) = rw (no_lead is x) (head_front h 0 m)
  lead-front h _ (folding w q t x) =
      recounted (omega arith) (joined (head_front h 6 (ap head_mode q)) (folded w))
  lead-front h _ (repeating w a b q t fa fb) =
      recounted (omega arith) (joined (head_front h 5 (ap head_mode q)) (bound w))

  pub tree-passed : (t : Tree) → Fine t → Passed f 0 (tokens t) 0 [] [] (tree_heads g t)
  unfolding tokens tree_heads
  tree-passed t =
      by-trees t Counts (λ w x. alone w) λ h is e x.
      recounted (omega arith)
      (joined (head_front h (head_mode (head_of h)) refl)
      (joined (lead-passed h is e (shape_of h is x)) closed))

  pub row-passed : (is : Items) → Exprs is → Passed f 0 (item_tokens is) 0 [] [] (item_heads g is)
  row-passed is x = exprs-passed is (each_of Counts tree-passed is) x

  listed-one : (w : Word) → Passed f 4 (word w ∷ []) 4 [] (w ∷ []) 0
  unfolding modes_after mode_after words_in heads_in
  listed-one w = record { mode = rw (head-facts w).no_closing; named = refl; params = refl; heads = refl }

  named-one : (w : Word) → Passed f 2 (word w ∷ opening ∷ []) 4 (w ∷ []) [] 0
  unfolding modes_after mode_after words_in heads_in
  named-one w = record { mode = refl; named = refl; params = refl; heads = refl }

  listed : (ws : List Word) → Passed f 4 (name_tokens ws ++ closing ∷ []) 0 [] ws 0
  unfolding name_tokens modes_after mode_after words_in heads_in
  listed [] = record { mode = refl; named = refl; params = refl; heads = refl }
  listed (w ∷ ws) = joined (listed-one w) (listed ws)

  module _ (unheaded : g define ≡ false) where
    pub front-passed : (d : Def) → Passed f 0 (def_front d) 0 (d.name ∷ []) d.params 0
    unfolding head_of
    front-passed d = recounted (rw unheaded) (joined (head_front the_def 2 refl) (joined (named-one d.name) (listed d.params)))

    pub def-passed : (d : Def) → FineDef d → Passed f 0 (def_tokens d) 0 (d.name ∷ []) d.params (tree_heads g d.body)
    def-passed d x =
        rw (def-parts d)
        (recounted (omega arith)
        (rw (append-nil d.params) at (joined (front-passed d)
        (joined (tree-passed d.body x.fine) closed))))

    pub defs-passed : (ds : List Def) → FineDefs ds → Passed f 0 (defs_tokens ds) 0 (def_names ds) (def_params ds) (def_heads g ds)
    unfolding defs_tokens FineDefs modes_after words_in heads_in
    defs-passed [] x = record { mode = refl; named = refl; params = refl; heads = refl }
    defs-passed (d ∷ ds) x = joined (def-passed d x.0) (defs-passed ds x.1)

-- ---- slots and variables as the table gives them out
one_more : (c : Bool) (n : ℕ) → cond c (suc n) n ≡ n + cond c 1 0
one_more true n = omega arith
one_more false n = omega arith

abbrev GivenOut : Tree → Type 0
GivenOut t = (g : Given) → ((after t g).slots ≡ g.slots + tree_heads has_slot t) × ((after t g).variables ≡ g.variables + tree_heads is_rep t)

items-given : (is : Items) → Each GivenOut is → (g : Given) → ((after_items is g).slots ≡ g.slots + item_heads has_slot is) × ((after_items is g).variables ≡ g.variables + item_heads is_rep is)
unfolding after_items item_heads
items-given nil e g = omega arith
items-given (expr t is) e g = let a = e.0 g in let b = items-given is e.1 (after t g) in omega arith
items-given (bare w is) e g = items-given is e g

given_out : (t : Tree) → GivenOut t
unfolding after tree_heads
given_out t =
    by-trees t GivenOut (λ w g. omega arith) λ h is e g.
    let a = items-given is e (entered (head_of h) g) in
    let b = one_more (has_slot (head_of h)) g.slots in
    let c = one_more (is_rep (head_of h)) g.variables in
    omega arith

pub slots-passed : (t : Tree) → Fine t → Passed slot_code 0 (tokens t) 0 [] [] (tree_heads has_slot t)
slots-passed = tree-passed slot_code has_slot (λ w. (head-facts w).slot)

pub reps-passed : (t : Tree) → Fine t → Passed rep_code 0 (tokens t) 0 [] [] (tree_heads is_rep t)
reps-passed = tree-passed rep_code is_rep (λ w. (head-facts w).repeats)

pub slots-after : (t : Tree) → Fine t → (g : Given) → (after t g).slots ≡ g.slots + slots_in (tokens t)
slots-after t x g = rw (slots-passed t x).heads (given_out t g).0

pub variables-after : (t : Tree) → Fine t → (g : Given) → (after t g).variables ≡ g.variables + reps_in (tokens t)
variables-after t x g = rw (reps-passed t x).heads (given_out t g).1

-- a definition gives out what its body does
pub def-slots : (d : Def) → FineDef d → slots_in (def_tokens d) ≡ slots_in (tokens d.body)
def-slots d x = (def-passed slot_code has_slot (λ w. (head-facts w).slot) refl d x).heads ∙ sym (slots-passed d.body x.fine).heads

pub def-reps : (d : Def) → FineDef d → reps_in (def_tokens d) ≡ reps_in (tokens d.body)
def-reps d x = (def-passed rep_code is_rep (λ w. (head-facts w).repeats) refl d x).heads ∙ sym (reps-passed d.body x.fine).heads

-- the names of definitions, in order
pub definitions-exactly : (ds : List Def) → FineDefs ds → definitions_in (defs_tokens ds) ≡ def_names ds
definitions-exactly ds x = (defs-passed rep_code is_rep (λ w. (head-facts w).repeats) refl ds x).named
