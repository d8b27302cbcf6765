-- The machine over the tokens of a tree: it emits the tree's parts and leaves the number of its node.
use mathlib.Core.Path.{◌≡◌, refl, sym, ap, ◌∙◌}
use mathlib.Core.Bool.{Bool, true, false, cond, ◌&&◌}
use mathlib.Core.Logic.{◌⊎◌, inl, inr}
use mathlib.Core.List.{List, [], ◌∷◌, ◌++◌, append_assoc, append-nil, map, reverse, reverse_aux, reverse_aux-eq, reverse-reverse}
use Prim.Native.Nat.{ℕ, suc, ◌+◌, ◌-◌}
use native.Mathlib.Omega.{arith}
use lib.Dec.{eqb, eqb-suc-zero, eqb-suc-suc}
use lib.ListN.{length, take, drop, length-reverse}
use lib.Seq.{take-append_seam, drop-append_seam}
use Rattle.notation.specs.Words.{Word, Head, plain, slotted, operation, rep, fold, define, call, nothing, head_of}
use Rattle.notation.specs.Grammar.{Token, opening, closing, word, Tree, leaf, form, Items, nil, expr, bare, tokens, item_tokens, Fine, Exprs}
use Rattle.program.specs.Conditions.{Part}
use Rattle.translation.specs.Names.{is_rep, binding}
use Rattle.translation.specs.Numbering.{byte, Given, variable, Scope, has_slot, leaf_part, after, after_items, entered, operands, form_part, parts, items_parts}
use Rattle.token_scans.specs.Scan.{mode_after, heads_in, definitions_in, slots_in, reps_in}
use Rattle.token_scans.proofs.Codes.{head_mode, head-facts, slot_code, rep_code}
use Rattle.bindings.proofs.Trees.{Each, by-trees, each_of, Shape, plainly, folding, repeating, shape_of}
use Rattle.bindings.proofs.Modes.{modes_after, modes-append, lead_tokens, no_lead, lead-front, slots-after, variables-after}
use Rattle.bindings.proofs.Around.{Trail, Seen, Row, expr_count, form-row}
use Rattle.bindings.proofs.Meanings.{scope_of, meaning-exactly, later-meanings, heads-on}
use Rattle.tabling.specs.Emit.{Output, State, leads, given_in, is_definition, emitted, taken, emit}
use Rattle.tabling.proofs.Around.{item_count, items_last, form-around}

abbrev pub output : List Part → List ℕ → ℕ → Output
output ps st n = record { parts = ps; stack = st; nodes = n }

-- in mode m behind some tokens
abbrev pub in-mode : ℕ → List Token → List Token → ℕ → Output → State
in-mode m before here d o = record { before = before; here = here; mode = m; depth = d; out = o }

-- what is given out before a place
abbrev pub Counts : List Token → List Token → Given → Type 0
Counts before here g = (slots_in (before ++ here) ≡ g.slots) × (reps_in (before ++ here) ≡ g.variables)

count-on : (f : ℕ → Bool) (before here ts : List Token) (n m : ℕ) → modes_after 0 before ≡ 0 → modes_after 0 here ≡ 0
    → heads_in f 0 (before ++ here) ≡ n → m ≡ n + heads_in f 0 ts → heads_in f 0 (before ++ (here ++ ts)) ≡ m
count-on f before here ts n m p q e h =
    rw (← append_assoc before here ts, heads-on f (before ++ here) ts (modes-append 0 before here ∙ rw p q), e) (sym h)

pub counts-tree : (before here : List Token) (g : Given) (t : Tree) → modes_after 0 before ≡ 0 → modes_after 0 here ≡ 0 → Counts before here g → Fine t
    → Counts before (here ++ tokens t) (after t g)
counts-tree before here g t p q c x = (
  count-on slot_code before here (tokens t) g.slots (after t g).slots p q c.0 (slots-after t x g),
  count-on rep_code before here (tokens t) g.variables (after t g).variables p q c.1 (variables-after t x g),
)

one_more : (c : Bool) (n : ℕ) → cond c (suc n) n ≡ n + cond c 1 0
one_more true n = omega arith
one_more false n = omega arith

counts-head : (before here : List Token) (g : Given) (h : Word) (is : Items) → modes_after 0 before ≡ 0 → modes_after 0 here ≡ 0 → Counts before here g → Shape h is
    → Counts before (here ++ opening ∷ word h ∷ lead_tokens is) (entered (head_of h) g)
counts-head before here g h is p q c s =
    let a = lead-front slot_code has_slot (λ w. (head-facts w).slot) h is s in
    let b = lead-front rep_code is_rep (λ w. (head-facts w).repeats) h is s in (
      count-on slot_code before here (opening ∷ word h ∷ lead_tokens is) g.slots _ p q c.0 (rw a.heads (one_more (has_slot (head_of h)) g.slots)),
      count-on rep_code before here (opening ∷ word h ∷ lead_tokens is) g.variables _ p q c.1 (rw b.heads (one_more (is_rep (head_of h)) g.variables)),
    )

-- ---- single tokens
pub leaf-taken : (before here : List Token) (d : ℕ) (ps : List Word) (tr : Trail) (qs : List Part) (st : List ℕ) (n : ℕ) (w : Word) → Seen ps here tr
    → taken before here 0 d (output qs st n) (word w)
    ≡ in-mode 0 before (here ++ word w ∷ []) d (output (qs ++ leaf_part (scope_of (reps_in before) ps tr) w ∷ []) (n ∷ st) (suc n))
unfolding taken emitted mode_after
leaf-taken before here d ps tr qs st n w s = rw ((head-facts w).no_opening, meaning-exactly (reps_in before) s w)

-- a form's head, and the word that leads the items of a fold or a rep
pub head-taken : (before here : List Token) (d : ℕ) (o : Output) (h : Word) (r : List Token)
    → emit (taken before here 0 d o opening) (word h ∷ r) ≡ emit (in-mode (head_mode (head_of h)) before (here ++ opening ∷ word h ∷ []) (suc d) o) r
unfolding emit taken emitted mode_after
head-taken before here d o h r = rw (append_assoc here (opening ∷ []) (word h ∷ []), ← (head-facts h).mode)

lead-taken : (before here : List Token) (d : ℕ) (o : Output) (h x : Word) (r : List Token) → (head_of h ≡ rep) ⊎ (head_of h ≡ fold)
    → emit (taken before here 0 d o opening) (word h ∷ word x ∷ r) ≡ emit (in-mode 0 before (here ++ opening ∷ word h ∷ word x ∷ []) (suc d) o) r
lead-taken before here d o h x r e = head-taken before here d o h (word x ∷ r) ∙ go e
  where
    go : (head_of h ≡ rep) ⊎ (head_of h ≡ fold)
        → emit (in-mode (head_mode (head_of h)) before (here ++ opening ∷ word h ∷ []) (suc d) o) (word x ∷ r)
        ≡ emit (in-mode 0 before (here ++ opening ∷ word h ∷ word x ∷ []) (suc d) o) r
    go (inl e) = rw e (unfold emit taken emitted mode_after in rw (append_assoc here (opening ∷ word h ∷ []) (word x ∷ [])))
    go (inr e) = rw e (unfold emit taken emitted mode_after in rw (append_assoc here (opening ∷ word h ∷ []) (word x ∷ [])))

-- ---- the closing bracket of a form
-- the numbers of a form's operands, before they are bytes
unfoldable numbers_of : Items → Given → List ℕ
numbers_of nil g = []
numbers_of (expr t is) g = ((after t g).nodes - 1) ∷ numbers_of is (after t g)
numbers_of (bare w is) g = numbers_of is g

operands-numbers : (is : Items) (g : Given) → map byte (numbers_of is g) ≡ operands is g
unfolding numbers_of operands
operands-numbers nil g = refl
operands-numbers (expr t is) g = ap (λ (ns : List ℕ). byte ((after t g).nodes - 1) ∷ ns) (operands-numbers is (after t g))
operands-numbers (bare w is) g = operands-numbers is g

count-exprs : (is : Items) (g : Given) → Exprs is → item_count is 0 ≡ length (numbers_of is g)
unfolding item_count numbers_of Exprs
count-exprs nil g x = refl
count-exprs (expr t is) g x = ap suc (count-exprs is (after t g) x.1)
count-exprs (bare w is) g x = absurd x

leads_one : (k : Head) → head_mode k ≡ 0 → leads k ≡ 1
leads_one (plain kind n) e = refl
leads_one (slotted kind n) e = refl
leads_one operation e = refl
leads_one rep e = absurd (omega arith)
leads_one fold e = absurd (omega arith)
leads_one define e = refl
leads_one call e = refl
leads_one nothing e = refl

count-shape : (h : Word) (is : Items) (g : Given) → Shape h is → suc (item_count is 0) - leads (head_of h) ≡ length (numbers_of is g)
unfolding item_count numbers_of Exprs
count-shape h is g (plainly m r x) = rw (leads_one (head_of h) m, count-exprs is g x) (omega arith)
count-shape h _ g (folding {is = is} w e q x) = rw (e, count-exprs is g x) (omega arith)
count-shape h _ g (repeating x a b e q fa fb) = rw e (omega arith)

-- the operands are the last on the stack
taken-off : (ns st : List ℕ) (k : ℕ) → k ≡ length ns → (reverse (take k (reverse_aux ns st)) ≡ ns) × (drop k (reverse_aux ns st) ≡ st)
taken-off ns st k e =
    rw (e ∙ sym (length-reverse ns), reverse_aux-eq ns st)
    (ap reverse (take-append_seam (reverse ns) st) ∙ reverse-reverse ns, drop-append_seam (reverse ns) st)

-- the node by the word behind the head and by what the scans count is the node by the tree
same-part : (ds : List Word) (f g : Given) (h : Word) (is js : Items) (ns : List ℕ) (k : Head) → head_mode k ≡ 0 → f.slots ≡ g.slots
    → form_part ds f h is ns k ≡ form_part ds g h js ns k
same-part ds f g h is js ns (plain kind n) m e = refl
same-part ds f g h is js ns (slotted kind n) m e = rw e
same-part ds f g h is js ns operation m e = refl
same-part ds f g h is js ns rep m e = absurd (omega arith)
same-part ds f g h is js ns fold m e = absurd (omega arith)
same-part ds f g h is js ns define m e = refl
same-part ds f g h is js ns call m e = refl
same-part ds f g h is js ns nothing m e = refl

form-part : (ds : List Word) (f g : Given) (h : Word) (is : Items) (ns : List ℕ) → Shape h is → f.slots ≡ g.slots → f.variables ≡ g.variables
    → form_part ds f h (bare (items_last is []) nil) ns (head_of h) ≡ form_part ds g h is ns (head_of h)
unfolding items_last
form-part ds f g h is ns (plainly m r x) e v = same-part ds f g h (bare (items_last is []) nil) is ns (head_of h) m e
form-part ds f g h _ ns (folding {is = is} w q t x) e v = rw q
form-part ds f g h _ ns (repeating x a b q t fa fb) e v = rw (q, v)

close-taken : (before here : List Token) (d : ℕ) (ds : List Word) (g : Given) (h : Word) (is : Items) (qs : List Part) (ns st : List ℕ) (n : ℕ)
    → definitions_in before ≡ ds → Counts before here g → Shape h is → (eqb (suc d) 1 && is_definition (here ++ opening ∷ word h ∷ item_tokens is)) ≡ false
    → suc (item_count is 0) - leads (head_of h) ≡ length ns
    → taken before (here ++ opening ∷ word h ∷ item_tokens is) 0 (suc d) (output qs (reverse_aux ns st) n) closing
    ≡ in-mode 0 before (here ++ tokens (form h is)) d (output (qs ++ form_part ds g h is (map byte ns) (head_of h) ∷ []) (n ∷ st) (suc n))
unfolding taken emitted mode_after tokens
close-taken before here d ds g h is qs ns st n names i s e c =
    let t = taken-off ns st (suc (item_count is 0) - leads (head_of h)) c in
    let z : suc d - 1 ≡ d = omega arith in
    let f = form-part ds (given_in (before ++ here)) g h is (map byte ns) s i.0 i.1 in
    rw (e, form-around here h is, reverse-reverse here, t.0, t.1, names, f, z, append_assoc here (opening ∷ word h ∷ item_tokens is) (closing ∷ []))

-- ---- trees; before the form at depth 0 stand `before`, with the definitions ds, and ps are the parameters
module _ (before : List Token) (ds ps : List Word) (whole : modes_after 0 before ≡ 0) (names : definitions_in before ≡ ds) where
  abbrev scope : Trail → Scope
  scope tr = scope_of (reps_in before) ps tr

  abbrev Runs : Tree → Type 0
  Runs t =
      Fine t → (here : List Token) (d : ℕ) (tr : Trail) (g : Given) (qs : List Part) (st : List ℕ) (r : List Token) → Seen ps here tr → Counts before here g
      → emit (in-mode 0 before here (suc d) (output qs st g.nodes)) (tokens t ++ r)
      ≡ emit (in-mode 0 before (here ++ tokens t) (suc d) (output (qs ++ parts ds (scope tr) t g) (((after t g).nodes - 1) ∷ st) (after t g).nodes)) r

  -- the expressions of a form
  row-run : (is : Items) → Each Runs is → Exprs is → (here : List Token) (d : ℕ) (tr later : Trail) (g : Given) (qs : List Part) (st : List ℕ) (r : List Token)
      → Row ps (expr_count is) here tr later → Counts before here g
      → emit (in-mode 0 before here (suc d) (output qs st g.nodes)) (item_tokens is ++ r)
      ≡ emit (in-mode 0 before (here ++ item_tokens is) (suc d) (output (qs ++ items_parts ds (scope tr) (scope later) is g) (reverse_aux (numbers_of is g) st) (after_items is g).nodes)) r
  unfolding item_tokens Exprs items_parts numbers_of after_items
  row-run nil e x here d tr later g qs st r w c = rw (append-nil here, append-nil qs)
  row-run (expr t is) e x here d tr later g qs st r w c =
      rw (
        append_assoc (tokens t) (item_tokens is) r,
        ← append_assoc here (tokens t) (item_tokens is),
        ← append_assoc qs (parts ds (scope tr) t g) (items_parts ds (scope later) (scope later) is (after t g)),
      )
      (e.0 x.0 here d tr g qs st (item_tokens is ++ r) w.0 c
      ∙ row-run is e.1 x.1 (here ++ tokens t) d later later (after t g) (qs ++ parts ds (scope tr) t g) (((after t g).nodes - 1) ∷ st) r
      (w.1 t x.0) (counts-tree before here g t whole w.0.mode c x.0))
  row-run (bare w is) e x here d tr later g qs st r i c = absurd x

  -- a form's head and items, from its opening bracket
  abbrev inside : List Token → Trail → Word → Items → Trail
  inside here tr h is = binding (head_of h) is (λ x. (x, reverse here)) tr

  abbrev Inner : Word → Items → Type 0
  Inner h is =
      (here : List Token) (d : ℕ) (tr : Trail) (g : Given) (qs : List Part) (st : List ℕ) (r : List Token)
      → Row ps (expr_count is) (here ++ opening ∷ word h ∷ lead_tokens is) tr (inside here tr h is)
      → Counts before (here ++ opening ∷ word h ∷ lead_tokens is) (entered (head_of h) g)
      → emit (taken before here 0 d (output qs st g.nodes) opening) (word h ∷ item_tokens is ++ r)
      ≡ emit (in-mode 0 before (here ++ opening ∷ word h ∷ item_tokens is) (suc d) (output (qs ++ items_parts ds (scope tr) (scope (inside here tr h is)) is (entered (head_of h) g))
      (reverse_aux (numbers_of is (entered (head_of h) g)) st) (after_items is (entered (head_of h) g)).nodes)) r

  plain-inner : (h : Word) (is : Items) → Each Runs is → head_mode (head_of h) ≡ 0 → Exprs is → Inner h is
  plain-inner h is e m x here d tr g qs st r w c =
      rw (← append_assoc here (opening ∷ word h ∷ []) (item_tokens is), head-taken before here d (output qs st g.nodes) h (item_tokens is ++ r), m)
      (row-run is e x (here ++ opening ∷ word h ∷ []) d tr (inside here tr h is) (entered (head_of h) g) qs st r (rw (no_lead is x) at w) (rw (no_lead is x) at c))

  led-inner : (h w : Word) (is : Items) → Each Runs is → (head_of h ≡ rep) ⊎ (head_of h ≡ fold) → Exprs is → Inner h (bare w is)
  unfolding item_tokens items_parts numbers_of after_items
  led-inner h w is e k x here d tr g qs st r i c =
      rw (← append_assoc here (opening ∷ word h ∷ word w ∷ []) (item_tokens is), lead-taken before here d (output qs st g.nodes) h w (item_tokens is ++ r) k)
      (row-run is e x (here ++ opening ∷ word h ∷ word w ∷ []) d tr (inside here tr h (bare w is)) (entered (head_of h) g) qs st r i c)

  inner : (h : Word) (is : Items) → Each Runs is → Shape h is → Inner h is
  unfolding Exprs
  inner h is e (plainly m p x) = plain-inner h is e m x
  inner h _ e (folding {is = is} w q t x) = led-inner h w is e (inr q) x
  inner h _ e (repeating x a b q t fa fb) = led-inner h x (expr a (expr b nil)) e (inl q) (fa, (fb, tt))

  -- a form from its bracket to its bracket, at any depth; at depth 0 it is no definition
  abbrev FormRuns : Word → Items → Type 0
  FormRuns h is =
      (here : List Token) (d : ℕ) (tr : Trail) (g : Given) (qs : List Part) (st : List ℕ) (r : List Token) → Seen ps here tr → Counts before here g
      → (eqb (suc d) 1 && is_definition (here ++ opening ∷ word h ∷ item_tokens is)) ≡ false
      → emit (taken before here 0 d (output qs st g.nodes) opening) (word h ∷ (item_tokens is ++ closing ∷ []) ++ r)
      ≡ emit (in-mode 0 before (here ++ tokens (form h is)) d (output (qs ++ parts ds (scope tr) (form h is) g) (((after (form h is) g).nodes - 1) ∷ st) (after (form h is) g).nodes)) r

  form-by : (h : Word) (is : Items) → Each Runs is → Fine (form h is) → FormRuns h is
  unfolding emit parts after
  form-by h is e x here d tr g qs st r s c z =
      let g' : Given = entered (head_of h) g in
      let sh = shape_of h is x in
      let later : Scope = scope (inside here tr h is) in
      let one : suc (after_items is g').nodes - 1 ≡ (after_items is g').nodes = omega arith in
      let v : reps_in before + reps_in here ≡ g.variables = sym (heads-on rep_code before here whole) ∙ c.1 in
      let l : later ≡ binding (head_of h) is (λ x. (x, variable g.variables)) (scope tr) = rw (← v) (later-meanings (reps_in before) ps tr here (head_of h) is) in
      rw (
        append_assoc (item_tokens is) (closing ∷ []) r,
        one,
        ← l,
        ← append_assoc qs (items_parts ds (scope tr) later is g') (form_part ds g h is (operands is g') (head_of h) ∷ []),
        ← operands-numbers is g',
      )
      (inner h is e sh here d tr g qs st (closing ∷ r) (form-row ps here tr s h is x) (counts-head before here g h is whole s.mode c sh)
      ∙ ap (λ (u : State). emit u r)
      (close-taken before here d ds g h is (qs ++ items_parts ds (scope tr) later is g') (numbers_of is g') st (after_items is g').nodes names c sh z (count-shape h is g' sh)))

  pub tree-run : (t : Tree) → Runs t
  unfolding emit tokens Fine parts after
  tree-run t =
      by-trees t Runs (λ w x here d tr g qs st r s c. leaf-run w here d tr g qs st r s)
      (λ h is e x here d tr g qs st r s c. form-by h is e x here (suc d) tr g qs st r s c (rw (eqb-suc-suc (suc d) 0, eqb-suc-zero d)))
    where
      leaf-run : (w : Word) (here : List Token) (d : ℕ) (tr : Trail) (g : Given) (qs : List Part) (st : List ℕ) (r : List Token) → Seen ps here tr
          → emit (in-mode 0 before here (suc d) (output qs st g.nodes)) (tokens (leaf w) ++ r)
          ≡ emit (in-mode 0 before (here ++ tokens (leaf w)) (suc d) (output (qs ++ parts ds (scope tr) (leaf w) g) (((after (leaf w) g).nodes - 1) ∷ st) (after (leaf w) g).nodes)) r
      leaf-run w here d tr g qs st r s =
          let one : suc g.nodes - 1 ≡ g.nodes = omega arith in
          rw one (ap (λ (u : State). emit u r) (leaf-taken before here (suc d) ps tr qs st g.nodes w s))

  pub form-run : (h : Word) (is : Items) → Fine (form h is) → FormRuns h is
  form-run h is = form-by h is (each_of Runs tree-run is)
