-- The parts of a fine program are written with a byte for each number but a constant's: a node has as many numbers as its kind asks for.
use mathlib.Core.Path.{◌≡◌, refl, sym, ap}
use mathlib.Core.Bool.{Bool, true, false, cond, ◌&&◌, ◌||◌}
use mathlib.Core.List.{List, [], ◌∷◌, ◌++◌}
use Prim.Native.Nat.{ℕ, zero, suc, ◌-◌}
use native.Mathlib.Omega.{arith}
use lib.Dec.{eqb}
use lib.ListN.{length, replicate}
use borrow.Author.Tests.{eqb-true}
use Rattle.notation.specs.Words.{Word, every, lookup, is_number, bits_of, operator, operators, index_of, own_name, Piece, an_expression, a_binder, a_function, Head, plain, slotted, operation, rep, fold}
use Rattle.notation.specs.Words.{define, call, nothing, head_words, head_of, Role, fixed, calls, definition, no_form, role_of, role, same_word}
use Rattle.notation.specs.Grammar.{Tree, Items, nil, expr, bare, Def, Program, ByRole, Fine, Fits, Exprs, FineDefs, FineProgram}
use Rattle.decide.proofs.Picks.{not-both, both}
use Rattle.program.specs.Table.{Item, constant, operator as anOperator, parameter as aParameter, variable as aVariable, keeps, slot, child, definition as aDefinitionItem, items_of}
use Rattle.program.specs.Conditions.{Part, item_bytes, items_bytes, part_bytes}
use Rattle.translation.specs.Names.{binding}
use Rattle.translation.specs.Numbering.{byte, Given, none, Meaning, parameter, variable, Scope, of_kind, meant_by, leaf_part, after, entered, operands, fold_by, form_part, parts, items_parts}
use Rattle.translation.specs.Numbering.{parameters, program_parts}
use Rattle.bindings.proofs.Trees.{Each, by-trees}
use Rattle.tabling.specs.Fields.{fields_bytes, flat_bytes, flat_fields}

abbrev Flat : Part → Type 0
Flat p = part_bytes p ≡ flat_bytes p

abbrev pub AllFlat : List Part → Type 0
AllFlat [] = Unit {0}
AllFlat (p ∷ ps) = (part_bytes p ≡ flat_bytes p) × AllFlat ps

pub flat-fields : (ps : List Part) → AllFlat ps → fields_bytes ps ≡ flat_fields ps
unfolding fields_bytes flat_fields
flat-fields [] f = refl
flat-fields (p ∷ ps) f = rw (f.0, flat-fields ps f.1)

pub flat-left : (ps qs : List Part) → AllFlat (ps ++ qs) → AllFlat ps
flat-left [] qs f = tt
flat-left (p ∷ ps) qs f = (f.0, flat-left ps qs f.1)

flat_append : (ps qs : List Part) → AllFlat ps → AllFlat qs → AllFlat (ps ++ qs)
flat_append [] qs f g = g
flat_append (p ∷ ps) qs f g = (f.0, flat_append ps qs f.1 g)

-- items of one byte each, as many as numbers
abbrev single : Item → Bool
single constant = false
single anOperator = true
single aParameter = true
single aVariable = true
single keeps = true
single slot = true
single child = true
single aDefinitionItem = true

flat_items : (is : List Item) (vs : List ℕ) → every single is ≡ true → length is ≡ length vs → items_bytes is vs ≡ vs
unfolding items_bytes
flat_items [] [] h e = refl
flat_items [] (v ∷ vs) h e = absurd (omega arith)
flat_items (i ∷ is) [] h e = absurd (omega arith)
flat_items (i ∷ is) (v ∷ vs) h e = let b = both (single i) (every single is) h in go i b.0 (flat_items is vs b.1 (omega arith))
  where
    go : (i : Item) → single i ≡ true → items_bytes is vs ≡ vs → item_bytes i v ++ items_bytes is vs ≡ v ∷ vs
    go constant h k = not-both (sym h)
    go anOperator h k = ap (λ (l : List ℕ). v ∷ l) k
    go aParameter h k = ap (λ (l : List ℕ). v ∷ l) k
    go aVariable h k = ap (λ (l : List ℕ). v ∷ l) k
    go keeps h k = ap (λ (l : List ℕ). v ∷ l) k
    go slot h k = ap (λ (l : List ℕ). v ∷ l) k
    go child h k = ap (λ (l : List ℕ). v ∷ l) k
    go aDefinitionItem h k = ap (λ (l : List ℕ). v ∷ l) k

flat-kind : (kind : ℕ) (vs : List ℕ) → eqb kind 0 ≡ false → every single (items_of kind (length vs - 1)) ≡ true → length (items_of kind (length vs - 1)) ≡ length vs → Flat (of_kind kind vs)
flat-kind kind vs z h e = rw (z, flat_items (items_of kind (length vs - 1)) vs h e)

-- a call: its definition and its operands
flat-call : (d : ℕ) (ns : List ℕ) → Flat (of_kind 12 (d ∷ ns))
flat-call d ns =
    let e : suc (length ns) - 1 ≡ length ns = omega arith in
    flat-kind 12 (d ∷ ns) refl (rw e (all-child (length ns))) (rw e (ap suc (replicated (length ns))))
  where
    all-child : (n : ℕ) → every single (replicate n child) ≡ true
    all-child zero = refl
    all-child (suc n) = all-child n

    replicated : (n : ℕ) → length (replicate n child) ≡ n
    replicated zero = refl
    replicated (suc n) = ap suc (replicated n)

-- kinds and how many expressions they have, as the heads give them
abbrev good : Head → Bool
good (plain kind n) = eqb kind 4 && eqb n 1 || (eqb kind 6 && eqb n 3 || eqb kind 7 && eqb n 3)
good (slotted kind n) = eqb kind 8 && eqb n 1 || (eqb kind 9 && eqb n 0 || eqb kind 13 && eqb n 0)
good operation = true
good rep = true
good fold = true
good define = true
good call = true
good nothing = true

lookup-good : (w : Word) (l : List (Word × Head)) (r : Head) → every (λ x. good x.1) l ≡ true → good r ≡ true → good (lookup w l r) ≡ true
lookup-good w [] r h g = g
lookup-good w (x ∷ l) r h g = let b = both (good x.1) (every (λ x. good x.1) l) h in go (same_word w x.0) b.0 (lookup-good w l r b.1 g)
  where
    go : (c : Bool) → good x.1 ≡ true → good (lookup w l r) ≡ true → good (cond c x.1 (lookup w l r)) ≡ true
    go true p q = p
    go false p q = q

head-good : (w : Word) → good (head_of w) ≡ true
unfolding head_of
head-good w = lookup-good w head_words (cond (operator w) operation (cond (own_name w) call nothing)) refl (other (operator w) (own_name w))
  where
    other : (a b : Bool) → good (cond a operation (cond b call nothing)) ≡ true
    other true b = refl
    other false true = refl
    other false false = refl

-- one of three kinds with its number of expressions
one_of_three : {C : Type 0} (kind n a i b j c k : ℕ) → (eqb kind a && eqb n i || (eqb kind b && eqb n j || eqb kind c && eqb n k)) ≡ true
    → ((kind ≡ a) × (n ≡ i) → C) → ((kind ≡ b) × (n ≡ j) → C) → ((kind ≡ c) × (n ≡ k) → C) → C
one_of_three {C} kind n a i b j c k e f g h =
    go (eqb kind a && eqb n i) (eqb kind b && eqb n j) (eqb kind c && eqb n k) (pair a i) (pair b j) (pair c k) e
  where
    pair : (a i : ℕ) → (eqb kind a && eqb n i) ≡ true → (kind ≡ a) × (n ≡ i)
    pair a i q = let p = both (eqb kind a) (eqb n i) q in (eqb-true kind a p.0, eqb-true n i p.1)

    go : (x y z : Bool) → (x ≡ true → (kind ≡ a) × (n ≡ i)) → (y ≡ true → (kind ≡ b) × (n ≡ j)) → (z ≡ true → (kind ≡ c) × (n ≡ k)) → (x || (y || z)) ≡ true → C
    go true y z p q r e = f (p refl)
    go false true z p q r e = g (q refl)
    go false false true p q r e = h (r refl)
    go false false false p q r e = not-both (sym e)

flat-plain : (kind n : ℕ) (ns : List ℕ) → good (plain kind n) ≡ true → length ns ≡ n → Flat (of_kind kind ns)
flat-plain kind n ns g e =
    one_of_three kind n 4 1 6 3 7 3 g
    (λ q. rw q.0 (flat-kind 4 ns refl refl (omega (arith, q.1))))
    (λ q. rw q.0 (flat-kind 6 ns refl refl (omega (arith, q.1))))
    (λ q. rw q.0 (flat-kind 7 ns refl refl (omega (arith, q.1))))

flat-slotted : (kind n s : ℕ) (ns : List ℕ) → good (slotted kind n) ≡ true → length ns ≡ n → Flat (of_kind kind (s ∷ ns))
flat-slotted kind n s ns g e =
    one_of_three kind n 8 1 9 0 13 0 g
    (λ q. rw q.0 (flat-kind 8 (s ∷ ns) refl refl (omega (arith, q.1))))
    (λ q. rw q.0 (flat-kind 9 (s ∷ ns) refl refl (omega (arith, q.1))))
    (λ q. rw q.0 (flat-kind 13 (s ∷ ns) refl refl (omega (arith, q.1))))

-- as many operands as the form has expressions
operands-many : (n : ℕ) (is : Items) (g : Given) → Fits is (replicate n an_expression) → length (operands is g) ≡ n
unfolding Fits operands
operands-many zero nil g f = refl
operands-many zero (expr t is) g f = absurd f
operands-many zero (bare w is) g f = absurd f
operands-many (suc n) nil g f = absurd f
operands-many (suc n) (expr t is) g f = ap suc (operands-many n is (after t g) f.1)
operands-many (suc n) (bare w is) g f = absurd f

flat-fold : (ds : List Word) (is : Items) (g : Given) → Fits is (a_function ∷ an_expression ∷ an_expression ∷ []) → Flat (fold_by ds is (operands is g))
unfolding Fits operands
flat-fold ds nil g f = absurd f
flat-fold ds (expr t is) g f = absurd f
flat-fold ds (bare w is) g f = go (operator w)
  where
    two : length (operands is g) ≡ 2
    two = operands-many 2 is g f.1

    go : (c : Bool) → Flat (cond c (of_kind 10 (index_of w operators ∷ operands is g)) (of_kind 11 (byte (index_of w ds) ∷ operands is g)))
    go true = flat-kind 10 (index_of w operators ∷ operands is g) refl refl (omega (arith, two))
    go false = flat-kind 11 (byte (index_of w ds) ∷ operands is g) refl refl (omega (arith, two))

flat-rep : (v : ℕ) (is : Items) (g : Given) → Fits is (a_binder ∷ an_expression ∷ an_expression ∷ []) → Flat (of_kind 5 (v ∷ operands is g))
unfolding Fits operands
flat-rep v nil g f = absurd f
flat-rep v (expr t is) g f = absurd f
flat-rep v (bare w is) g f = let two = operands-many 2 is g f.1 in flat-kind 5 (v ∷ operands is g) refl refl (omega arith)

flat-form : (ds : List Word) (g f : Given) (h : Word) (is : Items) (k : Head) → good k ≡ true → ByRole (role_of k) (λ ks. Fits is ks) (Exprs is)
    → Flat (form_part ds g h is (operands is f) k)
flat-form ds g f h is (plain kind n) e x = flat-plain kind n (operands is f) e (operands-many n is f x)
flat-form ds g f h is (slotted kind n) e x = flat-slotted kind n (byte (suc g.slots)) (operands is f) e (operands-many n is f x)
flat-form ds g f h is operation e x = let two = operands-many 2 is f x in flat-kind 3 (index_of h operators ∷ operands is f) refl refl (omega arith)
flat-form ds g f h is rep e x = flat-rep (byte g.variables) is f x
flat-form ds g f h is fold e x = flat-fold ds is f x
flat-form ds g f h is define e x = absurd x
flat-form ds g f h is call e x = flat-call (byte (index_of h ds)) (operands is f)
flat-form ds g f h is nothing e x = absurd x

flat-leaf : (sc : Scope) (w : Word) → Flat (leaf_part sc w)
unfolding items_bytes
flat-leaf sc w = go (is_number w) (lookup w sc (parameter 0))
  where
    go : (c : Bool) (m : Meaning) → Flat (cond c (of_kind 0 (bits_of w ∷ [])) (meant_by m))
    go true m = refl
    go false (parameter p) = refl
    go false (variable v) = refl

-- trees, their items, programs
abbrev FlatTree : Tree → Type 0
FlatTree t = Fine t → (ds : List Word) (sc : Scope) (g : Given) → AllFlat (parts ds sc t g)

abbrev FineItems : Items → Type 0
FineItems is = Each Fine is

fine-fits : (is : Items) (ks : List Piece) → Fits is ks → FineItems is
unfolding Fits
fine-fits nil ks f = tt
fine-fits (expr t is) [] f = absurd f
fine-fits (expr t is) (an_expression ∷ ks) f = (f.0, fine-fits is ks f.1)
fine-fits (expr t is) (a_binder ∷ ks) f = absurd f
fine-fits (expr t is) (a_function ∷ ks) f = absurd f
fine-fits (bare w is) [] f = absurd f
fine-fits (bare w is) (an_expression ∷ ks) f = absurd f
fine-fits (bare w is) (a_binder ∷ ks) f = fine-fits is ks f.1
fine-fits (bare w is) (a_function ∷ ks) f = fine-fits is ks f.1

fine-exprs : (is : Items) → Exprs is → FineItems is
unfolding Exprs
fine-exprs nil f = tt
fine-exprs (expr t is) f = (f.0, fine-exprs is f.1)
fine-exprs (bare w is) f = absurd f

fine-items : (is : Items) (o : Role) → ByRole o (λ ks. Fits is ks) (Exprs is) → FineItems is
fine-items is (fixed ks) f = fine-fits is ks f
fine-items is calls f = fine-exprs is f
fine-items is definition f = absurd f
fine-items is no_form f = absurd f

flat-all : (is : Items) → Each FlatTree is → FineItems is → (ds : List Word) (sc later : Scope) (g : Given) → AllFlat (items_parts ds sc later is g)
unfolding items_parts
flat-all nil e x ds sc later g = tt
flat-all (expr t is) e x ds sc later g =
    flat_append (parts ds sc t g) (items_parts ds later later is (after t g)) (e.0 x.0 ds sc g) (flat-all is e.1 x.1 ds later later (after t g))
flat-all (bare w is) e x ds sc later g = flat-all is e x ds sc later g

flat-tree : (t : Tree) → FlatTree t
unfolding Fine parts role
flat-tree t =
    by-trees t FlatTree (λ w x ds sc g. (flat-leaf sc w, tt)) λ h is e x ds sc g.
    flat_append (items_parts ds sc (binding (head_of h) is (λ x. (x, variable g.variables)) sc) is (entered (head_of h) g)) _
    (flat-all is e (fine-items is (role_of (head_of h)) x) ds sc (binding (head_of h) is (λ x. (x, variable g.variables)) sc) (entered (head_of h) g))
    (flat-form ds g (entered (head_of h) g) h is (head_of h) (head-good h) x, tt)

flat-program : (defs : List Def) (main : Tree) → FineDefs defs → Fine main → (ds : List Word) (g : Given) → AllFlat (program_parts ds defs main g)
unfolding FineDefs program_parts
flat-program [] main x y ds g = flat-tree main y ds [] g
flat-program (d ∷ defs) main x y ds g =
    flat_append (parts ds (parameters 0 d.params) d.body g) _ (flat-tree d.body x.0.fine ds (parameters 0 d.params) g)
    (refl, flat-program defs main x.1 y (ds ++ d.name ∷ []) (after d.body g))

pub flat-parts : (p : Program) → FineProgram p → AllFlat (program_parts [] p.defs p.main none)
flat-parts p x = flat-program p.defs p.main x.definitions x.main [] none
