-- The pass over the nodes: its invariant, one more node, and what it comes to. Assumes nothing.
use mathlib.Core.Path.{◌≡◌, refl, sym, ap, subst, ◌∙◌}
use mathlib.Core.Bool.{Bool, true, false, cond, ◌&&◌, ◌||◌, or-true}
use mathlib.Core.List.{List, [], ◌∷◌}
use Prim.Native.Nat.{ℕ, zero, suc, ◌+◌, ◌≤◌, ◌<◌}
use native.Mathlib.Omega.{arith}
use lib.ListN.{length, get_or, set, take, replicate, length-set, length-replicate, get_or-replicate, get_or-eq_default}
use lib.Seq.{get_or-set_same, get_or-set_other}
use lib.Dec.{eqb, leb, ltb}
use borrow.Author.Count.{below_none, below_more}
use borrow.Author.Tests.{eqb-true, eq-eqb, ltb-true, ltb-false, leb-true, leb-false, lt-ltb}
use Rattle.shapes.specs.Kinds.{operator_kind, number_of}
use Rattle.shapes.proofs.ByKind.{kind-known}
use Rattle.program.specs.Table.{Definition, no_definition, among, bodies, node_limit}
use Rattle.program.specs.Tree.{Expr, tree_of, trees, tree, is_field, sort_broken}
use Rattle.program.specs.Check.{sort_offends}
use Rattle.decide.proofs.Picks.{neither, and_second}
use Rattle.words.specs.Form.{forms, constant_form, parameter_form, fold_by_form, call_form, field_forms}
use Rattle.words.specs.Word.{form, item, p1, p2, p3, p4, body, count, word}
use Rattle.words.specs.Trees.{at, made, tree_at}
use Rattle.words.specs.Sound.{Sorted}
use Rattle.words.proofs.Trees.{tree-lit}
use Rattle.operands.specs.Formed.{widths, width, Formed, AllFormed, checked_forms}
use Rattle.operands.proofs.Views.{formed}
use Rattle.shapes.specs.Shapes.{lead_of, kids_of, parameter_item, definition_item}
use Rattle.nodes.specs.Body.{no_node}
use Rattle.nodes.specs.Values.{node_of}
use Rattle.load.specs.declared.Table.{Table}
use Rattle.load.proofs.Shown.{shown-nodes, shown-node, shown-definition, shown-bodies}
use Rattle.load.specs.Loads.{table_of, node_at, GoodNode, Good}
use Rattle.encode.specs.Parts.{form_by, item_by, kid, IsParts, Fits, Childless, IsWord}
use Rattle.encode.proofs.Words.{Shape, shape, item-fits, form-is}
use Rattle.sorts.specs.Sorts.{is_field_at, part_field, flags_in, broken_by, first_bad, lower_field, lowest_field}
use Rattle.sorts.proofs.ByKind.{no_fields}
use Rattle.pack.specs.Packs.{Packs}
use Rattle.pack.proofs.Made.{flag_in, flags_of, made-is, field_is, broken-is}
use Rattle.pack.proofs.Grown.{firsts, first-tree, tree_is, tree-at}
use Rattle.pack.proofs.Looks.{Looked, look_none, look-clean, look, answer, alike, lowest-of}
use Rattle.pack.proofs.Sorts.{Known, sorted}

-- a body is among them
among-taken : (bs : List ℕ) (m d : ℕ) → d < m → d < length bs → among (get_or bs d 0) (take m bs) ≡ true
unfolding among
among-taken bs zero d h l = absurd (omega arith)
among-taken [] (suc m) d h l = absurd (omega arith)
among-taken (b ∷ bs) (suc m) zero h l = rw (eq-eqb b b refl)
among-taken (b ∷ bs) (suc m) (suc d) h l = rw (among-taken bs m d (omega arith) (omega arith)) (or-true (eqb (get_or bs d 0) b))

-- of node k: the trees of the nodes before it, which of its children are fields, its definition's body and count, its word and that word's parts
abbrev first : Table → ℕ → List Expr
first t k = firsts (table_of t).definitions (table_of t).nodes k

abbrev flags : Table → ℕ → List Bool
flags t k = flags_of (first t k) (node_at t k)

abbrev body_of : Table → ℕ → ℕ
body_of t k = get_or t.bodies (node_at t k).item 0

abbrev count_of : Table → ℕ → ℕ
count_of t k = get_or t.counts (node_at t k).item 0

abbrev Worded : Table → ℕ → ℕ → Type 0
Worded t k w = IsWord (node_at t k) (body_of t k) (get_or (flags t k) 0 false || get_or (flags t k) 1 false) (get_or (flags t k) 1 false) w

abbrev PartsOf : Table → ℕ → ℕ → Type 0
PartsOf t k w = IsParts (form_by (number_of (node_at t k).kind) (get_or (flags t k) 0 false || get_or (flags t k) 1 false) (get_or (flags t k) 1 false))
    (item_by (number_of (node_at t k).kind) (node_at t k).item) (node_at t k) (body_of t k) w

abbrev broken : Table → ℕ → Bool
broken t k = sort_broken (tree (table_of t) k)

-- the words of the nodes below i are there, the others are 0, and r is the lowest whose operands' sorts are broken
pub record Going (t : Table) (ws : List ℕ) (r i : ℕ) : Type 0 where
  pub long : length ws ≡ node_limit
  pub upto : i ≤ t.n
  pub worded : (k : ℕ) → k < i → Worded t k (word ws k)
  pub rest : (k : ℕ) → i ≤ k → word ws k ≡ 0
  pub looked : Looked (broken t) r i

module _ (t : Table) (g : Good t) where
  pub begins : {ws : List ℕ} → ws ≡ replicate node_limit 0 → Going t ws node_limit 0
  begins {ws} e =
      record {
        long = ap length e ∙ length-replicate {A = ℕ} node_limit 0;
        upto = omega arith;
        worded = below_none _;
        rest = λ k h. go k (ltb k node_limit) refl;
        looked = look_none (broken t);
      }
    where
      go : (k : ℕ) (b : Bool) → ltb k node_limit ≡ b → word ws k ≡ 0
      go k true q = ap (λ (l : List ℕ). get_or l k 0) e ∙ get_or-replicate node_limit k 0 0 (ltb-true k node_limit q)
      go k false q = get_or-eq_default ws 0 (subst (λ (m : ℕ). m ≤ k) (sym (ap length e ∙ length-replicate {A = ℕ} node_limit 0)) (ltb-false k node_limit q))

  inside : (k : ℕ) → k < t.n → k < length (table_of t).nodes
  inside k h = subst (λ (m : ℕ). k < m) (shown-nodes t g) h

  -- ---- node k of the table
  module _ (k : ℕ) (h : k < t.n) where
    good : GoodNode t k (node_at t k)
    good = g.nodes k h

    pub fits : Fits (node_at t k)
    fits = record { kids = good.few; item = (item-fits (number_of (node_at t k).kind) (node_at t k).item (node_at t k).constant good.range).0 }

    tree-node : tree (table_of t) k ≡ tree_of (table_of t).definitions (first t k) k (node_of (node_at t k))
    unfolding trees
    tree-node =
        tree_is (table_of t).definitions (table_of t).nodes (node_of no_node) k (inside k h)
        ∙ ap (tree_of (table_of t).definitions (first t k) k) (shown-node t g k (node_of no_node) h)

    field-word : (w : ℕ) → Worded t k w → leb field_forms (form w) ≡ is_field (tree (table_of t) k)
    field-word w r =
        ap (leb field_forms) (form-is r)
        ∙ field_is (table_of t).definitions (first t k) k (node_at t k) (count_of t k) good.long good.few good.kids
        ∙ ap is_field (sym tree-node)

    broken-word : broken_by (number_of (node_at t k).kind) (flags t k) ≡ sort_broken (tree (table_of t) k)
    broken-word =
        broken-is (table_of t).definitions (first t k) k (node_at t k) (count_of t k) good.long good.few good.kids
        ∙ ap sort_broken (sym tree-node)

    makes : (w : ℕ) → Worded t k w
        → made k (first t k) w ≡ tree_of (table_of t).definitions (first t k) k (get_or (table_of t).nodes k (node_of no_node))
    makes w r =
        made-is (table_of t).definitions (first t k) k (node_at t k) (count_of t k) good.long good.few good.kids
        (body_of t k) w (get_or (flags t k) 0 false || get_or (flags t k) 1 false) (get_or (flags t k) 1 false)
        (λ e. ap (λ (d : Definition). d.body) (shown-definition t g (node_at t k).item no_definition (good.definition e).0)) r
        ∙ ap (tree_of (table_of t).definitions (first t k) k) (sym (shown-node t g k (node_of no_node) h))

    -- the node's shape, of its word's form
    module _ (ws : List ℕ) (r : Worded t k (word ws k)) where
      shaped : Shape (number_of (node_at t k).kind) (count_of t k) (form (word ws k))
      shaped =
          subst (Shape (number_of (node_at t k).kind) (count_of t k)) (sym (form-is r))
          (shape (number_of (node_at t k).kind) (count_of t k) (get_or (flags t k) 0 false || get_or (flags t k) 1 false) (get_or (flags t k) 1 false) (kind-known (node_at t k).kind))

      parts : (0 < form (word ws k)) → PartsOf t k (word ws k)
      parts l = r.is_parts (λ e. omega (arith, (r.is_constant e).is_form))

      parts-of : (0 < (node_at t k).kids) → PartsOf t k (word ws k)
      parts-of l = r.is_parts (λ e. omega (arith, good.kids ∙ ap (λ (z : ℕ). kids_of z (count_of t k)) e))

      wide : width (word ws k) ≡ (node_at t k).kids
      unfolding width
      wide = go (eqb (form (word ws k)) call_form) refl shaped.width
        where
          go : (b : Bool) → eqb (form (word ws k)) call_form ≡ b
              → cond b (count_of t k) (get_or widths (form (word ws k)) 0) ≡ kids_of (number_of (node_at t k).kind) (count_of t k)
              → cond b (count (word ws k)) (get_or widths (form (word ws k)) 0) ≡ (node_at t k).kids
          go true q e = (parts (omega (arith, eqb-true (form (word ws k)) call_form q))).is_count
          go false q e = e ∙ sym good.kids

      kid-low : (j c : ℕ) → (j < (node_at t k).kids → c < k) → j < (node_at t k).kids → kid (node_at t k).kids j c < k
      kid-low j c f l = rw (lt-ltb j (node_at t k).kids l) (f l)

      kid-any : 0 < k → (j c : ℕ) → (j < (node_at t k).kids → c < k) → kid (node_at t k).kids j c < k
      kid-any z j c f = go (ltb j (node_at t k).kids) refl
        where
          go : (b : Bool) → ltb j (node_at t k).kids ≡ b → cond b c 0 < k
          go true q = f (ltb-true j (node_at t k).kids q)
          go false q = z

      bodied : (eqb (form (word ws k)) fold_by_form || eqb (form (word ws k)) call_form) ≡ true → lead_of (number_of (node_at t k).kind) ≡ definition_item
      bodied e = eqb-true (lead_of (number_of (node_at t k).kind)) definition_item (sym shaped.bodied ∙ e)

      eight : form (word ws k) ≡ fold_by_form → lead_of (number_of (node_at t k).kind) ≡ definition_item
      eight e = bodied (rw e)

      nine : form (word ws k) ≡ call_form → lead_of (number_of (node_at t k).kind) ≡ definition_item
      nine e = bodied (rw e)

      body-low : lead_of (number_of (node_at t k).kind) ≡ definition_item → 0 < form (word ws k) → body (word ws k) < k
      body-low e l = rw (parts l).is_body (good.definition e).1

      formed-node : Formed ws k
      formed-node =
          formed (ltb-true (form (word ws k)) forms shaped.known)
          (λ l. leb-false checked_forms (form (word ws k))
          (and_second (ltb (form (word ws k)) field_forms) (leb checked_forms (form (word ws k))) shaped.number (lt-ltb (form (word ws k)) field_forms l)))
          (λ l. let m : 0 < (node_at t k).kids = rw wide at l in rw (parts-of (omega arith)).is_p1 (kid-low 0 _ (good.children 0) m))
          (λ l. let m : 1 < (node_at t k).kids = rw wide at l in rw (parts-of (omega arith)).is_p2 (kid-low 1 _ (good.children 1) m))
          (λ l. let m : 2 < (node_at t k).kids = rw wide at l in rw (parts-of (omega arith)).is_p3 (kid-low 2 _ (good.children 2) m))
          (λ l. let m : 3 < (node_at t k).kids = rw wide at l in rw (parts-of (omega arith)).is_p4 (kid-low 3 _ (good.children 3) m))
          (λ e. body-low (eight e) (omega arith))
          (λ e. body-low (nine e) (omega arith))

      absent-node : form (word ws k) ≡ call_form → (p1 (word ws k) < k) × (p2 (word ws k) < k) × (p3 (word ws k) < k) × (p4 (word ws k) < k)
      absent-node e =
          let q = parts (omega arith) in
          let z : 0 < k = omega (arith, body-low (nine e) (omega arith)) in (
            rw q.is_p1 (kid-any z 0 _ (good.children 0)),
            rw q.is_p2 (kid-any z 1 _ (good.children 1)),
            rw q.is_p3 (kid-any z 2 _ (good.children 2)),
            rw q.is_p4 (kid-any z 3 _ (good.children 3)),
          )

      param-node : form (word ws k) ≡ parameter_form → item (word ws k) < 4
      param-node e =
          let b : lead_of (number_of (node_at t k).kind) ≡ parameter_item = eqb-true (lead_of (number_of (node_at t k).kind)) parameter_item
          (sym shaped.parameter ∙ eq-eqb (form (word ws k)) parameter_form e) in
          omega (arith, (parts (omega arith)).is_item, good.range.parameter b, (item-fits (number_of (node_at t k).kind) (node_at t k).item (node_at t k).constant good.range).1)

  -- ---- one more node
  module _ {ws : List ℕ} {r i : ℕ} (s : Going t ws r i) (h : i < t.n) where
    part_same : (j c : ℕ) → (j < (node_at t i).kids → c < i) → part_field ws (node_at t i).kids j c ≡ flag_in (first t i) (node_at t i).kids j c
    unfolding trees
    part_same j c f = go (ltb j (node_at t i).kids) refl
      where
        go : (b : Bool) → ltb j (node_at t i).kids ≡ b → cond b (leb field_forms (form (word ws c))) false ≡ cond b (is_field (at (first t i) c)) false
        go true q =
            let l : c < i = f (ltb-true j (node_at t i).kids q) in
            field-word c (omega arith) (word ws c) (s.worded c l)
            ∙ ap is_field (sym (first-tree (table_of t).definitions (table_of t).nodes (node_of no_node) i c l (omega (arith, inside i h))))
        go false q = refl

    flags-same : flags_in ws (node_at t i) ≡ flags t i
    flags-same =
        let c = (g.nodes i h).children in
        rw (part_same 0 _ (c 0), part_same 1 _ (c 1), part_same 2 _ (c 2), part_same 3 _ (c 3))

    grows : {w q : ℕ} → Worded t i w → Looked (broken t) q (i + 1) → Going t (set ws i w) q (i + 1)
    grows {w} here l =
        record {
          long = length-set ws i w ∙ s.long;
          upto = omega arith;
          worded = below_more (λ (k : ℕ). Worded t k (word (set ws i w) k)) i
              (λ k l. subst (Worded t k) (sym (get_or-set_other ws i k w 0 (λ m. omega arith))) (s.worded k l))
              (subst (Worded t i) (sym (get_or-set_same ws i w 0 (omega (arith, s.long, g.n)))) here);
          rest = λ k l. get_or-set_other ws i k w 0 (λ m. omega arith) ∙ s.rest k (omega arith);
          looked = l;
        }

    -- a node without children, and an operator: no sort to break
    whole : broken_by (number_of (node_at t i).kind) (flags t i) ≡ false → Looked (broken t) r (i + 1)
    whole e = look-clean (broken t) r i s.looked (sym (broken-word i h) ∙ e)

    pub childless : (node_at t i).kids ≡ 0 → Childless (node_at t i)
    childless e = record { fits = fits i h; none = e; count = count_of t i; kind = sym (good i h).kids ∙ e }

    pub childless-goes : {w : ℕ} → (node_at t i).kids ≡ 0 → ((side branch : Bool) → IsWord (node_at t i) (body_of t i) side branch w) → Going t (set ws i w) r (i + 1)
    childless-goes e here = grows (here _ _) (whole (rw e (no_fields (number_of (node_at t i).kind) (count_of t i) (kind-known (node_at t i).kind) (sym (good i h).kids ∙ e))))

    pub operator : (number_of (node_at t i).kind) ≡ operator_kind → ((number_of (node_at t i).kind) ≡ operator_kind) × ((node_at t i).kids ≡ 2) × ((node_at t i).item < 16)
    operator e = (e, (good i h).kids ∙ ap (λ (k : ℕ). kids_of k (count_of t i)) e, rw e at (fits i h).item)

    pub operator-goes : {a b side : Bool} {w : ℕ} → (number_of (node_at t i).kind) ≡ operator_kind → a ≡ is_field_at ws (get_or (node_at t i).children 0 0)
        → b ≡ is_field_at ws (get_or (node_at t i).children 1 0) → side ≡ a || b
        → ((branch : Bool) → IsWord (node_at t i) (body_of t i) side branch w) → Going t (set ws i w) r (i + 1)
    operator-goes {a} {b} {side} {w} e p q o here = grows (subst (λ (z : Bool). IsWord (node_at t i) (body_of t i) z (get_or (flags t i) 1 false) w) sides (here _)) (whole (rw e))
      where
        two : (node_at t i).kids ≡ 2
        two = (operator e).1

        is : (j c : ℕ) → j < 2 → (j < (node_at t i).kids → c < i) → is_field_at ws c ≡ flag_in (first t i) (node_at t i).kids j c
        is j c l f = sym (ap (λ (z : Bool). cond z (is_field_at ws c) false) (lt-ltb j (node_at t i).kids (omega (arith, two)))) ∙ part_same j c f

        sides : side ≡ get_or (flags t i) 0 false || get_or (flags t i) 1 false
        sides = let c = (good i h).children in cc (is 0 (get_or (node_at t i).children 0 0) (omega arith) (c 0), is 1 (get_or (node_at t i).children 1 0) (omega arith) (c 1))

    pub goes : {f : List Bool} {either bad : Bool} {w q : ℕ} → f ≡ flags_in ws (node_at t i) → either ≡ get_or f 0 false || get_or f 1 false
        → IsWord (node_at t i) (body_of t i) either (get_or f 1 false) w → bad ≡ broken_by (number_of (node_at t i).kind) f → q ≡ first_bad r i bad
        → Going t (set ws i w) q (i + 1)
    goes {f} {either} {bad} {w} {q} e p here b c =
        grows
        (subst (λ (y : List Bool). IsWord (node_at t i) (body_of t i) (get_or y 0 false || get_or y 1 false) (get_or y 1 false) w) same
        (subst (λ (y : Bool). IsWord (node_at t i) (body_of t i) y (get_or f 1 false) w) p here))
        (rw c (look (broken t) r i bad s.looked (omega (arith, g.n)) (b ∙ ap (broken_by (number_of (node_at t i).kind)) same ∙ broken-word i h)))
      where
        same : f ≡ flags t i
        same = e ∙ flags-same

  -- ---- all node_limit
  module _ {ws : List ℕ} {r : ℕ} (s : Going t ws r t.n) where
    same-trees : (k : ℕ) → k < t.n → tree_at ws k ≡ tree (table_of t) k
    unfolding trees
    same-trees k h =
        tree-at (table_of t).definitions (table_of t).nodes (node_of no_node) ws t.n k (omega (arith, shown-nodes t g))
        (λ j l. makes j l (word ws j) (s.worded j l)) h

    -- a word that is 0
    zero-form : (k : ℕ) → t.n ≤ k → form (word ws k) ≡ constant_form
    zero-form k h = rw (s.rest k h)

    by-bound : {P : ℕ → Type 0} → ((k : ℕ) → k < t.n → P k) → ((k : ℕ) → t.n ≤ k → P k) → (k : ℕ) → P k
    by-bound {P} low high k = go (ltb k t.n) refl
      where
        go : (b : Bool) → ltb k t.n ≡ b → P k
        go true q = low k (ltb-true k t.n q)
        go false q = high k (ltb-false k t.n q)

    zero-formed : (k : ℕ) → t.n ≤ k → Formed ws k
    unfolding width
    zero-formed k h =
        let e : form (word ws k) ≡ constant_form = zero-form k h in
        let z : width (word ws k) ≡ 0 = rw e in
        formed (omega arith) (λ l. omega arith) (λ l. absurd (omega arith)) (λ l. absurd (omega arith)) (λ l. absurd (omega arith)) (λ l. absurd (omega arith))
        (λ l. absurd (omega arith)) (λ l. absurd (omega arith))

    all-formed : AllFormed ws
    all-formed = record { node = λ k l. by-bound {P = Formed ws} (λ j h. formed-node j h ws (s.worded j h)) zero-formed k }

    all_params : (k : ℕ) → form (word ws k) ≡ parameter_form → item (word ws k) < 4
    all_params = by-bound {P = λ k. form (word ws k) ≡ parameter_form → item (word ws k) < 4} (λ j h. param-node j h ws (s.worded j h)) (λ j h e. absurd (omega (arith, zero-form j h)))

    all-fields : (k : ℕ) → leb field_forms (form (word ws k)) ≡ is_field (tree_at ws k)
    unfolding is_field
    all-fields =
        by-bound {P = λ k. leb field_forms (form (word ws k)) ≡ is_field (tree_at ws k)}
        (λ j h. field-word j h (word ws j) (s.worded j h) ∙ ap is_field (sym (same-trees j h)))
        (λ j h. ap (leb field_forms) (zero-form j h) ∙ sym (ap is_field (tree-lit ws j (zero-form j h))))

    -- where no sort is broken
    module _ (clean : (k : ℕ) → k < t.n → sort_offends (table_of t) t.main k ≡ false) where
      parted : (k : ℕ) → k < t.n → (sort_broken (tree (table_of t) k) ≡ false) × ((among k (t.main ∷ bodies (table_of t).definitions) && is_field (tree (table_of t) k)) ≡ false)
      unfolding sort_offends
      parted k h = neither _ _ (clean k h)

      -- the body of a definition is a number
      body-number : (d : ℕ) → d < t.defs → is_field (tree_at ws (get_or t.bodies d 0)) ≡ false
      unfolding among
      body-number d h =
          let b : ℕ = get_or t.bodies d 0 in
          let l : b < t.n = g.bodies d h in
          let m : among b (bodies (table_of t).definitions) ≡ true = rw (shown-bodies t g) (among-taken t.bodies t.defs d h (omega (arith, g.long_bodies, g.defs))) in
          ap is_field (same-trees b l)
          ∙ and_second (eqb b t.main || among b (bodies (table_of t).definitions)) _ (parted b l).1 (rw m (or-true (eqb b t.main)))

      body-of : (k : ℕ) (h : k < t.n) → lead_of (number_of (node_at t k).kind) ≡ definition_item → 0 < form (word ws k) → is_field (tree_at ws (body (word ws k))) ≡ false
      body-of k h e l = rw (parts k h ws (s.worded k h) l).is_body (body-number (node_at t k).item ((g.nodes k h).definition e).0)

      known : (k : ℕ) → Known ws k
      unfolding sort_broken
      known =
          by-bound {P = Known ws}
          (λ k h. let r = s.worded k h in record {
            fields = λ j l. all-fields j;
            whole = ap sort_broken (same-trees k h) ∙ (parted k h).0;
            folds = λ e. body-of k h (eight k h ws r e) (omega arith);
            calls = λ e. body-of k h (nine k h ws r e) (omega arith);
            absent = absent-node k h ws r;
          })
          (λ k h. let z : form (word ws k) ≡ constant_form = zero-form k h in record {
            fields = λ j l. all-fields j;
            whole = ap sort_broken (tree-lit ws k z);
            folds = λ e. absurd (omega arith);
            calls = λ e. absurd (omega arith);
            absent = λ e. absurd (omega arith);
          })

      pub all-sorted : (k : ℕ) → k < node_limit → Sorted ws k
      all-sorted k l = sorted ws k l all-formed (known k) (all_params k)

    -- the bodies and main that are fields
    field-there : (k : ℕ) → is_field_at ws k ≡ true → k < t.n
    field-there = by-bound {P = λ k. is_field_at ws k ≡ true → k < t.n} (λ j h _. h) (λ j h e. absurd (omega (arith, zero-form j h, leb-true field_forms (form (word ws j)) e)))

    all-looked : {q m : ℕ} (d : ℕ) → m ≡ lower_field ws t.main r → d ≡ t.defs → q ≡ lowest_field ws (take d t.bodies) m
        → Looked (sort_offends (table_of t) t.main) q t.n
    unfolding sort_offends lowest_field
    all-looked d o f e =
        rw (e, f, o) (alike (λ k h. rw (shown-bodies t g, ← field-word k h (word ws k) (s.worded k h)))
        (lowest-of ws t.n g.n field-there (t.main ∷ take t.defs t.bodies) s.looked))

    pub packs : {q m : ℕ} (d : ℕ) → m ≡ lower_field ws t.main r → d ≡ t.defs → q ≡ lowest_field ws (take d t.bodies) m → Packs t ws q
    packs {q} d o f e =
        let l = all-looked d o f e in
        record {
          long = s.long;
          trees = same-trees;
          fields = λ k h. field-word k h (word ws k) (s.worded k h);
          rest = s.rest;
          formed = all-formed;
          params = λ k l. all_params k;
          place = rw (← shown-nodes t g) (answer (sort_offends (table_of t) t.main) q t.n g.n l);
          most = l.most;
          sorted = λ e. record { node = all-sorted (λ k h. l.clean k h (omega (arith, g.n))) };
        }
