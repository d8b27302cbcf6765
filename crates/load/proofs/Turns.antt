-- The loop from field to field: what is left of the bytes gives the whole's result.
use mathlib.Core.Path.{◌≡◌, refl, sym, ◌∙◌, ap}
use mathlib.Core.Bool.{Bool, true, false, not, cond, ◌||◌}
use mathlib.Core.List.{List, [], ◌∷◌}
use Prim.Native.Nat.{ℕ, suc, ◌+◌, ◌*◌, ◌<◌}
use native.Mathlib.Omega.{arith}
use lib.ListN.{length, get_or, take, drop, set}
use lib.Dec.{eqb, leb}
use borrow.Author.Tests.{eqb-true, eq-eqb, ne_eqb}
use Rattle.wire.specs.Wire as wire
use Rattle.wire.specs.Wire.{Fields, end, cut, fields_in, fields_of}
use Rattle.program.specs.Table as program
use Rattle.program.specs.Table.{RefusalRows, first_of, TableEntry, a_node, a_definition, a_main, unknown, entry_of, on_entry, unless, refused, Loaded, load_from, definition_rows, node_rows}
use Rattle.program.specs.Table.{main_rows, ended, is_end, unnamed, node_limit, definition_limit}
use Rattle.std.specs.Prelude.{Some, None, Result, Ok, Err}
use Rattle.wire_reader.specs.Field.{split_of, fields_by}
use Rattle.wire_reader.proofs.Laws.{by_split}
use Rattle.verdict.specs.declared.Reason.{Reason}
use Rattle.verdict.specs.declared.Reason.TheVariants.{BadField, BadEnd}
use Rattle.verdict.specs.Outcome.{number_of}
use Rattle.nodes.specs.declared.Node.{Node}
use Rattle.taken.specs.Taken.{code, untaken}
use Rattle.taken.proofs.Walk.{numbered}
use Rattle.taken.proofs.Agree.{set_agrees, untaken-is}
use Rattle.kinds.specs.Taken.{Taken, taken_of, with_node, with_root}
use Rattle.kinds.specs.Numbers.{node_number}
use Rattle.kinds.specs.Reads.{node_from, ReadsNode}
use Rattle.kinds.proofs.Clear.{node-clear}
use Rattle.refusal_rows.specs.Numbers.{field_number, definition_number, main_number}
use Rattle.refusal_rows.specs.declared.Root.{Root}
use Rattle.refusal_rows.specs.declared.Root.TheVariants.{Definition, Main}
use Rattle.refusal_rows.specs.Roots.{GivesRoot, TakesRoot}
use Rattle.refusal_rows.specs.Shows.{Shows}
use Rattle.refusal_rows.proofs.Clear.{definition-clear, main-clear}
use Rattle.refusal_rows.proofs.RefusalRows.{entry_number, entry-is, field-rows, definition-rows, node-rows, main-rows}
use Rattle.load.specs.declared.Table.{Table}
use Rattle.load.specs.Loads.{table_of, Good, Loads}
use Rattle.load.specs.Steps.{table_in, empty_table, none_taken, refusal, number_in, put, add_node, define, bad_end, ended_with, with_main}
use Rattle.load.proofs.State.{State, shows-of, beginning, empty-shown, put-shown, put-state, define-shown, define-state}

-- rows of which none holds, and rows of which one does
none-holds : (rows : RefusalRows) (place : ℕ) (next : Loaded) → first_of rows ≡ 0 → unless rows place next ≡ next
none-holds rows place next e = rw (eq-eqb (first_of rows) 0 e)

one_holds : (rows : RefusalRows) (place e : ℕ) (next : Loaded) → e ≡ first_of rows → (e ≡ 0 → ⊥) → unless rows place next ≡ refused e place
one_holds rows place e next q h = rw (← q, ne_eqb e 0 h)

stopped : (t : program.Table) (en : TableEntry) (place e : ℕ) (rest : Fields) (go : program.Table → Loaded) → e ≡ entry_number t en → (e ≡ 0 → ⊥)
    → on_entry place t en rest go ≡ refused e place
stopped t (a_node kind s) place e rest go q h = one_holds (node_rows t kind s) place e _ q h
stopped t (a_definition s) place e rest go q h = one_holds (definition_rows t s) place e _ q h
stopped t (a_main s) place e rest go q h = one_holds (main_rows t s) place e _ q h
stopped t unknown place e rest go q h = ap (λ (n : ℕ). refused n place) (sym q)

-- a field that is not refused: one node or definition more
record Grown (t : Table) (en : TableEntry) (u : Table) (m : Taken) : Type 0 where
  pub shown : (place : ℕ) (rest : Fields) (go : program.Table → Loaded) → on_entry place (table_of t) en rest go ≡ go (table_of u)
  pub more : u.n + u.defs ≡ suc (t.n + t.defs)
  pub state : State u m

module _ (t : Table) (m : Taken) (tag : ℕ) (b : List ℕ) where
  abbrev n-of : ℕ
  n-of = node_number (get_or b 0 0) (drop 1 b) t.n t.defs (get_or t.counts (get_or (drop 1 b) 0 0) 0) m

  abbrev d-of : ℕ
  d-of = definition_number b t.n t.defs m.named

  -- what no refusal tells of a node, of a definition, of the main node
  node-number : number_in t m tag b ≡ 0 → tag ≡ 1 → (eqb (length b) 0 ≡ false) × (n-of ≡ 0)
  unfolding field_number
  node-number e q = go (eqb (length b) 0) (rw q at e)
    where
      go : (i : Bool) → cond i 1 n-of ≡ 0 → (i ≡ false) × (n-of ≡ 0)
      go true e = absurd (omega arith)
      go false e = (refl, e)

  definition-number : number_in t m tag b ≡ 0 → (tag ≡ 1 → ⊥) → (tag ≡ 3 → ⊥) → (tag ≡ 2) × (d-of ≡ 0)
  unfolding field_number
  definition-number e p d = go (eqb tag 2) refl (rw (ne_eqb tag 1 p, ne_eqb tag 3 d) at e)
    where
      go : (f : Bool) → eqb tag 2 ≡ f → cond f d-of 1 ≡ 0 → (tag ≡ 2) × (d-of ≡ 0)
      go true q e = (eqb-true tag 2 q, e)
      go false q e = absurd (omega arith)

  main-number : number_in t m tag b ≡ 0 → tag ≡ 3 → main_number b t.n m.named ≡ 0
  unfolding field_number
  main-number e q = rw q at e

  -- the same of the field's entry
  node-entry : tag ≡ 1 → eqb (length b) 0 ≡ false → entry_of tag b ≡ a_node (get_or b 0 0) (drop 1 b)
  node-entry q e = entry-is tag b ∙ rw (q, e)

  definition-entry : tag ≡ 2 → entry_of tag b ≡ a_definition b
  definition-entry q = entry-is tag b ∙ rw q

  main-entry : tag ≡ 3 → entry_of tag b ≡ a_main b
  main-entry q = entry-is tag b ∙ rw q

module _ (t : Table) (m : Taken) (st : State t m) (tag : ℕ) (b : List ℕ) (e : number_in t m tag b ≡ 0) where
  shows : Shows t.n t.defs t.counts m (table_of t)
  shows = shows-of t m st

  node-grown : tag ≡ 1 → Grown t (entry_of tag b) (add_node t b) (with_node (node_from t.counts b) m)
  unfolding add_node put
  node-grown q =
      let k = node-number t m tag b e q in
      let cl = node-clear (get_or b 0 0) (drop 1 b) t.n t.defs _ m k.1 in
      let z = sym (node-rows t.n t.defs t.counts m (table_of t) shows (get_or b 0 0) (drop 1 b)) ∙ k.1 in
      record {
        shown = λ place rest go. ap (λ (en : TableEntry). on_entry place (table_of t) en rest go) (node-entry t m tag b q k.0)
            ∙ none-holds (node_rows (table_of t) (get_or b 0 0) (drop 1 b)) place _ z
            ∙ ap go (sym (put-shown t m st (get_or b 0 0) (drop 1 b) cl));
        more = omega arith;
        state = put-state t m st (get_or b 0 0) (drop 1 b) cl;
      }

  definition-grown : (tag ≡ 1 → ⊥) → (tag ≡ 3 → ⊥) → Grown t (entry_of tag b) (define t b) (with_root (get_or b 1 0) m)
  unfolding define
  definition-grown p d =
      let k = definition-number t m tag b e p d in
      let cl = definition-clear b t.n t.defs m.named k.1 in
      let z = sym (definition-rows t.n t.defs t.counts m (table_of t) shows b) ∙ k.1 in
      record {
        shown = λ place rest go. ap (λ (en : TableEntry). on_entry place (table_of t) en rest go) (definition-entry t m tag b k.0)
            ∙ none-holds (definition_rows (table_of t) b) place _ z
            ∙ ap go (sym (define-shown t m st b cl));
        more = omega arith;
        state = define-state t m st b cl;
      }

  main-taken : tag ≡ 3 → (place : ℕ) (rest : Fields) (go : program.Table → Loaded)
      → on_entry place (table_of t) (entry_of tag b) rest go ≡ ended (table_of t) (get_or b 0 0) rest
  main-taken q place rest go =
      ap (λ (en : TableEntry). on_entry place (table_of t) en rest go) (main-entry t m tag b q)
      ∙ none-holds (main_rows (table_of t) b) place _ (sym (main-rows t.n t.defs t.counts m (table_of t) shows b) ∙ main-number t m tag b e q)

-- no byte is left
is-end : (s : List ℕ) → is_end (fields_of s) ≡ eqb (length s) 0
unfolding fields_in fields_of
is-end [] = refl
is-end (tag ∷ []) = refl
is-end (tag ∷ high ∷ []) = refl
is-end (tag ∷ high ∷ low ∷ s) = go (leb _ (length s)) _ ∙ sym (ne_eqb (length (tag ∷ high ∷ low ∷ s)) 0 (λ e. omega arith))
  where
    go : (c : Bool) (f : Fields) → is_end (cond c (wire.whole tag (take (high * 256 + low) s) f) cut) ≡ false
    go true f = refl
    go false f = refl

-- what is left: nothing, bytes that begin no whole field, a whole field
no-field : (s : List ℕ) → length s ≡ 0 → fields_of s ≡ end
unfolding fields_in fields_of
no-field [] h = refl
no-field (b ∷ s) h = absurd (omega arith)

cut-field : (s : List ℕ) → (length s ≡ 0 → ⊥) → split_of s ≡ None → fields_of s ≡ cut
cut-field [] h e = absurd (h refl)
cut-field (b ∷ s) h e = by_split (b ∷ s) ∙ ap (fields_by (b ∷ s)) e

whole-field : (s : List ℕ) {tag : ℕ} {b d : List ℕ} → split_of s ≡ Some (tag, b, d) → fields_of s ≡ wire.whole tag b (fields_of d)
whole-field s e = by_split s ∙ ap (fields_by s) e

-- the rows at the table's end are those of the code
end-rows : (t : Table) (m : Taken) → State t m → (main left : ℕ) (rest : Fields) → main < t.n → is_end rest ≡ eqb left 0
    → cond {A = ℕ} (bad_end left t.n (set m.named main true)) 6 0 ≡ first_of ((not (is_end rest), 6) ∷ (unnamed (length (table_of t).nodes) (main ∷ program.named (table_of t)), 6) ∷ [])
unfolding first_of
end-rows t m st main left rest h e =
    let few = st.good.n in
    let u : untaken t.n (set m.named main true) ≡ unnamed t.n (main ∷ program.named (table_of t)) =
    untaken-is t.n few (set_agrees main (omega arith) st.named) in
    rw (← (shows-of t m st).nodes, e, u) (go (not (eqb left 0)) (unnamed t.n (main ∷ program.named (table_of t))))
  where
    go : (a b : Bool) → cond {A = ℕ} (a || b) 6 0 ≡ cond a 6 (cond b 6 0)
    go true b = refl
    go false b = refl

-- The loop at a field: what is left gives the whole's result
pub record Going (s : List ℕ) (t : Table) (m : Taken) (left : List ℕ) : Type 0 where
  pub state : State t m
  pub same : program.load s ≡ load_from (t.n + t.defs) (table_of t) (fields_of left)

pub begin : (s : List ℕ) → Going s empty_table none_taken s
unfolding program.load
begin s = record { state = beginning; same = ap (λ (t : program.Table). load_from 0 t (fields_of s)) (sym empty-shown) }

is-refused : (s : List ℕ) (q : Reason) (place : ℕ) → program.load s ≡ refused (number_of q) place → Loads s (refusal q place)
is-refused s q place e =
    record { number = sym (ap (λ (l : Loaded). l.number) e); place = sym (ap (λ (l : Loaded). l.place) e); loaded = tt }

-- the table is loaded, or refused at its end
ended-loads : (s : List ℕ) (t : Table) (main : ℕ) (bad : Bool)
    → program.load s ≡ cond bad (refused 6 0) (record { number = 0; place = 0; table = table_of t; main = main })
    → main < t.n
    → Good t
    → Loads s (ended_with bad (with_main t main))
unfolding table_of
ended-loads s t main true q m good = is-refused s BadEnd 0 q
ended-loads s t main false q m good =
    record {
      number = sym (ap (λ (l : Loaded). l.number) q);
      place = sym (ap (λ (l : Loaded). l.place) q);
      loaded = record {
        table = sym (ap (λ (l : Loaded). l.table) q);
        main = sym (ap (λ (l : Loaded). l.main) q);
        main_given = m;
        good = record {
          long_nodes = good.long_nodes;
          long_counts = good.long_counts;
          long_bodies = good.long_bodies;
          n = good.n;
          defs = good.defs;
          nodes = λ i h. let g = good.nodes i h in
              record { long = g.long; kids = g.kids; few = g.few; range = g.range; children = g.children; definition = g.definition };
          counts = good.counts;
          bodies = good.bodies;
        };
      };
    }

-- the same under another name
going-as : {s : List ℕ} {t u : Table} {m k : Taken} {left : List ℕ} → u ≡ t → k ≡ m → Going s t m left → Going s u k left
going-as e f g = rw (e, f) g

module _ (t : Table) (b : List ℕ) where
  define-is : (first second : ℕ) → first ≡ get_or b 0 0 → second ≡ get_or b 1 0
      → table_in t.nodes (set t.counts t.defs first) (set t.bodies t.defs second) t.n (t.defs + 1) t.main ≡ define t b
  unfolding define
  define-is first second e f = rw (e, f)

  node-is : (x : Node) → x ≡ node_from t.counts b
      → table_in (set t.nodes t.n x) t.counts t.bodies (t.n + 1) t.defs t.main ≡ add_node t b
  unfolding add_node put
  node-is x e = rw e

module _ (s : List ℕ) (t : Table) (m : Taken) (left : List ℕ) (g : Going s t m left) where
  abbrev fields : ℕ
  fields = t.n + t.defs

  at : {f : Fields} → fields_of left ≡ f → program.load s ≡ load_from fields (table_of t) f
  at e = g.same ∙ ap (load_from fields (table_of t)) e

  -- no main node
  pub end-turn : length left ≡ 0 → Loads s (refusal BadEnd 0)
  unfolding load_from
  end-turn h = is-refused s BadEnd 0 (at (no-field left h))

  -- a field that is not whole
  pub broken-turn : (length left ≡ 0 → ⊥) → split_of left ≡ None → Loads s (refusal BadField fields)
  unfolding load_from
  broken-turn h e = is-refused s BadField fields (at (cut-field left h e))

  -- a whole field
  module _ {tag : ℕ} {b next : List ℕ} (w : split_of left ≡ Some (tag, b, next)) where
    entry : program.load s ≡ on_entry fields (table_of t) (entry_of tag b) (fields_of next) (λ u. load_from (suc fields) u (fields_of next))
    unfolding load_from
    entry = at (whole-field left w)

    -- that is refused
    stop-turn : (q : Reason) → number_of q ≡ number_in t m tag b → Loads s (refusal q fields)
    stop-turn q e =
        is-refused s q fields
        (entry
        ∙ stopped (table_of t) (entry_of tag b) fields (number_of q) (fields_of next) _ (e ∙ field-rows t.n t.defs t.counts m (table_of t) (shows-of t m g.state) tag b) (numbered q))

    -- that is taken
    next-turn : (u : Table) (m' : Taken) → Grown t (entry_of tag b) u m' → Going s u m' next
    next-turn u m' k =
        record { state = k.state; same = entry ∙ k.shown fields (fields_of next) _ ∙ ap (λ (i : ℕ). load_from i (table_of u) (fields_of next)) (sym k.more) }

    -- the main node
    main-turn : number_in t m tag b ≡ 0 → tag ≡ 3 → Loads s (ended_with (bad_end (length next) t.n (set m.named (get_or b 0 0) true)) (with_main t (get_or b 0 0)))
    main-turn o d =
        let a : get_or b 0 0 < t.n = main-clear b t.n m.named (main-number t m tag b o d) in
        let num = end-rows t m g.state (get_or b 0 0) (length next) (fields_of next) a (is-end next) in
        ended-loads s t (get_or b 0 0) (bad_end (length next) t.n (set m.named (get_or b 0 0) true))
        (entry ∙ main-taken t m g.state tag b o d fields (fields_of next) _ ∙ as-cond (bad_end (length next) t.n (set m.named (get_or b 0 0) true)) _ _ num) a g.state.good
      where
        as-cond : (bad : Bool) (l : Loaded) (k : ℕ) → cond {A = ℕ} bad 6 0 ≡ k → cond (eqb k 0) l (refused k 0) ≡ cond bad (refused 6 0) l
        as-cond true l k e = rw (← e)
        as-cond false l k e = rw (← e)

    -- ---- what the code read there: a node
    module _ {x : Result Node Reason} {m' : Taken} (one : tag ≡ 1) (h : ReadsNode b t.n t.defs t.counts m x m') where
      node-is-number : code x ≡ number_in t m tag b
      unfolding field_number
      node-is-number = h.number ∙ ap (λ (i : ℕ). number_in t m i b) (sym one)

      pub node-refused : {q : Reason} → x ≡ Err q → Loads s (refusal q fields)
      node-refused {q} e = stop-turn q (ap code (sym e) ∙ node-is-number)

      module _ {y : Node} (e : x ≡ Ok y) where
        node_ok : number_in t m tag b ≡ 0
        node_ok = sym node-is-number ∙ ap code e

        pub nodes-room : t.n < node_limit
        nodes-room = (node-clear (get_or b 0 0) (drop 1 b) t.n t.defs _ m (node-number t m tag b node_ok one).1).room

        pub node-turn : Going s (table_in (set t.nodes t.n y) t.counts t.bodies (t.n + 1) t.defs t.main) m' next
        node-turn = going-as (node-is t b y (rw e at h.node)) (h.after (ap code e)) (next-turn _ _ (node-grown t m g.state tag b node_ok one))

    -- a definition, the main node, or neither
    module _ {x : Result Root Reason} {named' : List Bool} (d : tag ≡ 1 → ⊥) (h : TakesRoot tag b t.n t.defs m.named x named') where
      root-is-number : code x ≡ number_in t m tag b
      root-is-number = h.number t.counts m.slots m.kept

      pub root-refused : {q : Reason} → x ≡ Err q → Loads s (refusal q fields)
      root-refused {q} e = stop-turn q (ap code (sym e) ∙ root-is-number)

      module _ {main : ℕ} (e : x ≡ Ok (Main main)) where
        pub ends-turn : Loads s (ended_with (bad_end (length next) t.n named') (with_main t main))
        ends-turn =
            let z : number_in t m tag b ≡ 0 = sym root-is-number ∙ ap code e in
            let p : GivesRoot tag b m.named named' (Main main) = rw e at h.gives in
            rw (p.1, p.2) (main-turn z p.0)

      module _ {parameters body : ℕ} (e : x ≡ Ok (Definition parameters body)) where
        gives : GivesRoot tag b m.named named' (Definition parameters body)
        gives = rw e at h.gives

        root_ok : number_in t m tag b ≡ 0
        root_ok = sym root-is-number ∙ ap code e

        three : tag ≡ 3 → ⊥
        three z = let p = gives.0 in omega arith

        pub defs-room : t.defs < definition_limit
        defs-room = (definition-clear b t.n t.defs m.named (definition-number t m tag b root_ok d three).1).room

        pub define-turn : Going s (table_in t.nodes (set t.counts t.defs parameters) (set t.bodies t.defs body) t.n (t.defs + 1) t.main) (taken_of named' m.slots m.kept) next
        define-turn =
            going-as (define-is t b parameters body gives.1 gives.2)
            (ap (λ (l : List Bool). taken_of l m.slots m.kept) gives.3)
            (next-turn _ _ (definition-grown t m g.state tag b root_ok d three))
