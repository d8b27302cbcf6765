-- Loading accepts bytes exactly when they are those of parts that fit, one after the other.
use mathlib.Core.Path.{◌≡◌, refl, sym, ◌∙◌, ap, subst}
use mathlib.Core.Bool.{Bool, true, false}
use mathlib.Core.List.{List, [], ◌∷◌, ◌++◌, append-nil}
use Prim.Native.Nat.{ℕ, zero, suc, ◌<◌}
use native.Mathlib.Omega.{arith}
use lib.ListN.{length, get_or, length-append}
use lib.Dec.{eqb}
use borrow.Author.Tests.{eqb-true, not-false}
use Rattle.wire.specs.Wire.{Fields, end, whole, fields_in}
use Rattle.program.specs.Table.{Node, Table, Loaded, TableEntry, a_node, a_definition, a_main, unknown, entry_of, on_entry, load_from, node_of}
use Rattle.program.specs.Table.{node_rows, definition_rows, main_rows, with_node, RefusalRows, unless}
use Rattle.program.specs.Conditions.{Part, node, define, field_bytes, part_bytes, program_bytes, Bytes}
use Rattle.program.proofs.RefusalRows.{numbered, Clear, test, clear_next, next-clear}
use Rattle.program.proofs.Items.{bytes_left, bytes-right}
use Rattle.program.proofs.Fields.{first_field, Begins, at-end, at_cut, at_field, begins, ends, no_field}
use Rattle.program.proofs.Steps.{grow, joined, joined-none, joined-grow, Fits, Steps}
use Rattle.program.proofs.NodeRows.{body_of, node-bytes, node-fits, node-read, fits-node}
use Rattle.program.proofs.Entries.{definition-bytes, definition-fits, fits-definition, end_rows, main-bytes, main-ends, ends-main, ends-clear}

abbrev pub accepted : Table → ℕ → Loaded
accepted t main = record { number = 0; place = 0; table = t; main = main }

-- the loading l that begins with the table t accepts the bytes s
pub record Loads (t : Table) (s : List ℕ) (l : Loaded) : Type 0 where
  pub parts : List Part
  pub main : ℕ
  pub bytes : s ≡ program_bytes parts main
  pub steps : Steps t parts main
  pub loaded : l ≡ accepted (joined t parts) main

-- one part more in front
onto : (t : Table) (p : Part) {s : List ℕ} {l : Loaded} → Fits t p → Loads (grow t p) s l → Loads t (part_bytes p ++ s) l
unfolding program_bytes
onto t p f o = record {
  parts = p ∷ o.parts;
  main = o.main;
  bytes = ap (λ (s : List ℕ). part_bytes p ++ s) o.bytes;
  steps = (f, o.steps);
  loaded = o.loaded ∙ ap (λ (u : Table). accepted u o.main) (joined-grow t p o.parts);
}

-- what a tag and a body stand for
data Stands (tag : ℕ) (body : List ℕ) : Type 0 where
  a-node : (kind : ℕ) (s : List ℕ) → tag ≡ 1 → body ≡ kind ∷ s → Stands tag body
  a-definition : tag ≡ 2 → Stands tag body
  a-main : tag ≡ 3 → Stands tag body
  nothing : entry_of tag body ≡ unknown → Stands tag body

stands : (tag : ℕ) (body : List ℕ) → Stands tag body
unfolding entry_of
stands tag body = go (eqb tag 2) (eqb tag 3) refl refl body
  where
    go : (b c : Bool) → eqb tag 2 ≡ b → eqb tag 3 ≡ c → (body : List ℕ) → Stands tag body
    go true c p q body = a-definition (eqb-true tag 2 p)
    go false true p q body = a-main (eqb-true tag 3 q)
    go false false p q [] = nothing (rw (p, q))
    go false false p q (kind ∷ s) = go' (eqb tag 1) refl
      where
        go' : (a : Bool) → eqb tag 1 ≡ a → Stands tag (kind ∷ s)
        go' true r = a-node kind s (eqb-true tag 1 r) refl
        go' false r = nothing (rw (r, p, q))

entry-definition : (body : List ℕ) → entry_of 2 body ≡ a_definition body
unfolding entry_of
entry-definition [] = refl
entry-definition (b ∷ s) = refl

entry-main : (body : List ℕ) → entry_of 3 body ≡ a_main body
unfolding entry_of
entry-main [] = refl
entry-main (b ∷ s) = refl

-- the loading of fields, from the table t on, accepts only the bytes s
abbrev Sound : ℕ → Table → Fields → List ℕ → Type 0
Sound place t f s = (load_from place t f).number ≡ 0 → Loads t s (load_from place t f)

-- a field and the rest, where the rest is loaded rightly from any table
module _ (place : ℕ) (t : Table) (rest : List ℕ) (k : ℕ) (later : (u : Table) → Sound (suc place) u (fields_in k rest) rest) where
  abbrev entered : TableEntry → Loaded
  entered e = on_entry place t e (fields_in k rest) (λ u. load_from (suc place) u (fields_in k rest))

  -- a part whose rows make it fit
  enter-part : (p : Part) (rows : RefusalRows) → numbered rows ≡ true → (Clear rows → Fits t p)
      → (unless rows place (load_from (suc place) (grow t p) (fields_in k rest))).number ≡ 0
      → Clear rows × Loads t (part_bytes p ++ rest) (unless rows place (load_from (suc place) (grow t p) (fields_in k rest)))
  enter-part p rows h f e =
      let next : Loaded = load_from (suc place) (grow t p) (fields_in k rest) in
      let c = next-clear rows place next h e in
      let o = onto t p (f c.0) (later (grow t p) (ap (λ (l : Loaded). l.number) (sym c.1) ∙ e)) in
      (c.0, subst (λ (l : Loaded). Loads t (part_bytes p ++ rest) l) (sym c.1) o)

  enter-node : (kind : ℕ) (s : List ℕ) → Bytes s → (entered (a_node kind s)).number ≡ 0 → Loads t (field_bytes 1 (kind ∷ s) ++ rest) (entered (a_node kind s))
  enter-node kind s b e =
      let r = enter-part (node (node_of t kind s)) (node_rows t kind s) refl (node-fits t kind s b) e in
      subst (λ (z : List ℕ). Loads t (field_bytes 1 (kind ∷ z) ++ rest) (entered (a_node kind s))) (node-bytes t kind s b r.0) r.1

  enter-definition : (s : List ℕ) → (entered (a_definition s)).number ≡ 0 → Loads t (field_bytes 2 s ++ rest) (entered (a_definition s))
  enter-definition s e =
      let r = enter-part (define (record { count = get_or s 0 0; body = get_or s 1 0 })) (definition_rows t s) refl (definition-fits t s) e in
      subst (λ (z : List ℕ). Loads t (field_bytes 2 z ++ rest) (entered (a_definition s))) (sym (definition-bytes t s r.0)) r.1

  enter-main : (s : List ℕ) → (entered (a_main s)).number ≡ 0 → Loads t (field_bytes 3 s ++ rest) (entered (a_main s))
  unfolding program_bytes
  enter-main s e =
      let c = next-clear (main_rows t s) place _ refl e in
      let d = next-clear (end_rows t (get_or s 0 0) (fields_in k rest)) 0 (accepted t (get_or s 0 0)) refl (ap (λ (l : Loaded). l.number) (sym c.1) ∙ e) in
      record {
        parts = [];
        main = get_or s 0 0;
        bytes =
            ap (λ (z : List ℕ). field_bytes 3 s ++ z) (ends k rest (not-false _ (test d.0 0))) ∙ append-nil (field_bytes 3 s)
            ∙ ap (field_bytes 3) (main-bytes t s c.0);
        steps = main-ends t s (fields_in k rest) c.0 d.0;
        loaded = c.1 ∙ d.1 ∙ ap (λ (u : Table). accepted u (get_or s 0 0)) (sym (joined-none t));
      }

  -- the loading goes on from the entry only where it accepts the field's bytes and the rest
  abbrev Enters : ℕ → List ℕ → TableEntry → Type 0
  Enters tag body e = (entered e).number ≡ 0 → Loads t (field_bytes tag body ++ rest) (entered e)

  enter : (tag : ℕ) (body : List ℕ) → Bytes body → Stands tag body → Enters tag body (entry_of tag body)
  unfolding entry_of
  enter tag body b (a-node kind s q r) =
      subst (λ (n : ℕ). Enters n body (entry_of n body)) (sym q)
      (subst (λ (z : List ℕ). Bytes z → Enters 1 z (entry_of 1 z)) (sym r) (λ c. enter-node kind s (λ i. c (suc i))) b)
  enter tag body b (a-definition q) =
      subst (λ (n : ℕ). Enters n body (entry_of n body)) (sym q) (subst (Enters 2 body) (sym (entry-definition body)) (enter-definition body))
  enter tag body b (a-main q) =
      subst (λ (n : ℕ). Enters n body (entry_of n body)) (sym q) (subst (Enters 3 body) (sym (entry-main body)) (enter-main body))
  enter tag body b (nothing q) = subst (Enters tag body) (sym q) (λ e. absurd (omega arith))

-- what is accepted are the bytes of parts that fit
pub loads : (k : ℕ) (s : List ℕ) → Bytes s → (place : ℕ) (t : Table) → Sound place t (fields_in k s) s
unfolding load_from
loads zero s b place t = unfold fields_in in (λ e. absurd (omega arith))
loads (suc k) s b place t = go (begins k s b) (loads k)
  where
    go : Begins k s → ((rest : List ℕ) → Bytes rest → (place : ℕ) (t : Table) → Sound place t (fields_in k rest) rest) → Sound place t (fields_in (suc k) s) s
    go (at-end q) f = subst (λ (z : List ℕ). Sound place t (fields_in (suc k) z) z) (sym q) (unfold fields_in in (λ e. absurd (omega arith)))
    go (at_cut q) f = subst (λ (z : Fields). Sound place t z s) (sym q) (λ e. absurd (omega arith))
    go (at_field tag body rest q) f =
        let c : Bytes (field_bytes tag body ++ rest) = subst Bytes q b in
        let d : Bytes (body ++ rest) = λ i. c (suc (suc (suc i))) in
        subst (λ (z : List ℕ). Sound place t (fields_in (suc k) z) z) (sym q)
        (subst (λ (z : Fields). Sound place t z (field_bytes tag body ++ rest)) (sym (first_field k tag body rest))
        (enter place t rest k (f rest (bytes-right body rest d) (suc place)) tag body (bytes_left body rest d) (stands tag body)))

-- and parts that fit are loaded
pub loads-steps : (ps : List Part) (main k : ℕ) → length (program_bytes ps main) < k → (place : ℕ) (t : Table) → Steps t ps main
    → load_from place t (fields_in k (program_bytes ps main)) ≡ accepted (joined t ps) main
unfolding load_from program_bytes entry_of
loads-steps ps main zero l place t st = absurd (omega arith)
loads-steps [] main (suc k) l place t st =
    ap (load_from place t) (first_field k 3 (main ∷ []) [] ∙ ap (whole 3 (main ∷ [])) (no_field k (omega arith)))
    ∙ clear_next (main_rows t (main ∷ [])) place _ (ends-main t main st)
    ∙ clear_next (end_rows t main end) 0 _ (ends-clear t main st)
    ∙ ap (λ (u : Table). accepted u main) (sym (joined-none t))
loads-steps (node x ∷ ps) main (suc k) l place t st =
    let s : List ℕ = program_bytes ps main in
    ap (load_from place t) (first_field k 1 (x.kind ∷ body_of x) s)
    ∙ clear_next (node_rows t x.kind (body_of x)) place _ (fits-node t x st.0)
    ∙ ap (λ (y : Node). load_from (suc place) (with_node t y) (fields_in k s)) (node-read t x st.0)
    ∙ loads-steps ps main k (omega (arith, length-append (body_of x) s)) (suc place) (grow t (node x)) st.1
    ∙ ap (λ (u : Table). accepted u main) (joined-grow t (node x) ps)
loads-steps (define d ∷ ps) main (suc k) l place t st =
    ap (load_from place t) (first_field k 2 (d.count ∷ d.body ∷ []) (program_bytes ps main))
    ∙ clear_next (definition_rows t (d.count ∷ d.body ∷ [])) place _ (fits-definition t d st.0)
    ∙ loads-steps ps main k (omega arith) (suc place) (grow t (define d)) st.1
    ∙ ap (λ (u : Table). accepted u main) (joined-grow t (define d) ps)
