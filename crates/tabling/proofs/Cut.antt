-- A table cut short is refused as the whole: where a field of it is refused, what stands behind does not matter.
use mathlib.Core.Path.{◌≡◌, refl, ◌∙◌, ap}
use mathlib.Core.Bool.{Bool, true, false, cond, ◌&&◌}
use mathlib.Core.Logic.{◌⊎◌, inl, inr}
use mathlib.Core.List.{List, [], ◌∷◌, ◌++◌, append_assoc}
use Prim.Native.Nat.{ℕ, zero, suc, ◌+◌, ◌≤◌, ◌<◌}
use native.Mathlib.Omega.{arith}
use lib.ListN.{length, length-append}
use lib.Dec.{eqb, leb, ltb}
use borrow.Author.Tests.{eqb-true, eqb-false, leb-false, ltb-true}
use Rattle.wire.specs.Wire.{fields_in, fields_of}
use Rattle.program.specs.Table.{Table, Loaded, refused, unless, RefusalRows, first_of, node_rows, definition_rows, node_of, with_node, with_definition, node_limit, definition_limit, entry_of, load_from}
use Rattle.program.specs.Table.{load, items}
use Rattle.program.specs.Check.{tree_rows, check}
use Rattle.program.specs.Conditions.{Part, node, define, items_bytes, part_bytes, program_bytes, nodes_of, definitions_of}
use Rattle.program.proofs.Fields.{first_field}
use Rattle.decide.proofs.Picks.{both}
use Rattle.tabling.specs.Fields.{fields_bytes, Overfull}

abbrev rows_of : Table → Part → RefusalRows
rows_of t (node x) = node_rows t x.kind (items_bytes (items x) x.values)
rows_of t (define d) = definition_rows t (d.count ∷ d.body ∷ [])

-- the table behind a part, as loading makes it
abbrev next : Table → Part → Table
next t (node x) = with_node t (node_of t x.kind (items_bytes (items x) x.values))
next t (define d) = with_definition t (d.count ∷ d.body ∷ [])

-- one field is loaded by its rows, whatever stands behind
load_part : (p : Part) (place k : ℕ) (t : Table) (s : List ℕ)
    → load_from place t (fields_in (suc k) (part_bytes p ++ s)) ≡ unless (rows_of t p) place (load_from (suc place) (next t p) (fields_in k s))
unfolding load_from entry_of
load_part (node x) place k t s = ap (load_from place t) (first_field k 1 (x.kind ∷ items_bytes (items x) x.values) s)
load_part (define d) place k t s = ap (load_from place t) (first_field k 2 (d.count ∷ d.body ∷ []) s)

-- rows of other numbers than 6 and 0
abbrev early : RefusalRows → Bool
early [] = true
early (row ∷ rows) = ltb 0 row.1 && (ltb row.1 6 && early rows)

first-early : (rows : RefusalRows) → early rows ≡ true → first_of rows < 6
unfolding first_of
first-early [] h = omega arith
first-early (row ∷ rows) h =
    let a = both (ltb 0 row.1) (ltb row.1 6 && early rows) h in
    let b = both (ltb row.1 6) (early rows) a.1 in
    go row.0 (ltb-true row.1 6 b.0) (first-early rows b.1)
  where
    go : (c : Bool) → row.1 < 6 → first_of rows < 6 → cond c row.1 (first_of rows) < 6
    go true h i = h
    go false h i = i

part-early : (t : Table) (p : Part) → first_of (rows_of t p) < 6
part-early t (node x) = first-early (rows_of t (node x)) refl
part-early t (define d) = first-early (rows_of t (define d)) refl

-- a row that leads and is not met
first-false : (b : Bool) (n m : ℕ) → cond b (suc n) m ≡ 0 → b ≡ false
first-false true n m e = absurd (omega arith)
first-false false n m e = refl

-- where no row holds there was room
abbrev Room : Table → Type 0
Room t = (length t.nodes ≤ node_limit) × (length t.definitions ≤ definition_limit)

room_next : (t : Table) (p : Part) → Room t → first_of (rows_of t p) ≡ 0 → Room (next t p)
unfolding first_of
room_next t (node x) r e =
    let h = leb-false node_limit (length t.nodes) (first-false (leb node_limit (length t.nodes)) 1 _ e) in
    (omega (arith, length-append t.nodes (node_of t x.kind (items_bytes (items x) x.values) ∷ [])), r.1)
room_next t (define d) r e =
    let h = leb-false definition_limit (length t.definitions) (first-false (leb definition_limit (length t.definitions)) 1 _ e) in
    (r.0, omega (arith, length-append t.definitions (d ∷ [])))

-- more nodes or definitions than a table holds, from the table t on
abbrev OverfullFrom : Table → List Part → Type 0
OverfullFrom t ps = (node_limit < length t.nodes + length (nodes_of ps)) ⊎ (definition_limit < length t.definitions + length (definitions_of ps))

over-next : (t : Table) (p : Part) (ps : List Part) → OverfullFrom t (p ∷ ps) → OverfullFrom (next t p) ps
unfolding nodes_of definitions_of
over-next t (node x) ps (inl h) = inl (omega (arith, length-append t.nodes (node_of t x.kind (items_bytes (items x) x.values) ∷ [])))
over-next t (node x) ps (inr h) = inr h
over-next t (define d) ps (inl h) = inl h
over-next t (define d) ps (inr h) = inr (omega (arith, length-append t.definitions (d ∷ [])))

-- the parts ps are loaded, with nothing behind
abbrev load_parts : ℕ → Table → ℕ → List Part → Loaded
load_parts place t k ps = load_from place t (fields_in k (fields_bytes ps))

-- a field is gone by, or refused
by_rows : (C : Loaded → Type 0) (rows : RefusalRows) (place : ℕ) (o : Loaded) → (first_of rows ≡ 0 → C o) → ((first_of rows ≡ 0 → ⊥) → C (refused (first_of rows) place))
    → C (unless rows place o)
by_rows C rows place o on off = go (eqb (first_of rows) 0) refl
  where
    go : (b : Bool) → eqb (first_of rows) 0 ≡ b → C (cond b o (refused (first_of rows) place))
    go true q = on (eqb-true (first_of rows) 0 q)
    go false q = off (eqb-false (first_of rows) 0 q)

-- parts alone are refused; at their end by number 6, inside by another, and an overfull table inside
refused-parts : (ps : List Part) (place k : ℕ) (t : Table) → length ps < k → (load_parts place t k ps).number ≡ 0 → ⊥
unfolding fields_bytes load_from fields_in
refused-parts ps place zero t l e = absurd (omega arith)
refused-parts [] place (suc k) t l e = absurd (omega arith)
refused-parts (p ∷ ps) place (suc k) t l e =
    by_rows (λ o. o.number ≡ 0 → ⊥) (rows_of t p) place (load_parts (suc place) (next t p) k ps)
    (λ q. refused-parts ps (suc place) k (next t p) (omega arith)) (λ q e. q e)
    (rw (load_part p place k t (fields_bytes ps)) at e)

overfull-inside : (ps : List Part) (place k : ℕ) (t : Table) → length ps < k → Room t → OverfullFrom t ps → (load_parts place t k ps).number ≡ 6 → ⊥
unfolding fields_bytes nodes_of definitions_of
overfull-inside ps place zero t l r o e = absurd (omega arith)
overfull-inside [] place (suc k) t l r (inl o) e = absurd (omega arith)
overfull-inside [] place (suc k) t l r (inr o) e = absurd (omega arith)
overfull-inside (p ∷ ps) place (suc k) t l r o e =
    by_rows (λ o. o.number ≡ 6 → ⊥) (rows_of t p) place (load_parts (suc place) (next t p) k ps)
    (λ q. overfull-inside ps (suc place) k (next t p) (omega arith) (room_next t p r q) (over-next t p ps o)) (λ q e. absurd (omega (arith, part-early t p)))
    (rw (load_part p place k t (fields_bytes ps)) at e)

same-inside : (ps : List Part) (place k j : ℕ) (t : Table) (s : List ℕ) → length ps < k → length ps < j → ((load_parts place t k ps).number ≡ 6 → ⊥)
    → load_from place t (fields_in j (fields_bytes ps ++ s)) ≡ load_parts place t k ps
unfolding fields_bytes load_from fields_in
same-inside ps place zero j t s l m h = absurd (omega arith)
same-inside ps place (suc k) zero t s l m h = absurd (omega arith)
same-inside [] place (suc k) (suc j) t s l m h = absurd (h refl)
same-inside (p ∷ ps) place (suc k) (suc j) t s l m h =
    rw (append_assoc (part_bytes p) (fields_bytes ps) s, load_part p place j t (fields_bytes ps ++ s), load_part p place k t (fields_bytes ps))
    (go (eqb (first_of (rows_of t p)) 0) _ _ _ (λ e. h (ap (λ (o : Loaded). o.number) (load_part p place k t (fields_bytes ps)) ∙ e))
    (same-inside ps (suc place) k j (next t p) s (omega arith) (omega arith)))
  where
    go : (b : Bool) (u v w : Loaded) → ((cond b u w).number ≡ 6 → ⊥) → ((u.number ≡ 6 → ⊥) → v ≡ u) → cond b v w ≡ cond b u w
    go true u v w h i = i h
    go false u v w h i = refl

-- a part has bytes
few-parts : (ps : List Part) → length ps ≤ length (fields_bytes ps)
unfolding fields_bytes
few-parts [] = omega arith
few-parts (node x ∷ ps) = omega (arith, few-parts ps, length-append (items_bytes (items x) x.values) (fields_bytes ps))
few-parts (define d ∷ ps) = omega (arith, few-parts ps)

-- fields alone are never a table
pub fields-refused : (ps : List Part) → (load (fields_bytes ps)).number ≡ 0 → ⊥
unfolding load fields_of
fields-refused ps e = refused-parts ps 0 (suc (length (fields_bytes ps))) (record { nodes = []; definitions = [] }) (omega (arith, few-parts ps)) e

-- where a field is refused, not the end, bytes behind change nothing
pub cut_load : (ps : List Part) → ((load (fields_bytes ps)).number ≡ 6 → ⊥) → (s : List ℕ) → load (fields_bytes ps ++ s) ≡ load (fields_bytes ps)
unfolding load fields_of
cut_load ps h s =
    same-inside ps 0 (suc (length (fields_bytes ps))) (suc (length (fields_bytes ps ++ s))) (record { nodes = []; definitions = [] }) s
    (omega (arith, few-parts ps)) (omega (arith, few-parts ps, length-append (fields_bytes ps) s)) h

-- the 257th node or the 33rd definition is such a field at the latest
pub overfull-early : (ps : List Part) → Overfull ps → (load (fields_bytes ps)).number ≡ 6 → ⊥
unfolding load fields_of
overfull-early ps o e =
    overfull-inside ps 0 (suc (length (fields_bytes ps))) (record { nodes = []; definitions = [] }) (omega (arith, few-parts ps)) (omega arith) (from o) e
  where
    from : Overfull ps → OverfullFrom (record { nodes = []; definitions = [] }) ps
    from (inl h) = inl (omega arith)
    from (inr h) = inr (omega arith)

-- the check says the same of the cut table as of the whole
pub cut-check : (ps : List Part) → ((load (fields_bytes ps)).number ≡ 6 → ⊥) → (s : List ℕ) → check (fields_bytes ps ++ s) ≡ check (fields_bytes ps)
unfolding check
cut-check ps h s = rw (cut_load ps h s)

pub overfull-check : (ps : List Part) → Overfull ps → (s : List ℕ) → check (fields_bytes ps ++ s) ≡ check (fields_bytes ps)
overfull-check ps o s = cut-check ps (overfull-early ps o) s

-- and refuses
pub fields-check : (ps : List Part) → (check (fields_bytes ps)).0 ≡ 0 → ⊥
unfolding check
fields-check ps e = go (eqb (load (fields_bytes ps)).number 0) refl e
  where
    go : (b : Bool) → eqb (load (fields_bytes ps)).number 0 ≡ b
        → (cond b (tree_rows (load (fields_bytes ps)).table (load (fields_bytes ps)).main) ((load (fields_bytes ps)).number, (load (fields_bytes ps)).place)).0 ≡ 0 → ⊥
    go true q e = fields-refused ps (eqb-true (load (fields_bytes ps)).number 0 q)
    go false q e = fields-refused ps e

-- the table of a program begins with the fields of its parts
pub program-fields : (ps qs : List Part) (main : ℕ) → program_bytes (ps ++ qs) main ≡ fields_bytes ps ++ program_bytes qs main
unfolding fields_bytes program_bytes
program-fields [] qs main = refl
program-fields (p ∷ ps) qs main = rw (program-fields ps qs main, append_assoc (part_bytes p) (fields_bytes ps) (program_bytes qs main))
