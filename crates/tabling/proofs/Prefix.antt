-- What the machine has emitted at any time, behind any tokens: the parts only grow, the nodes are counted, the stack holds numbers of nodes, and the bytes are few.
-- So the reading may stop where a table is overfull.
use mathlib.Core.Path.{◌≡◌, refl, sym, ap, ◌∙◌, subst}
use mathlib.Core.Bool.{Bool, true, false, cond, ◌&&◌}
use mathlib.Core.List.{List, [], ◌∷◌, ◌++◌, append_assoc, append-nil, map, reverse}
use mathlib.Core.Option.{Option, none, some}
use Prim.Native.Nat.{ℕ, zero, suc, ◌+◌, ◌-◌, ◌*◌, ◌≤◌, ◌<◌}
use native.Mathlib.Omega.{arith}
use lib.Dec.{eqb}
use lib.ListN.{length, get_or, take, drop, length-append, length-map, length-reverse, take-append-drop}
use Rattle.notation.specs.Words.{Word, is_number, bits_of, Head, plain, slotted, operation, rep, fold, define, call, nothing, head_of, operator, index_of, operators}
use Rattle.notation.specs.Grammar.{Token, opening, closing, word, nil, bare, Program, program_tokens, FineProgram}
use Rattle.program.specs.Table.{Node, Definition, constant}
use Rattle.program.specs.Check.{check}
use Rattle.program.specs.Conditions.{Part, node as a_node, define as a_definition, field_bytes, item_bytes, nodes_of, definitions_of, program_bytes}
use Rattle.translation.specs.Numbering.{byte, Given, Meaning, parameter, variable, of_kind, meant_by, form_part, program_parts, program_after, none as nothing-given, table}
use Rattle.token_scans.specs.Scan.{definitions_in, parameters_in, reps_in}
use Rattle.rep_around.specs.Meaning.{meaning_at}
use Rattle.tabling.specs.Fields.{fields_bytes, flat_bytes, flat_fields, Overfull}
use Rattle.tabling.specs.Emit.{Output, State, Around, with_node, with_definition, word_part, around, leads, given_in, close_form, is_definition, emitted, taken, step, emit, start}
use Rattle.tabling.proofs.Cut.{overfull-check, fields-check, program-fields}
use Rattle.tabling.proofs.Emit.{emit-exactly}
use Rattle.tabling.proofs.Flat.{AllFlat, flat-fields, flat-left, flat-parts}

pub emit-append : (s : State) (a b : List Token) → emit s (a ++ b) ≡ emit (emit s a) b
unfolding emit
emit-append s [] b = refl
emit-append s (t ∷ a) b = emit-append (step s t) a b

abbrev pub Below : ℕ → List ℕ → Type 0
Below n [] = Unit {0}
Below n (k ∷ ks) = (k < n) × Below n ks

-- The nodes are counted, and the numbers on the stack are theirs. A node has 8 bytes at most, or 5 and one for each number that it takes from the stack; a definition has 5
pub record Counted (o : Output) : Type 0 where
  pub nodes : o.nodes ≡ length (nodes_of o.parts)
  pub few : length o.stack ≤ o.nodes
  pub below : Below o.nodes o.stack
  pub small : length (flat_fields o.parts) + length o.stack ≤ 9 * o.nodes + 5 * length (definitions_of o.parts)

-- what was emitted stays
pub record Grows (o o' : Output) : Type 0 where
  pub added : List Part
  pub parts : o'.parts ≡ o.parts ++ added
  pub counted : Counted o → Counted o'

grows_same : (o : Output) → Grows o o
grows_same o = record { added = []; parts = sym (append-nil o.parts); counted = λ c. c }

grows-on : (o p q : Output) → Grows o p → Grows p q → Grows o q
grows-on o p q a b = record {
  added = a.added ++ b.added;
  parts = b.parts ∙ rw a.parts (append_assoc o.parts a.added b.added);
  counted = λ c. b.counted (a.counted c);
}

pub nodes-append : (ps qs : List Part) → nodes_of (ps ++ qs) ≡ nodes_of ps ++ nodes_of qs
unfolding nodes_of
nodes-append [] qs = refl
nodes-append (a_node x ∷ ps) qs = ap (λ (l : List Node). x ∷ l) (nodes-append ps qs)
nodes-append (a_definition d ∷ ps) qs = nodes-append ps qs

pub definitions-append : (ps qs : List Part) → definitions_of (ps ++ qs) ≡ definitions_of ps ++ definitions_of qs
unfolding definitions_of
definitions-append [] qs = refl
definitions-append (a_node x ∷ ps) qs = definitions-append ps qs
definitions-append (a_definition d ∷ ps) qs = ap (λ (l : List Definition). d ∷ l) (definitions-append ps qs)

pub flat-fields-append : (ps qs : List Part) → flat_fields (ps ++ qs) ≡ flat_fields ps ++ flat_fields qs
unfolding flat_fields
flat-fields-append [] qs = refl
flat-fields-append (p ∷ ps) qs = rw (flat-fields-append ps qs) (sym (append_assoc (flat_bytes p) (flat_fields ps) (flat_fields qs)))

below_more : (n : ℕ) (ks : List ℕ) → Below n ks → Below (suc n) ks
below_more n [] b = tt
below_more n (k ∷ ks) b = (omega (arith, b.0), below_more n ks b.1)

below-drop : (n k : ℕ) (ks : List ℕ) → Below n ks → Below n (drop k ks)
below-drop n zero ks b = b
below-drop n (suc k) [] b = tt
below-drop n (suc k) (x ∷ ks) b = below-drop n k ks b.1

drop-few : (k : ℕ) (ks : List ℕ) → length (take k ks) + length (drop k ks) ≡ length ks
drop-few k ks = sym (length-append (take k ks) (drop k ks)) ∙ ap length (take-append-drop k ks)

-- a node more, which has a number more than operands at most
abbrev IsNode : List ℕ → Part → Type 0
IsNode ns p = (x : Node) × (p ≡ a_node x) × (length x.values ≤ suc (length ns))

node-bytes : (x : Node) → length (flat_bytes (a_node x)) ≤ 8 + (length x.values - 4)
node-bytes x = go (eqb x.kind 0)
  where
    go : (c : Bool) → length (field_bytes 1 (x.kind ∷ cond c (item_bytes constant (get_or x.values 0 0)) x.values)) ≤ 8 + (length x.values - 4)
    go true = omega arith
    go false = omega arith

node-counted : (ps : List Part) (st : List ℕ) (n k : ℕ) (x : Node) → length x.values ≤ suc (length (take k st)) → Counted (record { parts = ps; stack = st; nodes = n })
    → Counted (record { parts = ps ++ a_node x ∷ []; stack = n ∷ drop k st; nodes = suc n })
unfolding nodes_of definitions_of flat_fields
node-counted ps st n k x l c =
    let d = drop-few k st in
    record {
      nodes = rw (nodes-append ps (a_node x ∷ [])) (omega (arith, c.nodes, length-append (nodes_of ps) (x ∷ [])));
      few = omega (arith, c.few);
      below = (omega arith, below_more n (drop k st) (below-drop n k st c.below));
      small =
          rw (definitions-append ps (a_node x ∷ []), append-nil (definitions_of ps), flat-fields-append ps (a_node x ∷ []), append-nil (flat_bytes (a_node x)))
          (omega (arith, c.small, length-append (flat_fields ps) (flat_bytes (a_node x)), node-bytes x));
    }

node-grows : (k : ℕ) (part : List ℕ → Part) (o : Output) → ((ns : List ℕ) → IsNode ns (part ns)) → Grows o (with_node k part o)
node-grows k part o f =
    let ns : List ℕ = map byte (reverse (take k o.stack)) in
    let x = f ns in
    let l : length ns ≡ length (take k o.stack) = length-map (reverse (take k o.stack)) byte ∙ length-reverse (take k o.stack) in
    record {
      added = part ns ∷ [];
      parts = refl;
      counted = λ c. rw x.1 (node-counted o.parts o.stack o.nodes k x.0 (omega (arith, l, x.2)) c);
    }

definition-grows : (k : ℕ) (o : Output) → Grows o (with_definition k o)
unfolding nodes_of definitions_of flat_fields
definition-grows k o =
    let d : Definition = record { count = byte k; body = byte (get_or o.stack 0 0) } in
    let e = drop-few 1 o.stack in
    record {
      added = a_definition d ∷ [];
      parts = refl;
      counted = λ c. record {
        nodes = rw (nodes-append o.parts (a_definition d ∷ []), append-nil (nodes_of o.parts)) c.nodes;
        few = omega (arith, c.few);
        below = below-drop o.nodes 1 o.stack c.below;
        small =
            rw (definitions-append o.parts (a_definition d ∷ []), flat-fields-append o.parts (a_definition d ∷ []))
            (omega (arith, c.small, length-append (definitions_of o.parts) (d ∷ []), length-append (flat_fields o.parts) (flat_bytes (a_definition d))));
      };
    }

-- words and forms are nodes
word-node : (before here : List Token) (w : Word) (ns : List ℕ) → IsNode ns (word_part before here w)
word-node before here w ns = go (is_number w) (meaning_at (reps_in before) here w)
  where
    go : (c : Bool) (m : Meaning) → IsNode ns (cond c (of_kind 0 (bits_of w ∷ [])) (meant_by m))
    go true m = (_, refl, omega arith)
    go false (parameter p) = (_, refl, omega arith)
    go false (variable v) = (_, refl, omega arith)

form-node : (ds : List Word) (g : Given) (h w : Word) (ns : List ℕ) (k : Head) → IsNode ns (form_part ds g h (bare w nil) ns k)
form-node ds g h w ns (plain kind n) = (_, refl, omega arith)
form-node ds g h w ns (slotted kind n) = (_, refl, omega arith)
form-node ds g h w ns operation = (_, refl, omega arith)
form-node ds g h w ns rep = (_, refl, omega arith)
form-node ds g h w ns fold = go (operator w)
  where
    go : (c : Bool) → IsNode ns (cond c (of_kind 10 (index_of w operators ∷ ns)) (of_kind 11 (byte (index_of w ds) ∷ ns)))
    go true = (_, refl, omega arith)
    go false = (_, refl, omega arith)
form-node ds g h w ns define = (_, refl, omega arith)
form-node ds g h w ns call = (_, refl, omega arith)
form-node ds g h w ns nothing = (_, refl, omega arith)

close-grows : (before : List Token) (a : Option Around) (o : Output) → Grows o (close_form before a o)
close-grows before none o = grows_same o
close-grows before (some a) o =
    node-grows (a.items - leads (head_of a.head))
    (λ ns. form_part (definitions_in before) (given_in (before ++ reverse a.rest)) a.head (bare a.second nil) ns (head_of a.head)) o
    (λ ns. form-node (definitions_in before) (given_in (before ++ reverse a.rest)) a.head a.second ns (head_of a.head))

token-grows : (before here : List Token) (m d : ℕ) (t : Token) (o : Output) → Grows o (emitted before here m d t o)
unfolding emitted
token-grows before here m d opening o = grows_same o
token-grows before here m d closing o =
    go (eqb m 4) (eqb d 1 && is_definition here)
  where
    go : (a b : Bool) → Grows o (cond a o (cond b (with_definition (length (parameters_in here)) o) (close_form before (around 0 0 [] [] (reverse here)) o)))
    go true b = grows_same o
    go false true = definition-grows (length (parameters_in here)) o
    go false false = close-grows before (around 0 0 [] [] (reverse here)) o
token-grows before here m d (word w) o = go (eqb m 0)
  where
    go : (a : Bool) → Grows o (cond a (with_node 0 (λ ns. word_part before here w) o) o)
    go true = node-grows 0 (λ ns. word_part before here w) o (word-node before here w)
    go false = grows_same o

pub emit-grows : (ts : List Token) (s : State) → Grows s.out (emit s ts).out
unfolding emit taken
emit-grows [] s = grows_same s.out
emit-grows (t ∷ ts) s = grows-on s.out (step s t).out (emit (step s t) ts).out (token-grows _ _ s.mode s.depth t s.out) (emit-grows ts (step s t))

pub emit-counted : (ts : List Token) → Counted (emit start ts).out
unfolding nodes_of definitions_of flat_fields
emit-counted ts = (emit-grows ts start).counted (record { nodes = refl; few = omega arith; below = tt; small = omega arith })

-- behind the first tokens of a program stand the first parts of its table
first-parts : (p : Program) → FineProgram p → (a b : List Token) → program_tokens p ≡ a ++ b
    → program_parts [] p.defs p.main nothing-given ≡ (emit start a).out.parts ++ (emit-grows b (emit start a)).added
first-parts p x a b e = sym (ap (λ (o : Output). o.parts) (emit-exactly p x)) ∙ rw (e, emit-append start a b) (emit-grows b (emit start a)).parts

-- they are written with a byte for each number
flat-emitted : (p : Program) → FineProgram p → (a b : List Token) → program_tokens p ≡ a ++ b → fields_bytes (emit start a).out.parts ≡ flat_fields (emit start a).out.parts
flat-emitted p x a b e =
    flat-fields (emit start a).out.parts
    (flat-left (emit start a).out.parts (emit-grows b (emit start a)).added (subst AllFlat (first-parts p x a b e) (flat-parts p x)))

-- the table is what is emitted, then the main node
pub table-emitted : (p : Program) → FineProgram p
    → table p ≡ flat_fields (emit start (program_tokens p)).out.parts ++ field_bytes 3 (byte (get_or (emit start (program_tokens p)).out.stack 0 0) ∷ [])
unfolding table program_bytes
table-emitted p x =
    let ps : List Part = program_parts [] p.defs p.main nothing-given in
    let main : ℕ = byte ((program_after p.defs p.main nothing-given).nodes - 1) in
    rw (← flat-emitted p x (program_tokens p) [] (sym (append-nil (program_tokens p))), emit-exactly p x)
    (ap (λ (qs : List Part). program_bytes qs main) (sym (append-nil ps)) ∙ program-fields ps [] main)

-- a table that is overfull behind some tokens is refused, as what is emitted there
cut-fields : (p : Program) → FineProgram p → (a b : List Token) → program_tokens p ≡ a ++ b → Overfull (emit start a).out.parts
    → check (table p) ≡ check (fields_bytes (emit start a).out.parts)
unfolding table
cut-fields p x a b e o =
    let ps : List Part = (emit start a).out.parts in
    let rest : List Part = (emit-grows b (emit start a)).added in
    let main : ℕ = byte ((program_after p.defs p.main nothing-given).nodes - 1) in
    rw (first-parts p x a b e, program-fields ps rest main) (overfull-check ps o (program_bytes rest main))

pub cut-table : (p : Program) → FineProgram p → (a b : List Token) → program_tokens p ≡ a ++ b → Overfull (emit start a).out.parts
    → (check (table p) ≡ check (flat_fields (emit start a).out.parts)) × ((check (table p)).0 ≡ 0 → ⊥)
cut-table p x a b e o =
    let q = cut-fields p x a b e o in
    (q ∙ ap check (flat-emitted p x a b e), rw q (fields-check (emit start a).out.parts))
