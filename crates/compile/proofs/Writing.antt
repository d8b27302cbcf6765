-- One part more: in the buffer, on the stack and in the output. Assumes nothing.
use mathlib.Core.Path.{◌≡◌, sym, ap, subst, ◌∙◌}
use mathlib.Core.List.{List, [], ◌∷◌, ◌++◌, map, reverse, append-nil}
use Prim.Native.Nat.{ℕ, ◌+◌, ◌-◌, ◌<◌}
use native.Mathlib.Omega.{arith}
use lib.ListN.{length, take, drop, get_or, length-append, length-drop}
use lib.Seq.{get_or-drop}
use borrow.Author.Tests.{ne_eqb}
use Rattle.notation.specs.Words.{between}
use Rattle.program.specs.Conditions.{Part, node, define, definitions_of}
use Rattle.program.specs.Table.{Node, Definition}
use Rattle.translation.specs.Numbering.{byte}
use Rattle.tabling.specs.Fields.{flat_bytes, flat_fields}
use Rattle.tabling.specs.Emit.{Output, with_node, with_definition}
use Rattle.tabling.proofs.Prefix.{definitions-append, flat-fields-append}
use Rattle.compile.specs.declared.Waiting.{Waiting}
use Rattle.compile.specs.Writes.{last_of, pushed, Writes}
use Rattle.compile.proofs.Stacks.{stacked, below, above}

one_field : (part : Part) → flat_fields (part ∷ []) ≡ flat_bytes part
unfolding flat_fields
one_field part = append-nil (flat_bytes part)

-- the fields with one more
more_bytes : (t t' : List ℕ) (ps : List Part) (part : Part) → t ≡ flat_fields ps → t' ≡ t ++ flat_bytes part → t' ≡ flat_fields (ps ++ part ∷ [])
more_bytes t t' ps part e g =
    g ∙ ap (λ (b : List ℕ). b ++ flat_bytes part) e ∙ sym (flat-fields-append ps (part ∷ []) ∙ ap (λ (b : List ℕ). flat_fields ps ++ b) (one_field part))

no-definition : (ps : List Part) (x : Node) → length (definitions_of (ps ++ node x ∷ [])) ≡ length (definitions_of ps)
unfolding definitions_of
no-definition ps x = rw (definitions-append ps (node x ∷ []), append-nil (definitions_of ps))

one-definition : (ps : List Part) (d : Definition) → length (definitions_of (ps ++ define d ∷ [])) ≡ length (definitions_of ps) + 1
unfolding definitions_of
one-definition ps d = rw (definitions-append ps (define d ∷ [])) (length-append (definitions_of ps) (d ∷ []))

-- a node, whose k operands go
pub node-written : (t t' : List ℕ) (o : Waiting) (q : Output) (k : ℕ) (part : List ℕ → Part) (x : List ℕ → Node) → ((ns : List ℕ) → part ns ≡ node (x ns))
    → Writes t o q → o.len - k < length o.numbers → t' ≡ t ++ flat_bytes (part (between (o.len - k) o.len o.numbers)) → Writes t' (pushed o (o.len - k)) (with_node k part q)
node-written t t' o q k part x px w h g =
    let ns = above o.numbers q.stack o.len k w.numbers w.waiting in
    let p : Part = part (map byte (reverse (take k q.stack))) in
    let d = length-drop k q.stack in
    record {
      bytes = more_bytes t t' q.parts p w.bytes (subst (λ (l : List ℕ). t' ≡ t ++ flat_bytes (part l)) ns g);
      numbers = rw w.nodes (stacked o.numbers (drop k q.stack) (o.len - k) q.nodes h (below o.numbers q.stack o.len k w.numbers w.waiting));
      waiting = omega (arith, d, w.waiting);
      nodes = omega (arith, w.nodes);
      defs = w.defs ∙ sym (subst (λ (y : Part). length (definitions_of (q.parts ++ y ∷ [])) ≡ length (definitions_of q.parts)) (sym (px (map byte (reverse (take k q.stack)))))
          (no-definition q.parts (x (map byte (reverse (take k q.stack))))));
    }

-- the last number that waits, 0 where none does
take-first : (l : List ℕ) (x : ℕ) → take 1 l ≡ x ∷ [] → get_or l 0 0 ≡ x
take-first [] x e = let z : ◌≡◌ {A = ℕ} 0 1 = cc in absurd (omega arith)
take-first (y ∷ l) x e = cc

pub last-number : (stack st : List ℕ) (sp : ℕ) → take sp stack ≡ map byte (reverse st) → sp ≡ length st → last_of stack sp ≡ byte (get_or st 0 0)
last-number stack [] sp e n = rw n
last-number stack (x ∷ st) sp e n =
    let a = above stack (x ∷ st) sp 1 e n in
    let o : sp - (sp - 1) ≡ 1 = omega (arith, n) in
    rw (ne_eqb sp 0 (λ q. omega (arith, n, q)))
    (ap (λ (k : ℕ). get_or stack k 0) (let z : sp - 1 ≡ sp - 1 + 0 = omega arith in z) ∙ sym (get_or-drop (sp - 1) stack 0 0)
    ∙ take-first (drop (sp - 1) stack) (byte x) (rw o at a))

-- a definition, which takes its body
pub definition-written : (t t' : List ℕ) (o : Waiting) (q : Output) (count : ℕ) → Writes t o q
    → t' ≡ t ++ flat_bytes (define (record { count = byte count; body = last_of o.numbers o.len }))
    → Writes t' (record { numbers = o.numbers; len = o.len - 1; nodes = o.nodes; defs = o.defs + 1 }) (with_definition count q)
definition-written t t' o q count w g =
    let b = last-number o.numbers q.stack o.len w.numbers w.waiting in
    let p : Part = define (record { count = byte count; body = byte (get_or q.stack 0 0) }) in
    let d = length-drop 1 q.stack in
    record {
      bytes = more_bytes t t' q.parts p w.bytes (subst (λ (k : ℕ). t' ≡ t ++ flat_bytes (define (record { count = byte count; body = k }))) b g);
      numbers = below o.numbers q.stack o.len 1 w.numbers w.waiting;
      waiting = omega (arith, d, w.waiting);
      nodes = w.nodes;
      defs = (let x = one-definition q.parts (record { count = byte count; body = byte (get_or q.stack 0 0) }) in omega (arith, x, w.defs));
    }
