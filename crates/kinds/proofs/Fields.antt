-- A field that is a node: from its shape and its body's rows, what reading it comes to.
use mathlib.Core.Path.{◌≡◌, refl, sym, ◌∙◌, ap}
use mathlib.Core.Logic.{◌⊎◌, inl, inr}
use mathlib.Core.Bool.{Bool, true, false, cond, ◌&&◌, or-false}
use mathlib.Core.List.{List, [], ◌∷◌}
use Prim.Native.Nat.{ℕ, suc, ◌+◌, ◌-◌, ◌≤◌, ◌<◌}
use native.Mathlib.Omega.{arith}
use lib.ListN.{length, get_or, take, drop, length-drop}
use Rattle.std.proofs.lemmas.List.{take_all}
use lib.Dec.{eqb, leb}
use borrow.Author.Tests.{le-leb, lt-leb, eq-eqb, ne_eqb, eqb-false}
use Rattle.std.specs.Prelude.{Result, Ok, Err}
use Rattle.wire.specs.Wire.{big}
use Rattle.program.specs.Table.{beyond, node_limit, kind_count}
use Rattle.verdict.specs.declared.Reason.{Reason}
use Rattle.verdict.specs.declared.Reason.TheVariants.{BadField, TooMany, OutOfRange, NotGiven}
use Rattle.verdict.specs.Outcome.{number_of}
use Rattle.shapes.specs.declared.Kind.{Kind}
use Rattle.shapes.specs.Kinds.{call_kind, kind_at}
use Rattle.shapes.specs.Shapes.{lead_of, width_of, kids_of, inside, no_item, kept_item, slot_item, constant_item, definition_item}
use Rattle.decide.proofs.Picks.{on_true, on_false}
use Rattle.shapes.proofs.Inside.{slot-none, slot-out}
use Rattle.shapes.proofs.ByKind.{number-of-kind}
use Rattle.nodes.specs.declared.Node.{Node}
use Rattle.nodes.specs.Body.{item_of, constant_of, made, node_in, four_of}
use Rattle.nodes.specs.Values.{children_of}
use Rattle.nodes.proofs.Items.{same-kids, few-kids}
use Rattle.nodes.proofs.Body.{children-made}
use Rattle.taken.specs.Taken.{code, taken_in, with_taken, take_if, Takes, TakesKids}
use Rattle.taken.proofs.Walk.{numbered}
use Rattle.kinds.specs.Taken.{Taken, taken_of}
use Rattle.kinds.specs.Numbers.{or_else, read_number, call_number, item_taken, body_number, shape_number, node_number}
use Rattle.kinds.specs.Reads.{Form, ReadsNode}
use Rattle.kinds.proofs.Clear.{passed}

-- a refusal's number stops, 0 goes on
else-stop : {a : ℕ} (b : ℕ) (q : Reason) → number_of q ≡ a → number_of q ≡ or_else a b
else-stop {a} b q e = rw (← e) (on_false b (ne_eqb (number_of q) 0 (numbered q)) refl)

else-go : {a b r : ℕ} → a ≡ 0 → r ≡ b → r ≡ or_else a b
else-go {a} {b} e q = rw e q

-- ---- a body of the right length: its number, and what is taken after it where that is 0
pub record Body (l i c : ℕ) (ks : List ℕ) (n defs : ℕ) (m : Taken) (e : ℕ) (m' : Taken) : Type 0 where
  pub number : e ≡ body_number l i c ks n defs m
  pub after : e ≡ 0 → m' ≡ record { named = with_taken m.named ks; slots = take_if (eqb l slot_item) i m.slots; kept = take_if (eqb l kept_item) i m.kept }

module _ {l i c : ℕ} {ks : List ℕ} {n defs : ℕ} where
  pub out_of_range : {m m' : Taken} → inside l i c ≡ false → Body l i c ks n defs m 3 m'
  unfolding body_number
  out_of_range e = record { number = on_false _ e refl; after = λ z. absurd (omega arith) }

  pub undefined : {m m' : Taken} → inside l i c ≡ true → (eqb l definition_item && leb defs i) ≡ true → Body l i c ks n defs m 4 m'
  unfolding body_number
  undefined e f = record { number = on_true _ e (rw f (go (beyond n ks))); after = λ z. absurd (omega arith) }
    where
      go : (b : Bool) → ◌≡◌ {A = ℕ} 4 (cond b 4 4)
      go true = refl
      go false = refl

  module _ {named named' slots kept : List Bool} (inner : inside l i c ≡ true) (defined : (eqb l definition_item && leb defs i) ≡ false) where
    -- a child is refused
    pub child-refused : {q : Reason} {m' : Taken} → TakesKids ks n named (Err q) named' → Body l i c ks n defs (taken_of named slots kept) (number_of q) m'
    unfolding body_number
    child-refused {q} p = record { number = on_true _ inner (rw defined (go (beyond n ks) (taken_in named ks) _ p.number)); after = λ z. absurd (numbered q z) }
      where
        go : (a b : Bool) (x : ℕ) → number_of q ≡ cond a 4 (cond b 5 0) → number_of q ≡ cond a 4 (cond b 5 x)
        go true b x e = e
        go false true x e = e
        go false false x e = absurd (numbered q e)

    module _ {u : Unit} (p : TakesKids ks n named (Ok u) named') where
      -- the children are its last rows
      pub children-last : eqb l slot_item ≡ false → eqb l kept_item ≡ false → Body l i c ks n defs (taken_of named slots kept) 0 (taken_of named' slots kept)
      unfolding body_number item_taken
      children-last f g = record { number = rw (inner, defined, f, g) p.number; after = λ z. rw (f, g, p.after refl) }

      -- its item is taken last
      pub item-last : {r : ℕ} {m' : Taken} → r ≡ cond (item_taken l i slots kept) 5 0
          → (r ≡ 0 → m' ≡ record { named = named'; slots = take_if (eqb l slot_item) i slots; kept = take_if (eqb l kept_item) i kept })
          → Body l i c ks n defs (taken_of named slots kept) r m'
      unfolding body_number
      item-last o f =
          let a = passed (beyond n ks) 3 (sym p.number) in
          let b = passed (taken_in named ks) 4 a.1 in
          record { number = rw (inner, a.0, defined, b.0) o; after = λ y. rw (← p.after refl) (f y) }

-- ---- an item that is taken last
module _ {i c : ℕ} {ks : List ℕ} {n defs : ℕ} {named named' slots kept : List Bool} {u : Unit} (p : TakesKids ks n named (Ok u) named') {r : Result Unit Reason} where
  pub slot-last : {slots' : List Bool} → inside slot_item i c ≡ true → Takes i slots r slots' → Body slot_item i c ks n defs (taken_of named slots kept) (code r) (taken_of named' slots' kept)
  unfolding item_taken
  slot-last inner t = item-last inner refl p (t.number ∙ ap (λ (b : Bool). cond {A = ℕ} b 5 0) (sym (or-false (get_or slots i false)))) (λ z. rw (t.after z))

  pub variable-last : {kept' : List Bool} → inside kept_item i c ≡ true → Takes i kept r kept' → Body kept_item i c ks n defs (taken_of named slots kept) (code r) (taken_of named' slots kept')
  unfolding item_taken
  variable-last inner t = item-last inner refl p t.number (λ z. rw (t.after z))

-- a slot out of its range
pub slot-outside : (i c : ℕ) → (i ≡ 0) ⊎ ((i ≡ 0 → ⊥) × (16 ≤ i)) → inside slot_item i c ≡ false
slot-outside i c (inl e) = (slot-none e).is
slot-outside i c (inr h) = (slot-out h.0 h.1).is

pub no-children : {n : ℕ} {named : List Bool} → TakesKids [] n named (Ok tt) named
unfolding beyond taken_in with_taken
no-children = record { number = refl; after = λ _. refl }

pub childless : {ks : List ℕ} {n : ℕ} {named : List Bool} → ks ≡ [] → TakesKids ks n named (Ok tt) named
childless e = rw e no-children

-- ---- a kind and what follows it, as far as the rows before the body's
pub record Shaped (kind : ℕ) (s counts : List ℕ) (n defs l w k : ℕ) : Type 0 where
  pub room : n < node_limit
  pub known : kind < kind_count
  pub called : call_number kind s defs ≡ 0
  pub lead : lead_of kind ≡ l
  pub width : width_of kind ≡ w
  pub kids : kids_of kind (get_or counts (get_or s 0 0) 0) ≡ k
  pub few : kids_of kind (get_or counts (get_or s 0 0) 0) ≤ 4

pub shaped : {kind : ℕ} {s counts : List ℕ} {n defs l w k : ℕ} → n < node_limit → Form kind l w k → Shaped kind s counts n defs l w k
unfolding call_number
shaped {kind} {s} {counts} h f =
    let b = f.known in
    let c = eqb-false kind call_kind f.plain in
    record {
      room = h;
      known = b;
      called = rw f.plain;
      lead = f.lead;
      width = f.width;
      kids = same-kids kind (get_or counts (get_or s 0 0) 0) 0 b (λ e. absurd (c e)) ∙ f.kids;
      few = few-kids kind (get_or counts (get_or s 0 0) 0) b (λ e. absurd (c e));
    }

-- what stands behind a kind, taken apart
pub record Parts (l w k : ℕ) (s : List ℕ) (i c : ℕ) (ks : List ℕ) : Type 0 where
  pub right : length s ≡ w + k
  pub item : i ≡ item_of l s
  pub constant : c ≡ constant_of l s
  pub tail : ks ≡ drop w s

module _ {kind : ℕ} {s counts : List ℕ} {n defs : ℕ} where
  -- a row before the body's
  refused : {m m' : Taken} {q : Reason} → number_of q ≡ shape_number kind s n defs (get_or counts (get_or s 0 0) 0) → ReadsNode (kind ∷ s) n defs counts m (Err q) m'
  unfolding node_number
  refused {m} {m'} {q} e =
      record {
        number = on_false _ (ne_eqb (suc (length s)) 0 (λ o. omega arith)) (else-stop _ q e);
        node = tt;
        after = λ z. absurd (numbered q z);
      }

  module _ {l w k : ℕ} (h : Shaped kind s counts n defs l w k) where
    pub wrong-length : {m m' : Taken} → (length s ≡ w + k → ⊥) → ReadsNode (kind ∷ s) n defs counts m (Err BadField) m'
    unfolding shape_number
    wrong-length o = refused (sym (rw (lt-leb node_limit n h.room, lt-leb kind_count kind h.known, h.called, h.width, h.kids, ne_eqb (length s) (w + k) o)))

    module _ {i c : ℕ} {ks : List ℕ} (p : Parts l w k s i c ks) where
      is-shape : shape_number kind s n defs (get_or counts (get_or s 0 0) 0) ≡ 0
      unfolding shape_number
      is-shape = rw (lt-leb node_limit n h.room, lt-leb kind_count kind h.known, h.called, h.width, h.kids, eq-eqb (length s) (w + k) p.right)

      children : children_of (node_in kind (get_or counts (get_or s 0 0) 0) s) ≡ drop w s
      unfolding node_in
      children =
          children-made kind (get_or counts (get_or s 0 0) 0) s h.known (p.right ∙ cc (h.width, h.kids)) h.few
          ∙ cc h.width

      body : {m m' : Taken} {e : ℕ} → Body l i c ks n defs m e m' → e ≡ read_number (kind ∷ s) n defs counts m
      unfolding node_number
      body t = on_false _ (ne_eqb (suc (length s)) 0 (λ o. omega arith)) (else-go is-shape (rw (h.width, h.lead, ← p.item, ← p.constant, ← p.tail) t.number))

      pub body-refused : {m m' : Taken} {q : Reason} → Body l i c ks n defs m (number_of q) m' → ReadsNode (kind ∷ s) n defs counts m (Err q) m'
      body-refused {m} {m'} {q} t = record { number = body t; node = tt; after = λ z. absurd (numbered q z) }

      -- a refusal where the item is taken, whatever the flags are then
      pub item-refused : {m m' m'' : Taken} {q : Reason} → Body l i c ks n defs m (number_of q) m'' → ReadsNode (kind ∷ s) n defs counts m (Err q) m'
      item-refused {q = q} t = body-refused (record { number = t.number; after = λ z. absurd (numbered q z) })

      pub read : {m m' : Taken} {x : Node} {o : Kind} → kind_at kind ≡ o → Body l i c ks n defs m 0 m'
          → x ≡ record { kind = o; item = i; kids = length ks; children = four_of ks; constant = c } → ReadsNode (kind ∷ s) n defs counts m (Ok x) m'
      unfolding node_in made
      read e t g =
          let z : length ks ≡ k = let l = p.right in ap length p.tail ∙ omega (arith, length-drop w s) in
          record {
            number = body t;
            node = rw (e, h.width, h.lead, h.kids, ← p.item, ← p.constant, ← p.tail, ← z) g;
            after = λ _. rw (children, number-of-kind kind h.known, h.lead, ← p.item, ← p.tail) (t.after refl);
          }

-- ---- a field whose kind is not looked at, or not known
module _ {counts : List ℕ} {n defs : ℕ} {m m' : Taken} where
  pub no_kind : (b : List ℕ) → length b ≡ 0 → ReadsNode b n defs counts m (Err BadField) m'
  no_kind b h = record { number = on_true _ (eq-eqb (length b) 0 h) refl; node = tt; after = λ f. absurd (omega arith) }

  pub no_room : (b : List ℕ) → 0 < length b → node_limit ≤ n → ReadsNode b n defs counts m (Err TooMany) m'
  unfolding shape_number
  no_room [] z h = absurd (omega arith)
  no_room (a ∷ s) z h = refused (sym (rw (le-leb node_limit n h)))

  pub unknown : (b : List ℕ) → 0 < length b → n < node_limit → kind_count ≤ get_or b 0 0 → ReadsNode b n defs counts m (Err OutOfRange) m'
  unfolding shape_number
  unknown [] z h k = absurd (omega arith)
  unknown (a ∷ s) z h k = refused (sym (rw (lt-leb node_limit n h, le-leb kind_count a k)))

pub form : (kind : ℕ) → kind < call_kind → Form kind (lead_of kind) (width_of kind) (kids_of kind 0)
form kind h = record { known = omega arith; plain = ne_eqb kind call_kind (λ z. omega arith); lead = refl; width = refl; kids = refl }

-- ---- the parts, by what stands first: one byte, none, a word
pub byte-parts : {l k i : ℕ} {ks : List ℕ} (s : List ℕ) → eqb l no_item ≡ false → eqb l constant_item ≡ false → i ≡ get_or s 0 0 → ks ≡ drop 1 s → length s ≡ 1 + k → Parts l 1 k s i 0 ks
unfolding item_of constant_of
byte-parts s f g a b r = record { right = r; item = rw (f, g) a; constant = rw g; tail = b }

pub no-parts : {k : ℕ} (s : List ℕ) → length s ≡ k → Parts no_item 0 k s 0 0 s
unfolding item_of constant_of
no-parts s r = record { right = omega arith; item = refl; constant = refl; tail = refl }

pub word-parts : (s : List ℕ) {x : ℕ} → length s ≡ 4 → x ≡ big (get_or s 0 0 ∷ get_or s 1 0 ∷ get_or s 2 0 ∷ get_or s 3 0 ∷ []) → Parts constant_item 4 0 s 0 x []
unfolding item_of constant_of
word-parts (a ∷ b ∷ c ∷ d ∷ []) h e = record { right = refl; item = refl; constant = e; tail = refl }
word-parts [] h e = absurd (omega arith)
word-parts (a ∷ []) h e = absurd (omega arith)
word-parts (a ∷ b ∷ []) h e = absurd (omega arith)
word-parts (a ∷ b ∷ c ∷ []) h e = absurd (omega arith)
word-parts (a ∷ b ∷ c ∷ d ∷ x ∷ s) h e = absurd (omega arith)

-- ---- a call
-- what a pattern binds behind a first byte
pub behind : (s : List ℕ) → take (length s - 1) (drop 1 s) ≡ drop 1 s
behind s = take_all (length s - 1) (drop 1 s) (omega (arith, length-drop 1 s))

pub length-behind : {k : ℕ} (s : List ℕ) → 1 ≤ length s → length (take (length s - 1) (drop 1 s)) ≡ k → length s ≡ 1 + k
length-behind s h e = omega (arith, ap length (behind s), length-drop 1 s)

module _ {counts : List ℕ} {n defs : ℕ} {m m' : Taken} (room : n < node_limit) where
  pub call-cut : (s : List ℕ) → length s < 1 → ReadsNode (call_kind ∷ s) n defs counts m (Err BadField) m'
  unfolding shape_number call_number
  call-cut [] h = refused (sym (rw (lt-leb node_limit n room)))
  call-cut (d ∷ s) h = absurd (omega arith)

  pub call-undefined : (s : List ℕ) → 1 ≤ length s → defs ≤ get_or s 0 0 → ReadsNode (call_kind ∷ s) n defs counts m (Err NotGiven) m'
  unfolding shape_number call_number
  call-undefined s h o =
      refused (sym (rw (lt-leb node_limit n room, ne_eqb (length s) 0 (λ z. omega arith), le-leb defs (get_or s 0 0) o)))

pub call-shaped : {counts : List ℕ} {n defs : ℕ} (s : List ℕ) → n < node_limit → 1 ≤ length s → get_or s 0 0 < defs → get_or counts (get_or s 0 0) 0 ≤ 4
    → Shaped call_kind s counts n defs definition_item 1 (get_or counts (get_or s 0 0) 0)
unfolding call_number
call-shaped {counts} {n} {defs} s room h o few =
    record {
      room = room;
      known = omega arith;
      called = rw (ne_eqb (length s) 0 (λ z. omega arith), lt-leb defs (get_or s 0 0) o);
      lead = refl;
      width = refl;
      kids = refl;
      few = few;
    }
