-- What no refusal tells: each row's test, in the code's order.
use mathlib.Core.Path.{◌≡◌, refl}
use mathlib.Core.Bool.{Bool, true, false, cond, ◌&&◌}
use mathlib.Core.List.{List}
use Prim.Native.Nat.{ℕ, suc, ◌+◌, ◌<◌}
use native.Mathlib.Omega.{arith}
use lib.ListN.{length, get_or, drop}
use lib.Dec.{eqb, leb}
use borrow.Author.Tests.{leb-false, eqb-true}
use Rattle.shapes.specs.Kinds.{call_kind}
use Rattle.program.specs.Table.{beyond, node_limit, kind_count}
use Rattle.shapes.specs.Shapes.{lead_of, width_of, kids_of, inside, definition_item}
use Rattle.nodes.specs.Body.{item_of, constant_of}
use Rattle.taken.specs.Taken.{taken_in}
use Rattle.kinds.specs.Taken.{Taken}
use Rattle.kinds.specs.Numbers.{or_else, call_number, shape_number, body_number, node_number}

pub passed : (b : Bool) (n : ℕ) {x : ℕ} → cond b (suc n) x ≡ 0 → (b ≡ false) × (x ≡ 0)
passed true n e = absurd (omega arith)
passed false n e = (refl, e)

pub held : (b : Bool) (n : ℕ) {x : ℕ} → cond b x (suc n) ≡ 0 → (b ≡ true) × (x ≡ 0)
held true n e = (refl, e)
held false n e = absurd (omega arith)

both : (a b : ℕ) → or_else a b ≡ 0 → (a ≡ 0) × (b ≡ 0)
both a b e = go (eqb a 0) refl e
  where
    go : (t : Bool) → eqb a 0 ≡ t → cond t b a ≡ 0 → (a ≡ 0) × (b ≡ 0)
    go true q e = (eqb-true a 0 q, e)
    go false q e = absurd (borrow.Author.Tests.eqb-false a 0 q e)

pub record NodeClear (kind : ℕ) (s : List ℕ) (n defs count : ℕ) (m : Taken) : Type 0 where
  pub room : n < node_limit
  pub known : kind < kind_count
  pub defined : kind ≡ call_kind → get_or s 0 0 < defs
  pub right : length s ≡ width_of kind + kids_of kind count
  pub range : inside (lead_of kind) (item_of (lead_of kind) s) (constant_of (lead_of kind) s) ≡ true
  pub given : beyond n (drop (width_of kind) s) ≡ false
  pub definition : (eqb (lead_of kind) definition_item && leb defs (item_of (lead_of kind) s)) ≡ false
  pub free : taken_in m.named (drop (width_of kind) s) ≡ false

call-clear : (kind : ℕ) (s : List ℕ) (defs : ℕ) → call_number kind s defs ≡ 0 → kind ≡ call_kind → get_or s 0 0 < defs
unfolding call_number
call-clear kind s defs e q = leb-false defs (get_or s 0 0) (passed (leb defs (get_or s 0 0)) 3 (passed (eqb (length s) 0) 0 (rw q at e)).1).0

-- what no refusal of a shape tells
pub record ShapeClear (kind : ℕ) (s : List ℕ) (n defs count : ℕ) : Type 0 where
  pub room : n < node_limit
  pub known : kind < kind_count
  pub defined : kind ≡ call_kind → get_or s 0 0 < defs
  pub right : length s ≡ width_of kind + kids_of kind count

pub shape-clear : (kind : ℕ) (s : List ℕ) (n defs count : ℕ) → shape_number kind s n defs count ≡ 0 → ShapeClear kind s n defs count
unfolding shape_number
shape-clear kind s n defs count e =
    let a = passed (leb node_limit n) 1 e in
    let b = passed (leb kind_count kind) 2 a.1 in
    let c = both (call_number kind s defs) _ b.1 in
    let d = held (eqb (length s) (width_of kind + kids_of kind count)) 0 c.1 in
    record { room = leb-false node_limit n a.0; known = leb-false kind_count kind b.0; defined = call-clear kind s defs c.0; right = eqb-true _ _ d.0 }

pub node-clear : (kind : ℕ) (s : List ℕ) (n defs count : ℕ) (m : Taken) → node_number kind s n defs count m ≡ 0 → NodeClear kind s n defs count m
unfolding node_number body_number
node-clear kind s n defs count m e =
    let p = both (shape_number kind s n defs count) _ e in
    let q = shape-clear kind s n defs count p.0 in
    let f = held (inside (lead_of kind) (item_of (lead_of kind) s) (constant_of (lead_of kind) s)) 2 p.1 in
    let g = passed (beyond n (drop (width_of kind) s)) 3 f.1 in
    let h = passed (eqb (lead_of kind) definition_item && leb defs (item_of (lead_of kind) s)) 3 g.1 in
    let i = passed (taken_in m.named (drop (width_of kind) s)) 4 h.1 in
    record {
      room = q.room;
      known = q.known;
      defined = q.defined;
      right = q.right;
      range = f.0;
      given = g.0;
      definition = h.0;
      free = i.0;
    }
