-- The lowest node that misreads in a tree, from its parts'; and in all trees of a table. Assumes nothing.
use mathlib.Core.Path.{◌≡◌, refl, sym, ap, ◌∙◌}
use mathlib.Core.Bool.{Bool, true, false, not, cond, ◌&&◌, or_comm}
use mathlib.Core.List.{List, [], ◌∷◌, ◌++◌}
use mathlib.Core.Option.{Option, none, some}
use Rattle.std.proofs.Common.{Option as Answer}
use Prim.Native.Nat.{ℕ, zero, suc, ◌+◌, ◌*◌, ◌%◌, ◌^◌, ◌≤◌, ◌<◌}
use native.Mathlib.Numerals.{add-one}
use native.Mathlib.Omega.{arith}
use lib.ListN.{length, get_or, drop}
use lib.Seq.{drop-cons, drop-length}
use lib.Dec.{eqb, ltb}
use lib.Bits.{bit_or}
use borrow.Author.Tests.{lt-ltb, le-ltb}
use Rattle.program.specs.Table.{Table, Definition, no_definition, definition_at, among}
use Rattle.program.specs.Tree.{tree, misread}
use Rattle.program.specs.Check.{lowest, misread_in}
use Rattle.bits.specs.Bits.{has_bit}
use Rattle.bits.proofs.Bits.{no-bit, power-bit, or-bit, shifted}
use Rattle.words.specs.Form.{parameter_form}
use Rattle.words.specs.Word.{form, item, word}
use Rattle.words.specs.Trees.{tree_at}
use Rattle.operands.specs.Formed.{width, is_alone, binds, reads, part, Formed, Operand}
use Rattle.operands.specs.Found.{place}
use Rattle.operands.proofs.Views.{view}
use Rattle.operands.proofs.Alone.{alone_of}
use Rattle.scope_pass.specs.Reads.{Clean}
use Rattle.scope_pass.proofs.Misread.{own_list, kept_in, all-misread}
use Rattle.scopes.specs.Places.{lower}
use Rattle.scopes.specs.Scope.{InScope, Lowest, misreads, own_place, inner, Told}
use Rattle.scopes.proofs.Places.{lower-append, lower_none, lower_assoc, lower_turn}

-- the bit of variable i, as it is shifted to its place
pub low_bit : (i : ℕ) → i < 16 → 1 * 2 ^ i % 65536 ≡ 2 ^ i
low_bit = shifted

own-place : (n w count scope : ℕ) (kept : List ℕ) → InScope scope kept → lowest (own_list n w count kept) ≡ own_place n w count scope
unfolding lowest misreads
own-place n w count scope kept s =
    rw (← s.bit (item w) (omega arith)) (go (eqb (form w) parameter_form) (reads w) (ltb (item w) count) (has_bit (item w) scope))
  where
    go : (a b c d : Bool) → lowest (cond a (cond c [] (n ∷ [])) (cond b (cond d [] (n ∷ [])) [])) ≡ cond (cond a (not c) (b && not d)) (some n) none
    go true b true d = refl
    go true b false d = refl
    go false true c true = refl
    go false true c false = refl
    go false false c d = refl

inner-scope : {scope : ℕ} {kept : List ℕ} (w : ℕ) → InScope scope kept → InScope (inner w scope) (kept_in w kept)
unfolding inner among
inner-scope {scope} {kept} w s = go (binds w)
  where
    go : (b : Bool) → InScope (cond b (bit_or scope (2 ^ item w)) scope) (cond b (item w ∷ kept) kept)
    go false = s
    go true =
        record {
          bit = λ v l. or-bit v scope (2 ^ item w)
              ∙ rw (power-bit (item w) v (omega arith) (omega arith), s.bit v l) (or_comm (among v kept) (eqb v (item w)));
        }

-- the calls of the code, put together
pub joined : {ws : List ℕ} {n count scope x : ℕ} {best r0 r1 r2 r3 r : Answer ℕ} → Formed ws n
    → place r0 ≡ lower (own_place n (word ws n) count scope) (place best)
    → Lowest count scope (part ws (word ws n) 3) r0 r1 → Lowest count scope (part ws (word ws n) 2) r1 r2
    → x ≡ inner (word ws n) scope → Lowest count x (part ws (word ws n) 1) r2 r3
    → Lowest count scope (part ws (word ws n) 0) r3 r
    → Lowest count scope (tree_at ws n) best r
joined {ws} {n} {count} {scope} {x} {best} f e0 l3 l2 ex l1 l0 =
    record {
      is = λ kept s.
          let w : ℕ = word ws n in
          let k = kept_in w kept in
          let o = own_place n w count scope in
          let m0 = lowest (misread count kept (part ws w 0)) in
          let m1 = lowest (misread count k (part ws w 1)) in
          let m2 = lowest (misread count kept (part ws w 2)) in
          let m3 = lowest (misread count kept (part ws w 3)) in
          l0.is kept s
          ∙ ap (lower m0) (l1.is k (rw ex (inner-scope w s)) ∙ ap (lower m1) (l2.is kept s ∙ ap (lower m2) (l3.is kept s ∙ ap (lower m3) e0)))
          ∙ turned o m0 m1 m2 m3 (place best)
          ∙ ap (λ (y : Option ℕ). lower y (place best))
          (sym (ap lowest (all-misread (view f) count kept)
          ∙ simp lower-append
          (ap (λ (y : Option ℕ). lower y (lower m0 (lower m1 (lower m2 m3)))) (own-place n w count scope kept s))));
    }
  where
    turned : (o a b c d z : Option ℕ) → lower a (lower b (lower c (lower d (lower o z)))) ≡ lower (lower o (lower a (lower b (lower c d)))) z
    turned o a b c d z =
        ap (λ (y : Option ℕ). lower a (lower b (lower c y))) (lower_turn d o z)
        ∙ ap (λ (y : Option ℕ). lower a (lower b y)) (lower_turn c o (lower d z))
        ∙ ap (lower a) (lower_turn b o (lower c (lower d z)))
        ∙ lower_turn a o (lower b (lower c (lower d z)))
        ∙ sym (simp lower_assoc)

-- ---- an operand
module _ (ws : List ℕ) (n j : ℕ) {count scope : ℕ} {best : Answer ℕ} where
  pub part_some : {r : Answer ℕ} {m : ℕ} → Operand ws n j m → Lowest count scope (tree_at ws m) best r → Lowest count scope (part ws (word ws n) j) best r
  part_some o l = rw (lt-ltb j (width (word ws n)) o.has, ← o.is) l

  pub part_none : width (word ws n) ≤ j → Lowest count scope (part ws (word ws n) j) best best
  unfolding misread lowest
  part_none h = rw (le-ltb j (width (word ws n)) h) record { is = λ kept s. refl }

-- a node that names none has nothing under it
pub walk_alone : {ws : List ℕ} {n count scope : ℕ} {best r : Answer ℕ} → Formed ws n → is_alone (word ws n) ≡ true
    → place r ≡ lower (own_place n (word ws n) count scope) (place best) → Lowest count scope (tree_at ws n) best r
walk_alone {ws} {n} f e p =
    let z : width (word ws n) ≡ 0 = (alone_of (word ws n) e).narrow in
    joined f p (part_none ws n 3 (omega arith)) (part_none ws n 2 (omega arith)) refl (part_none ws n 1 (omega arith)) (part_none ws n 0 (omega arith))

-- ---- all trees of a table
pub no-scope : InScope 0 []
unfolding among
no-scope = record { bit = λ v l. no-bit v }

module _ {ws counts bodies : List ℕ} {definitions main : ℕ} (t : Table) (h : Told t ws counts bodies definitions main) where
  -- the lower of what was found and what stands in the definitions from d on is what stands in all
  abbrev pub Rest : ℕ → Answer ℕ → Type 0
  Rest d r = lower (place r) (lowest (misread_in t (drop d t.definitions))) ≡ lowest (misread_in t t.definitions)

  -- one definition more
  pub more-misread : (d : ℕ) {r s : Answer ℕ} → d < definitions → Lowest (get_or counts d 0) 0 (tree_at ws (get_or bodies d 0)) r s → Rest d r → Rest (d + 1) s
  unfolding misread_in
  more-misread d {r} {s} l w i =
      let c = drop-cons t.definitions d no_definition (omega (arith, h.defined.all)) in
      let rest = lowest (misread_in t (drop (suc d) t.definitions)) in
      let m = lowest (misread (get_or counts d 0) [] (tree_at ws (get_or bodies d 0))) in
      let e : lowest (misread_in t (drop d t.definitions)) ≡ lower m rest =
      ap (λ (ds : List Definition). lowest (misread_in t ds)) c
      ∙ lower-append (misread (definition_at t d).count [] (tree t (definition_at t d).body)) (misread_in t (drop (suc d) t.definitions))
      ∙ rw (h.defined.count d l, h.defined.body d l, ← h.trees (get_or bodies d 0) (h.defined.given d l)) in
      rw (add-one d)
      (ap (λ (y : Option ℕ). lower y rest) (w.is [] no-scope) ∙ lower_assoc m (place r) rest ∙ lower_turn m (place r) rest ∙ ap (lower (place r)) (sym e) ∙ i)

  -- and main
  pub all-trees : {r s : Answer ℕ} → Lowest 0 0 (tree_at ws main) r s → Rest definitions r → lowest (misread 0 [] (tree t main) ++ misread_in t t.definitions) ≡ place s
  unfolding lowest misread_in
  all-trees {r} {s} w i =
      let z : lower (place r) none ≡ lowest (misread_in t t.definitions) = rw (← h.defined.all, drop-length t.definitions) at i in
      rw (← h.trees main h.given)
      (lower-append (misread 0 [] (tree_at ws main)) (misread_in t t.definitions)
      ∙ ap (lower (lowest (misread 0 [] (tree_at ws main)))) (sym z ∙ lower_none (place r))
      ∙ sym (w.is [] no-scope))

  -- none misreads
  module _ (c : Clean ws counts bodies definitions main) where
    none_from : (k d : ℕ) → k + d ≡ definitions → misread_in t (drop d t.definitions) ≡ []
    unfolding misread_in
    none_from zero d e = let f : d ≡ length t.definitions = omega (arith, h.defined.all) in rw (f, drop-length t.definitions)
    none_from (suc k) d e =
        let l : d < definitions = omega arith in
        rw (
          drop-cons t.definitions d no_definition (omega (arith, h.defined.all)),
          h.defined.count d l,
          h.defined.body d l,
          ← h.trees (get_or bodies d 0) (h.defined.given d l),
          c.body d l,
        )
        (none_from k (suc d) (omega arith))

    pub clean-trees : lowest (misread 0 [] (tree t main) ++ misread_in t t.definitions) ≡ none
    unfolding lowest
    clean-trees = rw (← h.trees main h.given, c.root, none_from definitions 0 (omega arith))
