-- Fields combined, and a walk over a domain. Assumes nothing.
use mathlib.Core.Path.{◌≡◌, refl, sym, ap, ◌∙◌}
use mathlib.Core.Bool.{Bool, true, false, cond, ◌||◌, ◌&&◌, false≢true}
use mathlib.Core.List.{List, [], ◌∷◌}
use mathlib.Core.Option.{Option, none, some}
use native.Mathlib.Omega.{arith}
use Prim.Native.Nat.{ℕ, zero, suc, ◌<◌}
use native.Mathlib.Nat.{zero-add}
use lib.Bits.{bit_and}
use lib.Dec.{eqb}
use lib.IntN.{ℤ, pos}
use lib.ListN.{length, get_or, set, length-set}
use lib.Seq.{get_or-set_same, get_or-set_other}
use borrow.Author.Tests.{eqb-true, eqb-false}
use Rattle.program.specs.Table.{among}
use Rattle.bits.specs.Bits.{has_bit}
use Rattle.number.specs.Number.{div, eq_z, operation_result, faults, over}
use Rattle.number.specs.Number as number
use Rattle.arith.specs.Named.{named}
use Rattle.arith.specs.declared.operator.Operator.{Operator}
use Rattle.arith.specs.declared.operator.Operator.TheVariants.{Over}
use Rattle.field.specs.Field.{Field, from, result_at, faults_at, pointwise, faults_in}
use Rattle.domain.specs.Held.{cell_of, field_of}
use Rattle.domain.specs.Members.{before, those, members, any_zero}
use Rattle.arith.proofs.Signs.{eq_z-yes, eq_z-no}
use Rattle.field.proofs.Each.{from-same}
use Rattle.domain.proofs.Laws.{bit-members, shared-domain}

-- ---- operators on fields

pointwise-from : (o : number.Operator) (f g : ℕ → Option ℤ) (n a : ℕ) → pointwise o (from a n f) (from a n g) ≡ from a n (λ (k : ℕ). result_at o (f k) (g k))
unfolding pointwise from
pointwise-from o f g zero a = refl
pointwise-from o f g (suc n) a = ap (λ (l : Field). result_at o (f a) (g a) ∷ l) (pointwise-from o f g n (suc a))

both : (o : number.Operator) (s t : Bool) (x y z : ℤ) → (s && t ≡ true → z ≡ operation_result o x y)
    → cond (s && t) (some z) none ≡ result_at o (cond s (some x) none) (cond t (some y) none)
both o true true x y z h = ap some (h refl)
both o true false x y z h = refl
both o false true x y z h = refl
both o false false x y z h = refl

-- a field whose cells are the results at the devices that two fields share
pub field_shared : (o : number.Operator) (d e : ℕ) (xs ys out : List ℤ)
    → ((k : ℕ) → k < 16 → has_bit k (bit_and d e) ≡ true → get_or out k (pos 0) ≡ operation_result o (get_or xs k (pos 0)) (get_or ys k (pos 0)))
    → field_of (bit_and d e) out ≡ pointwise o (field_of d xs) (field_of e ys)
unfolding field_of
field_shared o d e xs ys out h =
    from-same (cell_of (bit_and d e) out) (λ (k : ℕ). result_at o (cell_of d xs k) (cell_of e ys k)) 16 0
    (λ j b. rw zero-add (ap (λ (t : Bool). cond t (some (get_or out j (pos 0))) none) (shared-domain j d e)
    ∙ both o (has_bit j d) (has_bit j e) (get_or xs j (pos 0)) (get_or ys j (pos 0)) (get_or out j (pos 0)) (λ q. h j b (shared-domain j d e ∙ q))))
    ∙ sym (pointwise-from o (cell_of d xs) (cell_of e ys) 16 0)

zero-before : (s t : Bool) (x : ℤ) (a : ℕ) (l : List ℕ) (ys : List ℤ) (r : Bool) → r ≡ any_zero l ys
    → faults_at div (cond s (some x) none) (cond t (some (get_or ys a (pos 0))) none) || r ≡ any_zero (before (s && t) a l) ys
unfolding any_zero faults
zero-before true true x a l ys r e = ap (λ (q : Bool). eq_z (get_or ys a (pos 0)) (pos 0) || q) e
zero-before true false x a l ys r e = e
zero-before false true x a l ys r e = e
zero-before false false x a l ys r e = e

faults-those : (d e : ℕ) (xs ys : List ℤ) (n a : ℕ)
    → faults_in div (from a n (cell_of d xs)) (from a n (cell_of e ys)) ≡ any_zero (those a n (λ (k : ℕ). has_bit k (bit_and d e))) ys
unfolding faults_in from those any_zero
faults-those d e xs ys zero a = refl
faults-those d e xs ys (suc n) a =
    let l = those (suc a) n (λ (k : ℕ). has_bit k (bit_and d e)) in
    zero-before (has_bit a d) (has_bit a e) (get_or xs a (pos 0)) a l ys _ (faults-those d e xs ys n (suc a))
    ∙ ap (λ (t : Bool). any_zero (before t a l) ys) (sym (shared-domain a d e))

pub faults-shared : (d e : ℕ) (xs ys : List ℤ) → faults_in div (field_of d xs) (field_of e ys) ≡ any_zero (members (bit_and d e)) ys
unfolding field_of members
faults-shared d e xs ys = faults-those d e xs ys 16 0

faultless-at : (o : number.Operator) → ((y : ℤ) → faults o y ≡ false) → (p q : Option ℤ) → faults_at o p q ≡ false
faultless-at o h none q = refl
faultless-at o h (some x) none = refl
faultless-at o h (some x) (some y) = h y

pub faultless : (o : number.Operator) → ((y : ℤ) → faults o y ≡ false) → (f g : Field) → faults_in o f g ≡ false
unfolding faults_in
faultless o h [] g = refl
faultless o h (p ∷ f) [] = refl
faultless o h (p ∷ f) (q ∷ g) = rw (faultless-at o h p q) (faultless o h f g)

-- the operator of the code on two fields: only division faults
pub faultless_operator : (o : Operator) → (o ≡ Over → ⊥) → (y : ℤ) → faults (named o) y ≡ false
unfolding faults
faultless_operator o n y = grind arith

pub faults_over : (o : Operator) (d e : ℕ) (xs ys : List ℤ) → o ≡ Over → faults_in (named o) (field_of d xs) (field_of e ys) ≡ any_zero (members (bit_and d e)) ys
faults_over o d e xs ys q = rw q (faults-shared d e xs ys)

pub faults_else : (o : Operator) (f g : Field) → (o ≡ Over → ⊥) → faults_in (named o) f g ≡ false
faults_else o f g n = faultless (named o) (faultless_operator o n) f g

pub field_of_shared : (o : number.Operator) (d e b : ℕ) (xs ys out : List ℤ) → b ≡ bit_and d e
    → ((k : ℕ) → k < 16 → has_bit k b ≡ true → get_or out k (pos 0) ≡ operation_result o (get_or xs k (pos 0)) (get_or ys k (pos 0)))
    → field_of b out ≡ pointwise o (field_of d xs) (field_of e ys)
field_of_shared o d e b xs ys out q h = rw q (field_shared o d e xs ys out (rw q at h))

pub ruleset fields = (faults_over, faults_else, field_of_shared)

-- ---- a walk that divides: d is what is left before a turn at k, r after it

abbrev pub quotient : List ℤ → List ℤ → ℕ → ℤ
quotient xs ys k = over (get_or xs k (pos 0)) (get_or ys k (pos 0))

-- the cells of out in dom that are not among those left are f's
abbrev pub Walked : (ℕ → ℤ) → ℕ → ℕ → List ℤ → Type 0
Walked f dom rest out = (length out ≡ 16) × ((i : ℕ) → i < 16 → has_bit i dom ≡ true → among i (members rest) ≡ false → get_or out i (pos 0) ≡ f i)

pub walked_none : (f : ℕ → ℤ) (dom left : ℕ) (out : List ℤ) → length out ≡ 16 → left ≡ dom → Walked f dom left out
walked_none f dom left out e q = (
  e,
  λ i h b n. absurd (false≢true (sym n ∙ ap (λ (d : ℕ). among i (members d)) q ∙ bit-members dom i h ∙ b)),
)

pub walked_all : (f : ℕ → ℤ) (dom d : ℕ) (out : List ℤ) → members d ≡ [] → Walked f dom d out → (i : ℕ) → i < 16 → has_bit i dom ≡ true → get_or out i (pos 0) ≡ f i
unfolding among
walked_all f dom d out e p i h b = p.1 i h b (ap (among i) e)

module _ (d r k : ℕ) (e : members d ≡ k ∷ members r) where
  zero-next : (ys : List ℤ) → any_zero (members d) ys ≡ eq_z (get_or ys k (pos 0)) (pos 0) || any_zero (members r) ys
  unfolding any_zero
  zero-next ys = rw e

  pub no_zero : (ys : List ℤ) → any_zero (members d) ys ≡ false → get_or ys k (pos 0) ≡ pos 0 → ⊥
  no_zero ys f z = false≢true (sym f ∙ zero-next ys ∙ rw (eq_z-yes (get_or ys k (pos 0)) (pos 0) z))

  pub no-zero-after : (ys : List ℤ) → any_zero (members d) ys ≡ false → any_zero (members r) ys ≡ false
  no-zero-after ys f = sym (zero-next ys ∙ rw (eq_z-no (get_or ys k (pos 0)) (pos 0) (no_zero ys f))) ∙ f

  module _ (f : ℕ → ℤ) (dom : ℕ) (out : List ℤ) (v : ℤ) (w : v ≡ f k) (h : k < 16) (p : Walked f dom d out) where
    walked_at : (i : ℕ) → i < 16 → has_bit i dom ≡ true → among i (members r) ≡ false → (t : Bool) → eqb i k ≡ t → get_or (set out k v) i (pos 0) ≡ f i
    unfolding among
    walked_at i b m n true t = rw (eqb-true i k t) (get_or-set_same out k v (pos 0) (rw p.0 h) ∙ w)
    walked_at i b m n false t = get_or-set_other out k i v (pos 0) (eqb-false i k t) ∙ p.1 i b m (rw (e, t) n)

    pub walked_more : Walked f dom r (set out k v)
    walked_more = (length-set out k v ∙ p.0, λ i b m n. walked_at i b m n (eqb i k) refl)
