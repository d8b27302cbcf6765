-- A node's numbers as bytes and back.
use mathlib.Core.Path.{◌≡◌, refl, sym, ◌∙◌, ap}
use mathlib.Core.Logic.{◌⊎◌, inl, inr}
use mathlib.Core.Bool.{Bool, true, false, not}
use mathlib.Core.List.{List, [], ◌∷◌, ◌++◌}
use Prim.Native.Nat.{ℕ, zero, suc, ◌/◌, ◌%◌, ◌<◌}
use native.Mathlib.Omega.{arith}
use lib.ListN.{length, take, drop, replicate, length-append, length-drop, take-append-drop, get_or-append}
use lib.Seq.{take-append_seam, drop-append_seam, length-take-le}
use lib.Dec.{eqb, ltb}
use borrow.Author.Tests.{eqb-true, eqb-false, not-true, not-false, ltb-true, lt-ltb, ne_eqb}
use Rattle.wire.specs.Wire.{big_from, big}
use Rattle.program.specs.Table.{kind_count, Item, constant, operator, parameter, variable, keeps, slot, child, definition, kinds, items_of, width, size, values_in, in_range, outside}
use Rattle.program.specs.Conditions.{Bytes, item_bytes, items_bytes, Ranged, InRange, none, more}
use Rattle.decide.proofs.Picks.{neither, both, or-fails}

-- every item but the constant is one byte
one_byte : (i : Item) → (i ≡ constant) ⊎ ((width i ≡ 1) × ((v : ℕ) → item_bytes i v ≡ v ∷ []))
one_byte constant = inl refl
one_byte operator = inr (refl, λ v. refl)
one_byte parameter = inr (refl, λ v. refl)
one_byte variable = inr (refl, λ v. refl)
one_byte keeps = inr (refl, λ v. refl)
one_byte slot = inr (refl, λ v. refl)
one_byte child = inr (refl, λ v. refl)
one_byte definition = inr (refl, λ v. refl)

-- a number of bytes, behind which others stand: its width, and itself again
length-item : (i : Item) (v : ℕ) → length (item_bytes i v) ≡ width i
length-item i v = go (one_byte i)
  where
    go : (i ≡ constant) ⊎ ((width i ≡ 1) × ((v : ℕ) → item_bytes i v ≡ v ∷ [])) → length (item_bytes i v) ≡ width i
    go (inl e) = rw e
    go (inr e) = rw (e.0, e.1)

big-item : (i : Item) (v : ℕ) → big (item_bytes i v) ≡ v
unfolding big_from
big-item i v = go (one_byte i)
  where
    go : (i ≡ constant) ⊎ ((width i ≡ 1) × ((v : ℕ) → item_bytes i v ≡ v ∷ [])) → big (item_bytes i v) ≡ v
    go (inl e) = rw e (omega arith)
    go (inr e) = rw e.1 (omega arith)

pub length-items : {is : List Item} {vs : List ℕ} → InRange is vs → length (items_bytes is vs) ≡ size is
unfolding items_bytes size
length-items none = refl
length-items (more {i} {is} {v} {vs} h r) = length-append (item_bytes i v) (items_bytes is vs) ∙ rw (length-item, length-items r)

pub values_of : {is : List Item} {vs : List ℕ} → InRange is vs → values_in is (items_bytes is vs) ≡ vs
unfolding items_bytes values_in
values_of none = refl
values_of (more {i} {is} {v} {vs} h r) =
    let b : List ℕ = item_bytes i v in
    rw (← length-item i v, take-append_seam b (items_bytes is vs), drop-append_seam b (items_bytes is vs), big-item i v, values_of r)

pub bytes-right : (s t : List ℕ) → Bytes (s ++ t) → Bytes t
bytes-right [] t h = h
bytes-right (b ∷ s) t h = bytes-right s t (λ i. h (suc i))

pub bytes_left : (s t : List ℕ) → Bytes (s ++ t) → Bytes s
bytes_left [] t h i = omega arith
bytes_left (b ∷ s) t h zero = h 0
bytes_left (b ∷ s) t h (suc i) = bytes_left s t (λ i. h (suc i)) i

-- bytes that are read as a number are its bytes
item_of : (i : Item) (s : List ℕ) → Bytes s → length s ≡ width i → item_bytes i (big s) ≡ s
unfolding big_from
item_of i s b l = go (one_byte i) s b l
  where
    four : (s : List ℕ) → Bytes s → length s ≡ 4 → item_bytes constant (big s) ≡ s
    four [] b l = absurd (omega arith)
    four (p ∷ []) b l = absurd (omega arith)
    four (p ∷ q ∷ []) b l = absurd (omega arith)
    four (p ∷ q ∷ r ∷ []) b l = absurd (omega arith)
    four (p ∷ q ∷ r ∷ t ∷ u ∷ s) b l = absurd (omega arith)
    four (p ∷ q ∷ r ∷ t ∷ []) b l =
        let hp : p < 256 = b 0 in
        let hq : q < 256 = b 1 in
        let hr : r < 256 = b 2 in
        let ht : t < 256 = b 3 in
        let w : ℕ = big (p ∷ q ∷ r ∷ t ∷ []) in
        let ep : w / 16777216 ≡ p = omega arith in
        let eq : w / 65536 % 256 ≡ q = omega arith in
        let er : w / 256 % 256 ≡ r = omega arith in
        let et : w % 256 ≡ t = omega arith in
        rw (ep, eq, er, et)

    single : (s : List ℕ) → length s ≡ 1 → big s ∷ [] ≡ s
    single [] l = absurd (omega arith)
    single (p ∷ q ∷ s) l = absurd (omega arith)
    single (p ∷ []) l = ap (λ (n : ℕ). n ∷ []) (omega arith)

    go : (i ≡ constant) ⊎ ((width i ≡ 1) × ((v : ℕ) → item_bytes i v ≡ v ∷ [])) → (s : List ℕ) → Bytes s → length s ≡ width i → item_bytes i (big s) ≡ s
    go (inl e) s b l = rw e (four s b (rw e at l))
    go (inr e) s b l = rw e.1 (single s (l ∙ e.0))

pub bytes_of : (is : List Item) (s : List ℕ) → Bytes s → length s ≡ size is → items_bytes is (values_in is s) ≡ s
unfolding items_bytes values_in size
bytes_of [] [] b l = refl
bytes_of [] (c ∷ s) b l = absurd (omega arith)
bytes_of (i ∷ is) s b l =
    let p : List ℕ = take (width i) s in
    let r : List ℕ = drop (width i) s in
    let e : p ++ r ≡ s = take-append-drop (width i) s in
    let c : Bytes (p ++ r) = rw e b in
    rw (
      item_of i p (bytes_left p r c) (length-take-le (width i) s (omega arith)),
      bytes_of is r (bytes-right p r c) (length-drop (width i) s ∙ omega arith),
    ) e

pub length-values : (is : List Item) (s : List ℕ) → length (values_in is s) ≡ length is
unfolding values_in
length-values [] s = refl
length-values (i ∷ is) s = ap suc (length-values is (drop (width i) s))

-- the test of a range holds exactly in the range
in-range : (i : Item) (v : ℕ) → in_range i v ≡ true → Ranged i v
in-range constant v q = eqb-false v 0x80000000 (not-true (eqb v 0x80000000) q)
in-range operator v q = ltb-true v 9 q
in-range parameter v q = ltb-true v 4 q
in-range variable v q = ltb-true v 16 q
in-range keeps v q = ltb-true v 16 q
in-range slot v q = let b = both (ltb 0 v) (ltb v 16) q in (ltb-true 0 v b.0, ltb-true v 16 b.1)
in-range child v q = tt
in-range definition v q = tt

range-in : (i : Item) (v : ℕ) → Ranged i v → in_range i v ≡ true
range-in constant v h = rw (ne_eqb v 0x80000000 h) refl
range-in operator v h = lt-ltb v 9 h
range-in parameter v h = lt-ltb v 4 h
range-in variable v h = lt-ltb v 16 h
range-in keeps v h = lt-ltb v 16 h
range-in slot v h = rw (lt-ltb 0 v h.0, lt-ltb v 16 h.1) refl
range-in child v h = refl
range-in definition v h = refl

pub inside-range : (is : List Item) (s : List ℕ) → outside is (values_in is s) ≡ false → InRange is (values_in is s)
unfolding values_in outside
inside-range [] s e = none
inside-range (i ∷ is) s e =
    let v : ℕ = big (take (width i) s) in
    more (in-range i v (not-false (in_range i v) (neither (not (in_range i v)) _ e).0)) (inside-range is (drop (width i) s) (neither (not (in_range i v)) _ e).1)

pub range_inside : {is : List Item} {vs : List ℕ} → InRange is vs → outside is vs ≡ false
unfolding outside
range_inside none = refl
range_inside (more {i} {is} {v} {vs} h r) = or-fails {a = not (in_range i v)} (rw (range-in i v h)) (range_inside r)

-- only a call's items depend on the count
pub same-items : (kind m n : ℕ) → kind < kind_count → (kind ≡ 12 → m ≡ n) → items_of kind m ≡ items_of kind n
same-items kind m n h f = go (eqb kind 12) refl
  where
    go : (b : Bool) → eqb kind 12 ≡ b → items_of kind m ≡ items_of kind n
    go true q = ap (items_of kind) (f (eqb-true kind 12 q))
    go false q =
        past (eqb kind 13) refl
      where
        -- nbr-lag behind it, or one of those before it
        past : (b : Bool) → eqb kind 13 ≡ b → items_of kind m ≡ items_of kind n
        past true r = rw (eqb-true kind 13 r)
        past false r =
            let d : kind ≡ 12 → ⊥ = eqb-false kind 12 q in
            let e : kind ≡ 13 → ⊥ = eqb-false kind 13 r in
            let l : kind < 12 = omega arith in
            get_or-append (take 12 (kinds 0)) ((definition ∷ replicate m child) ∷ (slot ∷ []) ∷ []) [] kind l
            ∙ sym (get_or-append (take 12 (kinds 0)) ((definition ∷ replicate n child) ∷ (slot ∷ []) ∷ []) [] kind l)
