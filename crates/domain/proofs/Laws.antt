-- What users of a domain cite: its members, their count, a field's numbers by members, a domain built bit by bit, a walk and its turns. Assumes nothing.
use mathlib.Core.Path.{◌≡◌, refl, sym, ap, ap₂, ◌∙◌}
use mathlib.Core.Bool.{Bool, true, false, cond, ◌||◌, ◌&&◌, and-true, and-false, or-false, false≢true}
use mathlib.Core.List.{List, [], ◌∷◌, map}
use mathlib.Core.Option.{Option, none, some}
use mathlib.Core.Logic.{◌⊎◌, inl, inr, ⊎_elim}
use Prim.Native.Nat.{ℕ, zero, suc, ◌+◌, ◌-◌, ◌*◌, ◌/◌, ◌%◌, ◌^◌, ◌≤◌, ◌<◌}
use native.Mathlib.Nat.{zero-add, add-zero, add-suc, suc-add, add_comm, le_of_suc-le-suc, not-suc-le-zero, zero-lt-suc, one-mul, add-mul-div_right, div-div-eq-div-mul, pow-succ', eq-or-lt_of_le}
use native.Mathlib.Numerals.{add-one}
use native.Mathlib.Omega.{arith}
use lib.Bits.{bit_and, and_shr, and_mod, block_odd}
use lib.Count.{ones, count_trailing_zeros}
use lib.Dec.{eqb}
use lib.IntN.{ℤ, pos}
use lib.ListN.{length, get_or, length-map}
use lib.Pow.{pow-add, pow_pos}
use borrow.Author.Tests.{eq-eqb, ne_eqb, eqb-true}
use Rattle.decide.proofs.Picks.{both, one_of}
use Rattle.program.specs.Table.{among}
use Rattle.bits.specs.Bits.{has_bit}
use Rattle.bits.proofs.Bits.{parity}
use Rattle.field.specs.Field.{from}
use Rattle.field.proofs.Each.{from-same}
use Rattle.domain.specs.Held.{cell_of, field_of}
use Rattle.domain.specs.Members.{before, those, members, places, bit, built}
use Rattle.domain.proofs.Walk.{by-halves, devs-length, lowest-in, lowest-low, members-next, shifted}

pub members-none : members 0 ≡ []
unfolding members those
members-none = refl

pub none_in : (dom : ℕ) → dom ≡ 0 → members dom ≡ []
none_in dom e = ap members e ∙ members-none

pub size-members : (dom : ℕ) → dom < 65536 → ones dom ≡ length (members dom)
size-members dom h = devs-length 16 0 dom h ∙ ap length (sym (by-halves dom))

-- ---- what is a member

in-before : (t : Bool) (k a : ℕ) (l : List ℕ) → among k (before t a l) ≡ t && eqb k a || among k l
unfolding among
in-before true k a l = refl
in-before false k a l = refl

in-above : (p : ℕ → Bool) (n a k : ℕ) → among k (those a n p) ≡ true → k < a + n
unfolding among those
in-above p zero a k e = absurd (false≢true e)
in-above p (suc n) a k e =
    ⊎_elim (λ q. let s = eqb-true k a (both (p a) (eqb k a) q).1 in omega arith) (λ q. let s = in-above p n (suc a) k q in omega arith)
    (one_of (p a && eqb k a) (among k (those (suc a) n p)) (sym (in-before (p a) k a (those (suc a) n p)) ∙ e))

in-below : (p : ℕ → Bool) (n a k : ℕ) → k < a → among k (those a n p) ≡ false
unfolding among those
in-below p zero a k h = refl
in-below p (suc n) a k h =
    in-before (p a) k a (those (suc a) n p)
    ∙ simp (ne_eqb k a (λ e. omega arith), and-false (p a), in-below p n (suc a) k (omega arith))

in-those : (p : ℕ → Bool) (n a j : ℕ) → j < n → among (a + j) (those a n p) ≡ p (a + j)
unfolding among those
in-those p zero a j h = absurd (not-suc-le-zero h)
in-those p (suc n) a zero h =
    rw (add-zero a)
    (in-before (p a) a a (those (suc a) n p) ∙ simp (eq-eqb a a refl, and-true (p a), in-below p n (suc a) a (omega arith), or-false (p a)))
in-those p (suc n) a (suc j) h =
    in-before (p a) (a + suc j) a (those (suc a) n p)
    ∙ simp (ne_eqb (a + suc j) a (λ e. omega arith), and-false (p a))
    (rw (add-suc a j, ← suc-add a j) (in-those p n (suc a) j (le_of_suc-le-suc h)))

pub member_below : (dom k : ℕ) → among k (members dom) ≡ true → k < 16
unfolding members
member_below dom k e = rw zero-add at (in-above (λ (j : ℕ). has_bit j dom) 16 0 k e)

pub bit-members : (dom k : ℕ) → k < 16 → among k (members dom) ≡ has_bit k dom
unfolding members
bit-members dom k h = rw zero-add at (in-those (λ (j : ℕ). has_bit j dom) 16 0 k h)

-- ---- a field by its members

place-before : (t : Bool) (f : ℕ → ℤ) (a : ℕ) (g : List (Option ℤ)) (l : List ℕ) → places g ≡ map f l → places (cond t (some (f a)) none ∷ g) ≡ map f (before t a l)
unfolding places
place-before true f a g l e = ap (λ (q : List ℤ). f a ∷ q) e
place-before false f a g l e = e

places-those : (p : ℕ → Bool) (f : ℕ → ℤ) (n a : ℕ) → places (from a n (λ (k : ℕ). cond (p k) (some (f k)) none)) ≡ map f (those a n p)
unfolding places from those
places-those p f zero a = refl
places-those p f (suc n) a = place-before (p a) f a (from (suc a) n (λ (k : ℕ). cond (p k) (some (f k)) none)) (those (suc a) n p) (places-those p f n (suc a))

pub places-members : (dom : ℕ) (cells : List ℤ) → places (field_of dom cells) ≡ map (λ (k : ℕ). get_or cells k (pos 0)) (members dom)
unfolding field_of members
places-members dom cells = places-those (λ (k : ℕ). has_bit k dom) (λ (k : ℕ). get_or cells k (pos 0)) 16 0

-- ---- what is alike at each place is alike

those-same : (p q : ℕ → Bool) (n a : ℕ) → ((j : ℕ) → j < n → p (a + j) ≡ q (a + j)) → those a n p ≡ those a n q
unfolding those
those-same p q zero a h = refl
those-same p q (suc n) a h =
    let e : p a ≡ q a = rw add-zero at (h zero (zero-lt-suc n)) in
    let r = those-same p q n (suc a) (λ j b. rw (suc-add a j, ← add-suc a j) (h (suc j) (omega arith))) in
    rw (e, r)

-- ---- a domain built from the lowest bit up: each turn moves the bits down by one and puts the next on top

pub built-none : (b : ℕ → Bool) → 0 ≡ built b 0
unfolding built
built-none b = refl

pub bit_le : (t : Bool) → bit t ≤ 32768
bit_le true = omega arith
bit_le false = omega arith

pub built-lt : (b : ℕ → Bool) (n : ℕ) → built b n < 65536
unfolding built
built-lt b zero = omega arith
built-lt b (suc n) = omega (arith, built-lt b n, bit_le (b n))

half_lt : (b : ℕ → Bool) (n : ℕ) → built b n / 2 < 32768
half_lt b n = omega (arith, built-lt b n)

top : (t : Bool) (y : ℕ) → y < 32768 → has_bit 15 (y + bit t) ≡ t
top true y h = eq-eqb ((y + 32768) / 32768 % 2) 1 (omega arith)
top false y h = ne_eqb ((y + 0) / 32768 % 2) 1 (λ e. omega arith)

-- a bit below the top is as it was
lower : (t : Bool) (y j m : ℕ) → suc m + j ≡ 15 → (y + bit t) / 2 ^ j % 2 ≡ y / 2 ^ j % 2
lower false y j m e = rw (add-zero y)
lower true y j m e =
    let w : 32768 ≡ 2 ^ suc m * 2 ^ j = ap (λ (n : ℕ). 2 ^ n) (sym e) ∙ pow-add 2 (suc m) j in
    rw (w, add-mul-div_right y (2 ^ suc m) (pow_pos j), add_comm (y / 2 ^ j) (2 ^ suc m))
    (ap (λ (n : ℕ). (n + y / 2 ^ j) % 2) (sym (one-mul (2 ^ suc m))) ∙ block_odd 1 m (y / 2 ^ j))

half_at : (x j : ℕ) → x / 2 / 2 ^ j ≡ x / 2 ^ suc j
half_at x j = div-div-eq-div-mul x 2 (2 ^ j) ∙ ap (λ (n : ℕ). x / n) (sym (pow-succ' 2 j))

-- after n tests the last of them stands at bit 15, so test k at bit 16 + k - n
built-at : (b : ℕ → Bool) (n k j : ℕ) → k < n → j + n ≡ 16 + k → has_bit j (built b n) ≡ b k
unfolding built
built-at b zero k j h e = absurd (not-suc-le-zero h)
built-at b (suc n) k j h e =
    let y = built b n / 2 in
    ⊎_elim
    (λ q. let z : j ≡ 15 = omega arith in rw z (top (b n) y (half_lt b n) ∙ ap b (sym q)))
    (λ q.
    ap (λ (d : ℕ). eqb d 1) (lower (b n) y j (14 - j) (omega arith) ∙ ap (λ (d : ℕ). d % 2) (half_at (built b n) j))
    ∙ built-at b n k (suc j) q (omega arith))
    (eq-or-lt_of_le (le_of_suc-le-suc h))

pub built-domain : (b : ℕ → Bool) (k : ℕ) → k < 16 → has_bit k (built b 16) ≡ b k
built-domain b k h = built-at b 16 k k h (add_comm k 16)

pub built-members : (b : ℕ → Bool) → members (built b 16) ≡ those 0 16 b
unfolding members
built-members b = those-same (λ (k : ℕ). has_bit k (built b 16)) b 16 0 (λ j h. rw zero-add (built-domain b j h))

pub built-field : (b : ℕ → Bool) (cells : List ℤ) → field_of (built b 16) cells ≡ from 0 16 (λ (k : ℕ). cond (b k) (some (get_or cells k (pos 0))) none)
unfolding field_of
built-field b cells =
    from-same (cell_of (built b 16) cells) (λ (k : ℕ). cond (b k) (some (get_or cells k (pos 0))) none) 16 0
    (λ j h. rw (zero-add, built-domain b j h))

-- a loop that builds one: its turn
pub built-more : (b : ℕ → Bool) (k d m : ℕ) → d ≡ built b k → m ≡ bit (b k) → d / 2 + m ≡ built b (k + 1)
unfolding built
built-more b k d m p q = rw (add-one k, p, q)

-- ---- the devices that two domains share

put : {x y i j : ℕ} → x ≡ i → y ≡ j → eqb (bit_and x y) 1 ≡ eqb (bit_and i j) 1
put p q = ap₂ (λ (a b : ℕ). eqb (bit_and a b) 1) p q

take : {x y i j : ℕ} → x ≡ i → y ≡ j → eqb x 1 && eqb y 1 ≡ eqb i 1 && eqb j 1
take p q = ap₂ (λ (a b : ℕ). eqb a 1 && eqb b 1) p q

and-bits : (x y : ℕ) → (x ≡ 0) ⊎ (x ≡ 1) → (y ≡ 0) ⊎ (y ≡ 1) → eqb (bit_and x y) 1 ≡ eqb x 1 && eqb y 1
and-bits x y (inl p) (inl q) = put p q ∙ sym (take p q)
and-bits x y (inl p) (inr q) = put p q ∙ sym (take p q)
and-bits x y (inr p) (inl q) = put p q ∙ sym (take p q)
and-bits x y (inr p) (inr q) = put p q ∙ sym (take p q)

pub shared-domain : (k d e : ℕ) → has_bit k (bit_and d e) ≡ has_bit k d && has_bit k e
shared-domain k d e =
    ap (λ (n : ℕ). eqb (n % 2) 1) (and_shr d e k)
    ∙ ap (λ (n : ℕ). eqb n 1) (and_mod (d / 2 ^ k) (e / 2 ^ k) 1)
    ∙ and-bits (d / 2 ^ k % 2) (e / 2 ^ k % 2) (parity (d / 2 ^ k % 2) (omega arith)) (parity (e / 2 ^ k % 2) (omega arith))

-- ---- the turns of a walk while a device is left: those taken and those to come are as many as there are members

before-few : (t : Bool) (k n : ℕ) (l : List ℕ) → length l ≤ n → length (before t k l) ≤ suc n
before-few true k n l h = omega arith
before-few false k n l h = omega arith

those-few : (p : ℕ → Bool) (n a : ℕ) → length (those a n p) ≤ n
unfolding those
those-few p zero a = omega arith
those-few p (suc n) a = before-few (p a) a n (those (suc a) n p) (those-few p n (suc a))

abbrev pub Turned : ℕ → ℕ → ℕ → Type 0
Turned dom left turns = turns + length (members left) ≡ length (members dom)

pub turned_none : (dom : ℕ) → Turned dom dom 0
turned_none dom = zero-add (length (members dom))

module _ (dom d turns : ℕ) (h : Turned dom d turns) where
  pub turned-few : turns ≤ 16
  unfolding members
  turned-few = omega (arith, h, those-few (λ (k : ℕ). has_bit k dom) 16 0)

  pub turned_more : (r j : ℕ) → members d ≡ j ∷ members r → Turned dom r (turns + 1)
  turned_more r j e = let s : length (members d) ≡ suc (length (members r)) = ap length e in omega arith

  -- as many as the field of these devices has numbers
  pub turned-all : members d ≡ [] → (cells : List ℤ) → turns ≡ length (places (field_of dom cells))
  turned-all e cells =
      let z : length (members d) ≡ 0 = ap length e in
      let t : turns ≡ length (members dom) = omega arith in
      t ∙ sym (ap length (places-members dom cells) ∙ length-map (members dom) (λ (k : ℕ). get_or cells k (pos 0)))

-- ---- a turn of a walk: the lowest of those left, and the rest
pub lowest_under : (d : ℕ) → d < 65536 → (d ≡ 0 → ⊥) → 1 * 2 ^ count_trailing_zeros 16 d % 65536 ≤ d
lowest_under d q n = omega (arith, shifted d (omega arith) q, lowest-low d (omega arith) q)

pub rest_under : (d : ℕ) → d < 65536 → (d ≡ 0 → ⊥) → d - 1 * 2 ^ count_trailing_zeros 16 d % 65536 < d
rest_under d q n = omega (arith, shifted d (omega arith) q, pow_pos (count_trailing_zeros 16 d), lowest-low d (omega arith) q)

pub next_of : (d : ℕ) → d < 65536 → (d ≡ 0 → ⊥) → members d ≡ count_trailing_zeros 16 d ∷ members (d - 1 * 2 ^ count_trailing_zeros 16 d % 65536)
next_of d q n = members-next d (omega arith) q ∙ ap (λ (m : ℕ). count_trailing_zeros 16 d ∷ members (d - m)) (sym (shifted d (omega arith) q))

pub lowest_of : (d : ℕ) → d < 65536 → (d ≡ 0 → ⊥) → count_trailing_zeros 16 d < 16
lowest_of d q n = lowest-in d (omega arith) q

pub ruleset walks = (none_in, size-members, lowest_of, lowest_under, rest_under, next_of)
