-- The levels that a pass holds in its array follow the machine's. Assumes nothing.
use mathlib.Core.Path.{◌≡◌, refl, sym, ap, ◌∙◌}
use mathlib.Core.Bool.{Bool, true, false, cond, ◌&&◌}
use mathlib.Core.List.{List, ◌∷◌}
use Prim.Native.Nat.{ℕ, zero, suc, ◌+◌, ◌-◌, ◌≤◌, ◌<◌}
use native.Mathlib.Omega.{arith}
use lib.ListN.{length, get_or, set, length-set}
use lib.Seq.{get_or-set_same, get_or-set_other}
use lib.Dec.{eqb, leb, ltb}
use borrow.Author.Tests.{eqb-true, eqb-false, leb-true, le-leb, lt-ltb}
use Rattle.levels.specs.Levels.{window, held_at, put_at}

-- the array has the numbers of the levels from base on, so far as there are such and they are held
abbrev pub Held : ℕ → List ℕ → List ℕ → ℕ → Type 0
Held base arr ls depth = (i : ℕ) → base + i ≤ depth → i < window → get_or arr i 0 ≡ get_or ls (depth - (base + i)) 0

-- what a level that is put there says of it, and of the others
module _ (base depth c : ℕ) (arr : List ℕ) (len : length arr ≡ window) where
  pub put_same : base ≤ depth → depth - base < window → get_or (put_at base depth c arr) (depth - base) 0 ≡ c
  put_same h k = rw (le-leb base depth h, lt-ltb (depth - base) window k) (get_or-set_same arr (depth - base) c 0 (omega (arith, len)))

  pub put_other : (i : ℕ) → (base + i ≡ depth → ⊥) → get_or (put_at base depth c arr) i 0 ≡ get_or arr i 0
  put_other i n = go (leb base depth) (ltb (depth - base) window) refl
    where
      go : (a b : Bool) → leb base depth ≡ a → get_or (cond (a && b) (set arr (depth - base) c) arr) i 0 ≡ get_or arr i 0
      go true true e = get_or-set_other arr (depth - base) i c 0 (λ q. n (let h = leb-true base depth e in omega (arith, q, h)))
      go true false e = refl
      go false b e = refl

  pub put-length : length (put_at base depth c arr) ≡ window
  put-length = go (held_at base depth)
    where
      go : (b : Bool) → length (cond b (set arr (depth - base) c) arr) ≡ window
      go true = length-set arr (depth - base) c ∙ len
      go false = len

-- whichever of two numbers leads, the others are the same
others : (x y : ℕ) (l : List ℕ) (k : ℕ) → 0 < k → get_or (x ∷ l) k 0 ≡ get_or (y ∷ l) k 0
others x y l zero h = absurd (omega arith)
others x y l (suc k) h = refl

pub by_equal : {A : Type 0} (m n : ℕ) → (m ≡ n → A) → ((m ≡ n → ⊥) → A) → A
by_equal {A} m n f g = go (eqb m n) refl
  where
    go : (b : Bool) → eqb m n ≡ b → A
    go true e = f (eqb-true m n e)
    go false e = g (eqb-false m n e)

module _ (base depth c : ℕ) (arr l : List ℕ) (len : length arr ≡ window) (h : Held base arr (c ∷ l) depth) where
  -- the level itself goes on as m
  pub held_word : (m n : ℕ) → (base ≤ depth → depth - base < window → n ≡ m) → Held base (put_at base depth n arr) (m ∷ l) depth
  held_word m n q i j k = by_equal (base + i) depth same other
    where
      same : base + i ≡ depth → get_or (put_at base depth n arr) i 0 ≡ get_or (m ∷ l) (depth - (base + i)) 0
      same e =
          let d : depth - base ≡ i = omega (arith, e) in
          let z : depth - (base + i) ≡ 0 = omega (arith, e) in
          let b : base ≤ depth = omega (arith, e) in
          let w : depth - base < window = omega (arith, e, k) in
          ap (λ (x : ℕ). get_or (put_at base depth n arr) x 0) (sym d) ∙ put_same base depth n arr len b w ∙ q b w ∙ ap (λ (x : ℕ). get_or (m ∷ l) x 0) (sym z)

      other : (base + i ≡ depth → ⊥) → get_or (put_at base depth n arr) i 0 ≡ get_or (m ∷ l) (depth - (base + i)) 0
      other d = put_other base depth n arr len i d ∙ h i j k ∙ others c m l (depth - (base + i)) (omega (arith, d, j))

  -- an opening bracket: what is left of the level, then the one within
  pub held-opening : (m n d e : ℕ) → (base ≤ depth → depth - base < window → n ≡ m) → (base ≤ suc depth → suc depth - base < window → e ≡ d)
      → Held base (put_at base (suc depth) e (put_at base depth n arr)) (d ∷ m ∷ l) (suc depth)
  held-opening m n d e q r i j k = by_equal (base + i) (suc depth) same other
    where
      arr' : List ℕ
      arr' = put_at base depth n arr

      same : base + i ≡ suc depth → get_or (put_at base (suc depth) e arr') i 0 ≡ get_or (d ∷ m ∷ l) (suc depth - (base + i)) 0
      same p =
          let x : suc depth - base ≡ i = omega (arith, p) in
          let z : suc depth - (base + i) ≡ 0 = omega (arith, p) in
          let b : base ≤ suc depth = omega (arith, p) in
          let w : suc depth - base < window = omega (arith, p, k) in
          ap (λ (x : ℕ). get_or (put_at base (suc depth) e arr') x 0) (sym x) ∙ put_same base (suc depth) e arr' (put-length base depth n arr len) b w ∙ r b w
          ∙ ap (λ (x : ℕ). get_or (d ∷ m ∷ l) x 0) (sym z)

      other : (base + i ≡ suc depth → ⊥) → get_or (put_at base (suc depth) e arr') i 0 ≡ get_or (d ∷ m ∷ l) (suc depth - (base + i)) 0
      other p =
          let b : base + i ≤ depth = omega (arith, p, j) in
          let x : suc depth - (base + i) ≡ suc (depth - (base + i)) = omega (arith, b) in
          put_other base (suc depth) e arr' (put-length base depth n arr len) i p ∙ held_word m n q i b k ∙ ap (λ (x : ℕ). get_or (d ∷ m ∷ l) x 0) (sym x)

  pub held-closing : 0 < depth → Held base arr l (depth - 1)
  held-closing p i j k =
      let x : depth - (base + i) ≡ suc (depth - 1 - (base + i)) = omega (arith, p, j) in
      h i (omega (arith, p, j)) k ∙ ap (λ (x : ℕ). get_or (c ∷ l) x 0) x
