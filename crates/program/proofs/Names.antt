-- Numbers in lists: whether one stands there, how often, and whether it is fresh.
use mathlib.Core.Path.{◌≡◌, refl, sym, ◌∙◌, ap}
use mathlib.Core.Logic.{◌⊎◌, inl, inr}
use mathlib.Core.Bool.{Bool, true, false, not, cond, ◌||◌, or-true, true≢false}
use mathlib.Core.List.{List, [], ◌∷◌, ◌++◌, Memᴰ}
use Prim.Native.Nat.{ℕ, zero, suc, ◌+◌, ◌≤◌, ◌<◌}
use native.Mathlib.Omega.{arith}
use lib.Dec.{eqb, leb}
use borrow.Author.Tests.{eqb-true, eqb-false, eq-eqb, leb-false, lt-leb, not-false}
use Rattle.program.specs.Table.{among, beyond, taken_by, unnamed}
use Rattle.program.specs.Conditions.{how_often}
use Rattle.decide.proofs.Picks.{known, neither, or-fails}

pub among-append : (k : ℕ) (ms ns : List ℕ) → among k (ms ++ ns) ≡ (among k ms || among k ns)
unfolding among
among-append k [] ns = refl
among-append k (m ∷ ms) ns = go (eqb k m) (among-append k ms ns)
  where
    go : (b : Bool) → among k (ms ++ ns) ≡ (among k ms || among k ns) → (b || among k (ms ++ ns)) ≡ ((b || among k ms) || among k ns)
    go true e = refl
    go false e = e

pub among-mem : (k : ℕ) (ns : List ℕ) → among k ns ≡ true → Memᴰ k ns
unfolding among
among-mem k [] e = absurd (true≢false (sym e))
among-mem k (n ∷ ns) e = go (eqb k n) refl (among-mem k ns) e
  where
    go : (b : Bool) → eqb k n ≡ b → (among k ns ≡ true → Memᴰ k ns) → (b || among k ns) ≡ true → Memᴰ k (n ∷ ns)
    go true q f e = Memᴰ.head (eqb-true k n q)
    go false q f e = Memᴰ.tail (f e)

pub mem-among : {k : ℕ} {ns : List ℕ} → Memᴰ k ns → among k ns ≡ true
unfolding among
mem-among {k} (Memᴰ.head {x = n} e) = rw (eq-eqb k n e)
mem-among {k} (Memᴰ.tail {x = n} m) = rw (mem-among m) (or-true (eqb k n))

pub how_often-append : (k : ℕ) (ms ns : List ℕ) → how_often k (ms ++ ns) ≡ how_often k ms + how_often k ns
unfolding how_often
how_often-append k [] ns = omega arith
how_often-append k (m ∷ ms) ns = go (eqb k m) (how_often-append k ms ns)
  where
    go : (b : Bool) → how_often k (ms ++ ns) ≡ how_often k ms + how_often k ns
        → cond b (suc (how_often k (ms ++ ns))) (how_often k (ms ++ ns)) ≡ cond b (suc (how_often k ms)) (how_often k ms) + how_often k ns
    go true e = omega arith
    go false e = e

-- it stands there exactly if it stands there at least once
pub how_often-among : (k : ℕ) (ns : List ℕ) → 0 < how_often k ns → among k ns ≡ true
unfolding how_often among
how_often-among k [] h = absurd (omega arith)
how_often-among k (n ∷ ns) h = go (eqb k n) (how_often-among k ns) h
  where
    go : (b : Bool) → (0 < how_often k ns → among k ns ≡ true) → 0 < cond b (suc (how_often k ns)) (how_often k ns) → (b || among k ns) ≡ true
    go true f h = refl
    go false f h = f h

pub among-how_often : (k : ℕ) (ns : List ℕ) → among k ns ≡ true → 0 < how_often k ns
unfolding how_often among
among-how_often k [] h = absurd (true≢false (sym h))
among-how_often k (n ∷ ns) h = go (eqb k n) (among-how_often k ns) h
  where
    go : (b : Bool) → (among k ns ≡ true → 0 < how_often k ns) → (b || among k ns) ≡ true → 0 < cond b (suc (how_often k ns)) (how_often k ns)
    go true f h = omega arith
    go false f h = f h

absent-how_often : (k : ℕ) (ns : List ℕ) → among k ns ≡ false → how_often k ns ≡ 0
absent-how_often k ns e = go (how_often k ns) refl
  where
    go : (n : ℕ) → how_often k ns ≡ n → n ≡ 0
    go zero q = refl
    go (suc n) q = absurd (true≢false (sym (how_often-among k ns (omega arith)) ∙ e))

how_often-absent : (k : ℕ) (ns : List ℕ) → how_often k ns ≡ 0 → among k ns ≡ false
how_often-absent k ns e = go (known (among k ns))
  where
    go : (among k ns ≡ true) ⊎ (among k ns ≡ false) → among k ns ≡ false
    go (inl q) = let h : 0 < how_often k ns = among-how_often k ns q in absurd (omega arith)
    go (inr q) = q

-- what stands in ns stands nowhere else, neither in ns nor among those taken
abbrev pub Fresh : List ℕ → List ℕ → Type 0
Fresh taken ns = (k : ℕ) → 0 < how_often k ns → how_often k taken + how_often k ns ≤ 1

self : (n : ℕ) → how_often n (n ∷ []) ≡ 1
unfolding how_often
self n = rw (eq-eqb n n refl)

pub one : (k n : ℕ) → (how_often k (n ∷ []) ≡ 0) ⊎ (k ≡ n)
unfolding how_often
one k n = go (eqb k n) refl
  where
    go : (b : Bool) → eqb k n ≡ b → (◌≡◌ {A = ℕ} (cond b 1 0) 0) ⊎ (k ≡ n)
    go true q = inr (eqb-true k n q)
    go false q = inl refl

-- none is taken exactly where all are fresh
pub taken-fresh : (taken ns : List ℕ) → taken_by taken ns ≡ false → Fresh taken ns
unfolding taken_by
taken-fresh taken [] e k h = unfold how_often in absurd (omega arith)
taken-fresh taken (n ∷ ns) e k h =
    go (how_often k ns) refl (one k n) (taken-fresh (n ∷ taken) ns (neither (among n taken) _ e).1 k) (absent-how_often n taken (neither (among n taken) _ e).0)
  where
    go : (m : ℕ) → how_often k ns ≡ m → (how_often k (n ∷ []) ≡ 0) ⊎ (k ≡ n) → (0 < how_often k ns → how_often k (n ∷ taken) + how_often k ns ≤ 1) → how_often n taken ≡ 0
        → how_often k taken + how_often k (n ∷ ns) ≤ 1
    go (suc m) q c f a = omega (arith, f (omega arith), how_often-append k (n ∷ []) taken, how_often-append k (n ∷ []) ns)
    go zero q (inl z) f a = absurd (omega (arith, how_often-append k (n ∷ []) ns))
    go zero q (inr z) f a = omega (arith, ap (λ (i : ℕ). how_often i (n ∷ [])) z, self n, ap (λ (i : ℕ). how_often i taken) z, how_often-append k (n ∷ []) ns)

pub fresh-taken : (taken ns : List ℕ) → Fresh taken ns → taken_by taken ns ≡ false
unfolding taken_by
fresh-taken taken [] f = refl
fresh-taken taken (n ∷ ns) f =
    let t = how_often-append n (n ∷ []) ns in
    let s = self n in
    let z : how_often n taken ≡ 0 = omega (arith, f n (omega arith)) in
    or-fails (how_often-absent n taken z)
    (fresh-taken (n ∷ taken) ns
    (λ k h. let u = how_often-append k (n ∷ []) ns in omega (arith, f k (omega arith), how_often-append k (n ∷ []) taken)))

pub fresh-none : (taken : List ℕ) → Fresh taken []
unfolding taken_by
fresh-none taken = taken-fresh taken [] refl

pub fresh-one : (taken : List ℕ) (k : ℕ) → among k taken ≡ false → Fresh taken (k ∷ [])
unfolding taken_by
fresh-one taken k e = taken-fresh taken (k ∷ []) (or-fails e refl)

pub one-fresh : (taken : List ℕ) (k : ℕ) → Fresh taken (k ∷ []) → among k taken ≡ false
unfolding taken_by
one-fresh taken k f = (neither _ false (fresh-taken taken (k ∷ []) f)).0

-- none is beyond the bound exactly where all are below
pub beyond-mem : {bound k : ℕ} {ns : List ℕ} → beyond bound ns ≡ false → Memᴰ k ns → k < bound
unfolding beyond
beyond-mem {bound} e (Memᴰ.head {x = n} q) = omega (arith, leb-false bound n (neither _ _ e).0)
beyond-mem {bound} e (Memᴰ.tail {x = n} m) = beyond-mem (neither (leb bound n) _ e).1 m

pub mem-beyond : (bound : ℕ) (ns : List ℕ) → ((k : ℕ) → Memᴰ k ns → k < bound) → beyond bound ns ≡ false
unfolding beyond
mem-beyond bound [] f = refl
mem-beyond bound (n ∷ ns) f = or-fails (lt-leb bound n (f n (Memᴰ.head refl))) (mem-beyond bound ns (λ k m. f k (Memᴰ.tail m)))

-- none below n is unnamed exactly where all are named
pub unnamed-among : (n : ℕ) (ns : List ℕ) → unnamed n ns ≡ false → (k : ℕ) → k < n → among k ns ≡ true
unfolding unnamed
unnamed-among zero ns e k h = absurd (omega arith)
unnamed-among (suc n) ns e k h = go (eqb k n) refl (unnamed-among n ns (neither (not (among n ns)) _ e).1 k)
  where
    go : (b : Bool) → eqb k n ≡ b → (k < n → among k ns ≡ true) → among k ns ≡ true
    go true q f = rw (eqb-true k n q) (not-false (among n ns) (neither _ (unnamed n ns) e).0)
    go false q f = f (let d : k ≡ n → ⊥ = eqb-false k n q in omega arith)

pub among-unnamed : (n : ℕ) (ns : List ℕ) → ((k : ℕ) → k < n → among k ns ≡ true) → unnamed n ns ≡ false
unfolding unnamed
among-unnamed zero ns f = refl
among-unnamed (suc n) ns f = or-fails {a = not (among n ns)} (rw (f n (omega arith))) (among-unnamed n ns (λ k h. f k (omega arith)))
