-- The bytes a..b of a text: by their first, and a part of a part. Assumes nothing.
use mathlib.Core.Path.{◌≡◌, sym}
use mathlib.Core.List.{List, [], ◌∷◌}
use Prim.Native.Nat.{ℕ, zero, suc, ◌+◌, ◌-◌, ◌≤◌, ◌<◌}
use native.Mathlib.Nat.{sub-zero, zero-sub, suc-sub-suc}
use native.Mathlib.Omega.{arith}
use native.Mathlib.Numerals.{add-one}
use lib.ListN.{length, take, drop, get_or, length-drop}
use lib.Seq.{drop-cons, length-take-le, take-take, drop-drop, take-nil}
use Rattle.notation.specs.Words.{between}

pub between-empty : (a b : ℕ) (s : List ℕ) → b ≤ a → between a b s ≡ []
between-empty a b s h = let e : b - a ≡ 0 = omega arith in rw e

pub between_cons : (a b : ℕ) (s : List ℕ) → a < b → b ≤ length s → between a b s ≡ get_or s a 0 ∷ between (a + 1) b s
between_cons a b s h k =
    let e : b - a ≡ suc (b - (a + 1)) = omega arith in
    let l : a < length s = omega arith in
    rw (e, drop-cons s a 0, add-one)

pub length-between : (a b : ℕ) (s : List ℕ) → b ≤ length s → length (between a b s) ≡ b - a
length-between a b s h = length-take-le (b - a) (drop a s) (omega (arith, length-drop a s))

pub drop-take : (c n : ℕ) (l : List ℕ) → drop c (take n l) ≡ take (n - c) (drop c l)
drop-take zero n l = rw (sub-zero n)
drop-take (suc c) zero l = rw (zero-sub (suc c))
drop-take (suc c) (suc n) [] = sym (take-nil (suc n - suc c))
drop-take (suc c) (suc n) (x ∷ l) = rw (suc-sub-suc n c) (drop-take c n l)

pub between-between : (s : List ℕ) (lo hi c d : ℕ) → c ≤ d → d ≤ hi - lo → between c d (between lo hi s) ≡ between (lo + c) (lo + d) s
between-between s lo hi c d h k =
    let e : lo + d - (lo + c) ≡ d - c = omega arith in
    rw (drop-take c (hi - lo) (drop lo s), take-take (d - c) (hi - lo - c) (drop c (drop lo s)) (omega arith), drop-drop c lo s, e)
