-- The numbers that wait, on the stack of bytes and in the definitions. Assumes nothing.
use mathlib.Core.Path.{◌≡◌, refl, sym, ap, subst, ◌∙◌}
use mathlib.Core.List.{List, [], ◌∷◌, ◌++◌, map, reverse, reverse-cons, reverse-append}
use Prim.Native.Nat.{ℕ, zero, suc, ◌+◌, ◌-◌, ◌<◌}
use native.Mathlib.Omega.{arith}
use lib.ListN.{length, take, drop, set, take-append-drop, length-drop, length-reverse}
use native.Mathlib.Numerals.{add-one}
use lib.Seq.{take-append_seam, drop-append_seam, take-take}
use Rattle.notation.specs.Words.{between}
use Rattle.translation.specs.Numbering.{byte}
use Rattle.notation.proofs.Between.{drop-take}

map-append : (a b : List ℕ) → map byte (a ++ b) ≡ map byte a ++ map byte b
map-append [] b = refl
map-append (x ∷ a) b = ap (λ (l : List ℕ). byte x ∷ l) (map-append a b)

map-length : (a : List ℕ) → length (map byte a) ≡ length a
map-length [] = refl
map-length (x ∷ a) = ap suc (map-length a)

-- one number more is written behind the first k
put_next : (l : List ℕ) (k x : ℕ) → k < length l → take (suc k) (set l k x) ≡ take k l ++ x ∷ []
put_next [] k x h = absurd (omega arith)
put_next (a ∷ l) zero x h = refl
put_next (a ∷ l) (suc k) x h = ap (λ (r : List ℕ). a ∷ r) (put_next l k x (omega (arith, h)))

pub stacked : (stack st : List ℕ) (k n : ℕ) → k < length stack → take k stack ≡ map byte (reverse st) → take (k + 1) (set stack k (byte n)) ≡ map byte (reverse (n ∷ st))
stacked stack st k n h e =
    rw (add-one k) (put_next stack k (byte n) h ∙ ap (λ (l : List ℕ). l ++ byte n ∷ []) e ∙ sym (rw (reverse-cons n st) (map-append (reverse st) (n ∷ []))))

-- ---- the last k numbers, and those before
split : (k : ℕ) (st : List ℕ) → map byte (reverse st) ≡ map byte (reverse (drop k st)) ++ map byte (reverse (take k st))
split k st = ap (λ (l : List ℕ). map byte (reverse l)) (sym (take-append-drop k st)) ∙ rw (reverse-append (take k st) (drop k st)) (map-append (reverse (drop k st)) (reverse (take k st)))

before-length : (k : ℕ) (st : List ℕ) → length (map byte (reverse (drop k st))) ≡ length st - k
before-length k st = map-length (reverse (drop k st)) ∙ length-reverse (drop k st) ∙ length-drop k st

module _ (stack st : List ℕ) (sp k : ℕ) (e : take sp stack ≡ map byte (reverse st)) (n : sp ≡ length st) where
  parted : take sp stack ≡ map byte (reverse (drop k st)) ++ map byte (reverse (take k st))
  parted = e ∙ split k st

  pub below : take (sp - k) stack ≡ map byte (reverse (drop k st))
  below =
      let l : length (map byte (reverse (drop k st))) ≡ sp - k = before-length k st ∙ omega (arith, n) in
      sym (take-take (sp - k) sp stack (omega arith)) ∙ ap (take (sp - k)) parted
      ∙ subst (λ (m : ℕ). take m (map byte (reverse (drop k st)) ++ map byte (reverse (take k st))) ≡ map byte (reverse (drop k st))) l
      (take-append_seam (map byte (reverse (drop k st))) (map byte (reverse (take k st))))

  pub above : between (sp - k) sp stack ≡ map byte (reverse (take k st))
  above =
      let l : length (map byte (reverse (drop k st))) ≡ sp - k = before-length k st ∙ omega (arith, n) in
      sym (drop-take (sp - k) sp stack) ∙ ap (drop (sp - k)) parted
      ∙ subst (λ (m : ℕ). drop m (map byte (reverse (drop k st)) ++ map byte (reverse (take k st))) ≡ map byte (reverse (take k st))) l
      (drop-append_seam (map byte (reverse (drop k st))) (map byte (reverse (take k st))))
