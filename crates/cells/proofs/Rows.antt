-- Rows read of a list of cells, before and after a store; rows stored one after another, one in another; rows joined. Assumes nothing.
use mathlib.Core.Path.{◌≡◌, refl, sym, ap, ◌∙◌}
use mathlib.Core.List.{List, [], ◌∷◌, ◌++◌, append_assoc, append-nil}
use Prim.Native.Nat.{ℕ, zero, suc, ◌+◌, ◌*◌, ◌<◌, ◌≤◌}
use native.Mathlib.Nat.{zero-add, suc-add, add-zero, mul-zero, mul-suc}
use native.Mathlib.Omega.{arith}
use native.Mathlib.Numerals.{add-one}
use lib.ListN.{length, get_or, drop, length-append, length-take, length-drop}
use lib.Seq.{ext_get_or, get_or-take, get_or-drop, length-take-le, take_all, take-append-le, drop-append-add, take-add, drop-drop}
use Rattle.field.specs.Field.{from}
use Rattle.network.specs.Cells.{row, store, write}
use Rattle.network.proofs.Stores.{length-store, nothing_yet, store-on, store_out}
use Rattle.round.specs.Round.{joined}

module _ {A : Type 0} where
  pub row-length : (l : List A) (lo len : ℕ) → lo + len ≤ length l → length (row l lo len) ≡ len
  row-length l lo len h = length-take-le len (drop lo l) (simp length-drop (omega arith))

  -- to store what is there
  pub store-row : (l : List A) (lo len : ℕ) → store l lo (row l lo len) ≡ l
  store-row [] lo len = refl
  store-row (x ∷ l) zero zero = refl
  store-row (x ∷ l) zero (suc len) = ap (x ∷◌) (store-row l zero len)
  store-row (x ∷ l) (suc lo) len = ap (x ∷◌) (store-row l lo len)

  pub row_first : (l : List A) (lo len : ℕ) (d : A) → 1 ≤ len → get_or (row l lo len) 0 d ≡ get_or l lo d
  row_first l lo len d h = simp (get_or-take, get_or-drop) (rw (add-zero lo))

  -- a row apart from what is stored
  pub row_out : (l : List A) (lo : ℕ) (vs : List A) (p k : ℕ) (d : A) → ((c : ℕ) → p ≤ c → c < p + k → lo ≤ c → c < lo + length vs → ⊥)
      → row (store l lo vs) p k ≡ row l p k
  row_out l lo vs p k d h =
      ext_get_or d (row (store l lo vs) p k) (row l p k) (simp (length-take, length-drop, length-store))
      (λ i b. let g : i < k = omega (arith, simp (length-take, length-drop) at b) in
      simp (get_or-take, get_or-drop) (store_out l lo vs (p + i) d (λ x y. h (p + i) (omega arith) (omega arith) x y)))

  store_in : (l : List A) (lo : ℕ) (vs : List A) (j : ℕ) (d : A) → j < length vs → lo + j < length l → get_or (store l lo vs) (lo + j) d ≡ get_or vs j d
  store_in [] lo vs j d h g = absurd (omega arith)
  store_in (x ∷ l) zero [] j d h g = absurd (omega arith)
  store_in (x ∷ l) zero (v ∷ vs) zero d h g = refl
  store_in (x ∷ l) zero (v ∷ vs) (suc j) d h g = rw (zero-add (suc j)) (rw (zero-add j) at (store_in l zero vs j d (omega arith) (omega arith)))
  store_in (x ∷ l) (suc lo) vs j d h g = rw (suc-add lo j) (store_in l lo vs j d h (omega arith))

  -- a row of what is stored
  pub row_in : (l : List A) (lo : ℕ) (vs : List A) (j k : ℕ) (d : A) → j + k ≤ length vs → lo + length vs ≤ length l → row (store l lo vs) (lo + j) k ≡ row vs j k
  row_in l lo vs j k d h g =
      ext_get_or d (row (store l lo vs) (lo + j) k) (row vs j k) (row-length (store l lo vs) (lo + j) k (simp length-store (omega arith)) ∙ rw (row-length vs j k h))
      (λ i b. let e : i < k = omega (arith, simp (length-take, length-drop) at b) in
      let f : lo + j + i ≡ lo + (j + i) = omega arith in
      simp (get_or-take, get_or-drop) (rw f (store_in l lo vs (j + i) d (omega arith) (omega arith))))

  -- what a loop has made of l: vs stands from `at` on
  pub record Stored (l : List A) (at : ℕ) (vs net : List A) : Type 0 where
    pub is : net ≡ store l at vs

  pub none_yet : (l : List A) (at : ℕ) → Stored l at [] l
  none_yet l at = record { is = nothing_yet l at }

  -- a loop that stores row after row
  pub row_more : {l net vs : List A} {at : ℕ} (k : ℕ) (ws : List A) → length vs ≡ k → Stored l at vs net → Stored l at (vs ++ ws) (store net (at + k) ws)
  row_more {l} {net} {vs} {at} k ws e h = record { is = rw h.is (store-on l at (at + k) vs ws (omega arith)) }

  -- to store a row into which another was stored is to store the other in its place
  store-into : (l b : List A) (lo k : ℕ) (vs : List A) → k + length vs ≤ length b → store l lo (store b k vs) ≡ store (store l lo b) (lo + k) vs
  store-into [] b lo k vs h = refl
  store-into (x ∷ l) b (suc lo) k vs h = rw (suc-add lo k) (ap (x ∷◌) (store-into l b lo k vs h))
  store-into (x ∷ l) [] zero zero [] h = refl
  store-into (x ∷ l) [] zero zero (v ∷ vs) h = absurd (omega arith)
  store-into (x ∷ l) [] zero (suc k) vs h = absurd (omega arith)
  store-into (x ∷ l) (y ∷ b) zero zero [] h = refl
  store-into (x ∷ l) (y ∷ b) zero zero (v ∷ vs) h = ap (v ∷◌) (store-into l b zero zero vs (omega arith))
  store-into (x ∷ l) (y ∷ b) zero (suc k) vs h = rw (zero-add (suc k)) (ap (y ∷◌) (rw (zero-add k) at (store-into l b zero k vs (omega arith))))

  -- the same of several rows: each of them has its place in b
  abbrev pub Inside : ℕ → List (ℕ × List A) → Type 0
  Inside m [] = Unit {0}
  Inside m (w ∷ ws) = (w.0 + length w.1 ≤ m) × Inside m ws

  abbrev pub moved : ℕ → List (ℕ × List A) → List (ℕ × List A)
  moved lo [] = []
  moved lo (w ∷ ws) = (lo + w.0, w.1) ∷ moved lo ws

  pub write-into : (l b : List A) (lo : ℕ) (ws : List (ℕ × List A)) → Inside (length b) ws → store l lo (write b ws) ≡ write (store l lo b) (moved lo ws)
  write-into l b lo [] h = refl
  write-into l b lo (w ∷ ws) h =
      write-into l (store b w.0 w.1) lo ws (rw (length-store b w.0 w.1) h.1) ∙ ap (λ (m : List A). write m (moved lo ws)) (store-into l b lo w.0 w.1 h.0)

  -- rows of m cells joined: how many cells they have, and each of them
  pub joined_length : (f : ℕ → List A) (m a k : ℕ) → ((j : ℕ) → j < k → length (f (a + j)) ≡ m) → length (joined (from a k f)) ≡ m * k
  unfolding joined from
  joined_length f m a zero h = rw (mul-zero m)
  joined_length f m a (suc k) h =
      let e : length (f a) ≡ m = rw (add-zero a) at (h zero (omega arith)) in
      let g = joined_length f m (suc a) k (λ j l. let x : suc a + j ≡ a + suc j = omega arith in rw x (h (suc j) (omega arith))) in
      length-append (f a) (joined (from (suc a) k f)) ∙ rw (e, g, mul-suc m k) (omega arith)

  pub joined-row : (f : ℕ → List A) (m a k j : ℕ) → ((b : ℕ) → length (f b) ≡ m) → j < k → row (joined (from a k f)) (m * j) m ≡ f (a + j)
  unfolding joined from
  joined-row f m a zero j h l = absurd (omega arith)
  joined-row f m a (suc k) zero h l = rw (mul-zero m, add-zero a) (take-append-le m (f a) (joined (from (suc a) k f)) (omega (arith, h a)) ∙ take_all m (f a) (omega (arith, h a)))
  joined-row f m a (suc k) (suc j) h l =
      let e : m * suc j ≡ length (f a) + m * j = rw (mul-suc m j) (omega (arith, h a)) in
      let g : suc a + j ≡ a + suc j = omega arith in
      rw (e, drop-append-add (f a) (joined (from (suc a) k f)) (m * j), ← g) (joined-row f m (suc a) k j h (omega arith))

  -- rows joined: one more
  pub joined-more : (f : ℕ → List A) (a k : ℕ) → joined (from a (k + 1) f) ≡ joined (from a k f) ++ f (a + k)
  unfolding joined from
  joined-more f a k = rw (add-one k) (go k a)
    where
      go : (k a : ℕ) → joined (from a (suc k) f) ≡ joined (from a k f) ++ f (a + k)
      go zero a = append-nil (f a) ∙ rw (add-zero a)
      go (suc k) a =
          let e : suc a + k ≡ a + suc k = omega arith in
          ap (f a ++◌) (go k (suc a)) ∙ (sym (append_assoc (f a) (joined (from (suc a) k f)) (f (suc a + k))) ∙ ap (λ (i : ℕ). (f a ++ joined (from (suc a) k f)) ++ f i) e)

  -- rows that stand one behind the other in a list: joined they are what stands there
  pub joined-rows : (n : List A) (f : ℕ → List A) (m a k lo : ℕ) → ((j : ℕ) → j < k → f (a + j) ≡ row n (lo + m * j) m) → joined (from a k f) ≡ row n lo (m * k)
  unfolding joined from
  joined-rows n f m a zero lo h = rw (mul-zero m)
  joined-rows n f m a (suc k) lo h =
      let e : m * suc k ≡ m + m * k = rw (mul-suc m k) (omega arith) in
      let g : f a ≡ row n lo m = rw (add-zero a, mul-zero m, add-zero lo) at (h zero (omega arith)) in
      rw (e, take-add m (m * k) (drop lo n), drop-drop m lo n, g)
      (ap (row n lo m ++◌) (joined-rows n f m (suc a) k (lo + m) (λ j l.
      let x : suc a + j ≡ a + suc j = omega arith in
      let y : lo + m + m * j ≡ lo + m * suc j = rw (mul-suc m j) (omega arith) in
      rw (x, y) (h (suc j) (omega arith)))))
