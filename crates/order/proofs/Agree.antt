-- Whether one list is an order of another in which clashing events keep their order, by computation: it says yes exactly then, where clashing does not depend on which
-- of the two is named first.
use mathlib.Core.Path.{◌≡◌, refl, sym, ap, ◌∙◌}
use mathlib.Core.Logic.{◌↔◌, ◌⊎◌, inl, inr, ite, if_pos, if_neg}
use mathlib.Core.HLevel.{Discrete}
use mathlib.Core.List.{List, [], ◌∷◌, ◌++◌}
use mathlib.Core.Option.{Option, none, some}
use mathlib.Core.Bool.{Bool, true, false, cond, ◌||◌, true≢false}
use Prim.Native.Nat.{ℕ, zero, suc, ◌≤◌, ◌<◌, suc-le-suc}
use native.Mathlib.Nat.{le_of_suc-le-suc}
use native.Mathlib.Decide.{dec_lt, ℕ_discrete}
use native.Mathlib.Omega.{arith}
use lib.ListN.{length}
use lib.Dec.{eqb}
use Rattle.order.specs.Order.{count, place, SameEvents, KeepsOrder}
use Rattle.order.proofs.Alike.{lift, lift-lt, later, place-more, count-more, count-self, Split, split, first-at, count-tail, no-events, rest-same, rest-order, clear}

module _ {Event : Type 0} (same : Discrete Event) (clash : Event → Event → Bool) where
  abbrev pub put_back : Event → Option (List Event) → Option (List Event)
  put_back x none = none
  put_back x (some r) = some (x ∷ r)

  -- the list without its first e; none where there is none, or where one that stands before it clashes with e
  abbrev pub taken : Event → List Event → Option (List Event)
  taken e [] = none
  taken e (x ∷ m) = ite {C = Option (List Event)} (same e x) (some m) (cond (clash e x) none (put_back x (taken e m)))

  abbrev pub on_taken : Option (List Event) → (List Event → Bool) → Bool
  on_taken none k = false
  on_taken (some r) k = k r

  -- each event of the first list taken from the second in turn, until both are empty
  abbrev pub agree : List Event → List Event → Bool
  agree [] [] = true
  agree [] (y ∷ m) = false
  agree (e ∷ l) m = on_taken (taken e m) (λ r. agree l r)

  -- what `taken` found: m is a, e and b, where a has no e and nothing that clashes with it
  record Lifted (e : Event) (m r : List Event) : Type 0 where
    pub a : List Event
    pub b : List Event
    pub is : m ≡ a ++ e ∷ b
    pub rest : r ≡ a ++ b
    pub none_before : count same e a ≡ 0
    pub clear-before : (f : Event) → 0 < count same f a → clash e f ≡ false

  taken-some : (e : Event) (m r : List Event) → taken e m ≡ some r → Lifted e m r
  taken-some e [] r q = let z : ◌≡◌ {A = ℕ} 0 1 = cc in absurd (omega arith)
  taken-some e (x ∷ m) r q = go (same e x) (clash e x) (taken e m) refl refl q (λ t h. taken-some e m t h)
    where
      go : (d : Dec (e ≡ x)) (c : Bool) (o : Option (List Event)) → clash e x ≡ c → taken e m ≡ o
          → ite {C = Option (List Event)} d (some m) (cond c none (put_back x o)) ≡ some r
          → ((t : List Event) → taken e m ≡ some t → Lifted e m t) → Lifted e (x ∷ m) r
      go (yes p) c o hc ho q ih = record { a = []; b = m; is = rw p refl; rest = cc; none_before = refl; clear-before = λ f h. absurd (omega arith) }
      go (no n) true o hc ho q ih = let z : ◌≡◌ {A = ℕ} 0 1 = cc in absurd (omega arith)
      go (no n) false none hc ho q ih = let z : ◌≡◌ {A = ℕ} 0 1 = cc in absurd (omega arith)
      go (no n) false (some t) hc ho q ih =
          let w = ih t ho in
          let s : r ≡ x ∷ t = cc in
          record {
            a = x ∷ w.a;
            b = w.b;
            is = ap (x ∷◌) w.is;
            rest = s ∙ ap (x ∷◌) w.rest;
            none_before = if_neg (same e x) n _ _ ∙ w.none_before;
            clear-before = λ f h. by f (same f x) h (w.clear-before f);
          }
        where
          by : (f : Event) (d : Dec (f ≡ x)) → {k : ℕ} → 0 < ite d (suc k) k → (0 < k → clash e f ≡ false) → clash e f ≡ false
          by f (yes p) h g = rw p hc
          by f (no _) h g = g h

  taken-first : (e : Event) (a b : List Event) → count same e a ≡ 0 → ((f : Event) → 0 < count same f a → clash e f ≡ false) → taken e (a ++ e ∷ b) ≡ some (a ++ b)
  taken-first e [] b z c = if_pos (same e e) refl _ _
  taken-first e (x ∷ a) b z c = go (same e x) z (taken-first e a b)
    where
      go : (d : Dec (e ≡ x)) → ite d (suc (count same e a)) (count same e a) ≡ 0
          → (count same e a ≡ 0 → ((f : Event) → 0 < count same f a → clash e f ≡ false) → taken e (a ++ e ∷ b) ≡ some (a ++ b))
          → ite {C = Option (List Event)} d (some (a ++ e ∷ b)) (cond (clash e x) none (put_back x (taken e (a ++ e ∷ b)))) ≡ some (x ∷ a ++ b)
      go (yes _) z ih = absurd (omega arith)
      go (no _) z ih = rw (c x (rw (count-self same x a) (omega arith)), ih z (λ f h. c f (count-tail same f x a h)))

  -- a copy of f in a list with one more e in front: that e, or one of the others
  copy_of : (e f : Event) (i c : ℕ) (d : Dec (f ≡ e)) → i < ite d (suc c) c → ((f ≡ e) × (i ≡ 0)) ⊎ ((k : ℕ) × (i ≡ ite d (suc k) k) × (k < c))
  copy_of e f zero c (yes p) h = inl (p, refl)
  copy_of e f (suc i) c (yes p) h = inr (i, refl, omega arith)
  copy_of e f i c (no _) h = inr (i, refl, h)

  -- an event that stands before the end of a is in a
  in-front : (g : Event) (k : ℕ) (a b : List Event) → place same g k (a ++ b) < length a → 0 < count same g a
  in-front g k [] b h = absurd (omega arith)
  in-front g zero (x ∷ a) b h = go (same g x) h (in-front g zero a b)
    where
      go : (d : Dec (g ≡ x)) → ite d 0 (suc (place same g 0 (a ++ b))) < suc (length a) → (place same g 0 (a ++ b) < length a → 0 < count same g a)
          → 0 < ite d (suc (count same g a)) (count same g a)
      go (yes _) h ih = omega arith
      go (no _) h ih = ih (omega arith)
  in-front g (suc k) (x ∷ a) b h = go (same g x) h (in-front g (suc k) a b)
    where
      go : (d : Dec (g ≡ x)) → suc (ite d (place same g k (a ++ b)) (place same g (suc k) (a ++ b))) < suc (length a)
          → (place same g (suc k) (a ++ b) < length a → 0 < count same g a) → 0 < ite d (suc (count same g a)) (count same g a)
      go (yes _) h ih = omega arith
      go (no _) h ih = ih (omega arith)

  lift-past : (m p : ℕ) → m ≤ p → m < lift m p
  lift-past zero p h = omega arith
  lift-past (suc m) zero h = absurd (omega arith)
  lift-past (suc m) (suc p) h = suc-le-suc (lift-past m p (omega arith))

  lift-before : (m p : ℕ) → lift m p < m → p < m
  lift-before zero p h = absurd (omega arith)
  lift-before (suc m) zero h = omega arith
  lift-before (suc m) (suc p) h = suc-le-suc (lift-before m p (le_of_suc-le-suc h))

  module _ (symmetric : (e f : Event) → clash e f ≡ clash f e) where
    module _ (e : Event) (l a b : List Event) (z : count same e a ≡ 0) (clear-a : (f : Event) → 0 < count same f a → clash e f ≡ false) where
      longer-same : SameEvents same l (a ++ b) → SameEvents same (e ∷ l) (a ++ e ∷ b)
      longer-same s f = ap (later same e f) (s f) ∙ sym (count-more same e f a b)

      not-before : (g : Event) (k : ℕ) → clash e g ≡ true → length a ≤ place same g k (a ++ b)
      not-before g k c = go (dec_lt (place same g k (a ++ b)) (length a))
        where
          go : Dec (place same g k (a ++ b) < length a) → length a ≤ place same g k (a ++ b)
          go (yes h) = absurd (true≢false (sym c ∙ clear-a g (in-front g k a b h)))
          go (no h) = omega arith

      longer-order : KeepsOrder same clash l (a ++ b) → KeepsOrder same clash (e ∷ l) (a ++ e ∷ b)
      longer-order o f g c i j hi hj = go (copy_of e f i (count same f l) (same f e) hi) (copy_of e g j (count same g l) (same g e) hj)
        where
          go : ((f ≡ e) × (i ≡ 0)) ⊎ ((k : ℕ) × (i ≡ later same e f k) × (k < count same f l))
              → ((g ≡ e) × (j ≡ 0)) ⊎ ((k : ℕ) × (j ≡ later same e g k) × (k < count same g l))
              → (place same f i (e ∷ l) < place same g j (e ∷ l)) ↔ (place same f i (a ++ e ∷ b) < place same g j (a ++ e ∷ b))
          go (inl (p, q)) (inl (r, s)) = rw (p, q, r, s) (λ h. absurd (omega arith), λ h. absurd (omega arith))
          go (inl (p, q)) (inr (k, s, h)) =
              let ce : clash e g ≡ true = rw p at c in
              rw (p, q, s, first-at same e [] l refl, place-more same e g k [] l refl, first-at same e a b z, place-more same e g k a b z)
              (λ _. lift-past (length a) _ (not-before g k ce), λ _. omega arith)
          go (inr (k, q, h)) (inl (r, s)) =
              let ce : clash e f ≡ true = symmetric e f ∙ (rw r at c) in
              rw (q, r, s, first-at same e [] l refl, place-more same e f k [] l refl, first-at same e a b z, place-more same e f k a b z)
              (λ x. absurd (omega arith), λ x. absurd (omega (arith, not-before f k ce, lift-before (length a) (place same f k (a ++ b)) x)))
          go (inr (k, q, h)) (inr (n, s, t)) =
              rw (q, s, place-more same e f k [] l refl, place-more same e g n [] l refl, place-more same e f k a b z, place-more same e g n a b z)
              (λ x. (lift-lt (length a) _ _).0 ((o f g c k n h t).0 (le_of_suc-le-suc x)), λ x. suc-le-suc ((o f g c k n h t).1 ((lift-lt (length a) _ _).1 x)))

    pub agree-sound : (l m : List Event) → agree l m ≡ true → SameEvents same l m × KeepsOrder same clash l m
    agree-sound [] [] q = (λ e. refl, λ e f c i j h k. absurd (omega arith))
    agree-sound [] (y ∷ m) q = absurd (true≢false (sym q))
    agree-sound (e ∷ l) m q = go (taken e m) refl q (agree-sound l)
      where
        go : (o : Option (List Event)) → taken e m ≡ o → on_taken o (λ r. agree l r) ≡ true
            → ((m : List Event) → agree l m ≡ true → SameEvents same l m × KeepsOrder same clash l m) → SameEvents same (e ∷ l) m × KeepsOrder same clash (e ∷ l) m
        go none h q ih = absurd (true≢false (sym q))
        go (some r) h q ih =
            let w = taken-some e m r h in
            let k = rw w.rest at (ih r q) in
            rw w.is (
              longer-same e l w.a w.b w.none_before w.clear-before k.0,
              longer-order e l w.a w.b w.none_before w.clear-before k.1,
            )

    pub agree-complete : (l m : List Event) → SameEvents same l m → KeepsOrder same clash l m → agree l m ≡ true
    unfolding Split
    agree-complete [] m s o = rw (← (no-events same m s)) refl
    agree-complete (e ∷ l) m s o = go (split same e m (rw (← (s e), count-self same e l) (omega arith))) (agree-complete l)
      where
        go : Split same e m → ((m : List Event) → SameEvents same l m → KeepsOrder same clash l m → agree l m ≡ true) → agree (e ∷ l) m ≡ true
        go (a, b, q, z) ih =
            let s' : SameEvents same (e ∷ l) (a ++ e ∷ b) = rw q at s in
            let o' : KeepsOrder same clash (e ∷ l) (a ++ e ∷ b) = rw q at o in
            rw (q, taken-first e a b z (clear same clash e l a b z s' o'))
            (ih (a ++ b) (rest-same same clash e l a b z s' o') (rest-order same clash e l a b z s' o'))

-- at examples, where those with the event 9 clash: two that do not are exchanged between two with which both clash; one is moved past such a one; a copy more, a copy less
abbrev with-9 : ℕ → ℕ → Bool
with-9 e f = eqb e 9 || eqb f 9

pub decided : (agree ℕ_discrete with-9 (9 ∷ 7 ∷ 8 ∷ 9 ∷ []) (9 ∷ 8 ∷ 7 ∷ 9 ∷ []) ≡ true) × (agree ℕ_discrete with-9 (9 ∷ 7 ∷ 8 ∷ 9 ∷ []) (9 ∷ 8 ∷ 9 ∷ 7 ∷ []) ≡ false)
    × (agree ℕ_discrete with-9 (7 ∷ 9 ∷ []) (7 ∷ 9 ∷ 7 ∷ []) ≡ false) × (agree ℕ_discrete with-9 (7 ∷ 9 ∷ 7 ∷ []) (7 ∷ 9 ∷ []) ≡ false)
unfolding ℕ_discrete
decided = (refl, refl, refl, refl)
