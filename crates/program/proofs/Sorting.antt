-- Sorts by rules and by tests: they agree.
use mathlib.Core.Path.{◌≡◌, refl, sym, ◌∙◌}
use mathlib.Core.Bool.{Bool, true, false, not, cond, ◌||◌, or-true, true≢false}
use Prim.Native.Nat.{ℕ}
use borrow.Author.Tests.{not-false}
use Rattle.number.specs.Number.{Operator}
use Rattle.program.specs.Tree.{Expr, operator, sense, rep, branch, mux, nbr, fold_op, fold_def, call, is_field, sort_broken}
use Rattle.program.specs.Sorts.{Sort, a_number, a_field, HasSort, T-nothing, T-constant, T-parameter, T-variable, T-numbers, T-fieldLeft, T-fieldRight, T-sense}
use Rattle.program.specs.Sorts.{T-rep, T-branch, T-mux, T-nbr, T-range, T-lag, T-fold_op, T-fold_def, T-call}
use Rattle.decide.proofs.Picks.{neither, or-fails}

abbrev pub is_it : Sort → Bool
is_it a_number = false
is_it a_field = true

-- an expression's sort decides whether it is a field, so that it has no two sorts
pub field_of : {e : Expr} {k : Sort} → HasSort e k → is_field e ≡ is_it k
unfolding is_field
field_of T-nothing = refl
field_of T-constant = refl
field_of T-parameter = refl
field_of T-variable = refl
field_of (T-numbers h k) = or-fails (field_of h) (field_of k)
field_of (T-fieldLeft h k) = rw (field_of h)
field_of (T-fieldRight {l = l} h k) = rw (field_of k) (or-true (is_field l))
field_of (T-sense h) = refl
field_of (T-rep h k) = refl
field_of (T-branch c h k) = field_of h
field_of (T-mux c h k) = refl
field_of (T-nbr h) = refl
field_of T-range = refl
field_of T-lag = refl
field_of (T-fold_op h k) = refl
field_of (T-fold_def d h k) = refl
field_of (T-call d h k l m) = refl

pub unbroken : {e : Expr} {k : Sort} → HasSort e k → sort_broken e ≡ false
unfolding sort_broken
unbroken T-nothing = refl
unbroken T-constant = refl
unbroken T-parameter = refl
unbroken T-variable = refl
unbroken (T-numbers h k) = refl
unbroken (T-fieldLeft h k) = refl
unbroken (T-fieldRight h k) = refl
unbroken (T-sense h) = field_of h
unbroken (T-rep h k) = or-fails (field_of h) (field_of k)
unbroken (T-branch {k = s} c h k) = rw (field_of c, field_of h, field_of k) (same s)
  where
    same : (s : Sort) → not (cond (is_it s) (is_it s) (not (is_it s))) ≡ false
    same a_number = refl
    same a_field = refl
unbroken (T-mux c h k) = or-fails (or-fails (field_of c) (field_of h)) (field_of k)
unbroken (T-nbr h) = field_of h
unbroken T-range = refl
unbroken T-lag = refl
unbroken (T-fold_op h k) = rw (field_of h, field_of k)
unbroken (T-fold_def d h k) = rw (field_of h, field_of k)
unbroken (T-call d h k l m) = or-fails (or-fails (or-fails (field_of h) (field_of k)) (field_of l)) (field_of m)

-- the other way, node by node: its parts have sorts, and its own test passes
abbrev pub Sorted : Expr → Type 0
Sorted e = (k : Sort) × HasSort e k

pub as_number : (e : Expr) → Sorted e → is_field e ≡ false → HasSort e a_number
as_number e (a_number, h) q = h
as_number e (a_field, h) q = absurd (true≢false (sym (field_of h) ∙ q))

as-field : (e : Expr) → Sorted e → is_field e ≡ true → HasSort e a_field
as-field e (a_number, h) q = absurd (true≢false (sym q ∙ field_of h))
as-field e (a_field, h) q = h

pub sort-operator : (n : ℕ) (o : Operator) {l r : Expr} → Sorted l → Sorted r → Sorted (operator n o l r)
sort-operator n o (a_number, h) (a_number, k) = (a_number, T-numbers h k)
sort-operator n o (a_number, h) (a_field, k) = (a_field, T-fieldRight h k)
sort-operator n o (a_field, h) (s, k) = (a_field, T-fieldLeft h k)

pub sort-branch : {c a b : Expr} → Sorted c → Sorted a → Sorted b → sort_broken (branch c a b) ≡ false → Sorted (branch c a b)
unfolding sort_broken
sort-branch {c} {a} {b} s (j, h) (k, l) q =
    let w = neither (is_field c) _ q in
    go j k h l (as_number c s w.0) (rw (field_of h, field_of l) at w.1)
  where
    go : (j k : Sort) → HasSort a j → HasSort b k → HasSort c a_number → not (cond (is_it j) (is_it k) (not (is_it k))) ≡ false → Sorted (branch c a b)
    go a_number a_number h l s q = (a_number, T-branch s h l)
    go a_field a_field h l s q = (a_field, T-branch s h l)
    go a_number a_field h l s q = absurd (true≢false q)
    go a_field a_number h l s q = absurd (true≢false q)

module _ (i f : Expr) (si : Sorted i) (sf : Sorted f) (q : (is_field i || not (is_field f)) ≡ false) where
  initial-number : HasSort i a_number
  initial-number = as_number i si (neither (is_field i) (not (is_field f)) q).0

  third-field : HasSort f a_field
  third-field = as-field f sf (not-false (is_field f) (neither (is_field i) (not (is_field f)) q).1)

pub sort-sense : {e : Expr} → Sorted e → sort_broken (sense e) ≡ false → Sorted (sense e)
unfolding sort_broken
sort-sense s q = (a_number, T-sense (as_number _ s q))

pub sort-nbr : (i : ℕ) {e : Expr} → Sorted e → sort_broken (nbr i e) ≡ false → Sorted (nbr i e)
unfolding sort_broken
sort-nbr i s q = (a_field, T-nbr (as_number _ s q))

pub sort-rep : (v : ℕ) {i u : Expr} → Sorted i → Sorted u → sort_broken (rep v i u) ≡ false → Sorted (rep v i u)
unfolding sort_broken
sort-rep v {i} {u} s t q = let w = neither (is_field i) (is_field u) q in (a_number, T-rep (as_number i s w.0) (as_number u t w.1))

pub sort-mux : {c a b : Expr} → Sorted c → Sorted a → Sorted b → sort_broken (mux c a b) ≡ false → Sorted (mux c a b)
unfolding sort_broken
sort-mux {c} {a} {b} s t u q =
    let w = neither (is_field c || is_field a) (is_field b) q in
    let x = neither (is_field c) (is_field a) w.0 in
    (a_number, T-mux (as_number c s x.0) (as_number a t x.1) (as_number b u w.1))

pub sort-fold_op : (n : ℕ) (o : Operator) {i f : Expr} → Sorted i → Sorted f → sort_broken (fold_op n o i f) ≡ false → Sorted (fold_op n o i f)
unfolding sort_broken
sort-fold_op n o {i} {f} s t q = (a_number, T-fold_op (initial-number i f s t q) (third-field i f s t q))

pub sort-fold_def : {d i f : Expr} → HasSort d a_number → Sorted i → Sorted f → sort_broken (fold_def d i f) ≡ false → Sorted (fold_def d i f)
unfolding sort_broken
sort-fold_def {d} {i} {f} h s t q = (a_number, T-fold_def h (initial-number i f s t q) (third-field i f s t q))

pub sort-call : {d a b c e : Expr} → HasSort d a_number → Sorted a → Sorted b → Sorted c → Sorted e
    → sort_broken (call d a b c e) ≡ false → Sorted (call d a b c e)
unfolding sort_broken
sort-call {d} {a} {b} {c} {e} h s t u v q =
    let w = neither (is_field a || is_field b || is_field c) (is_field e) q in
    let x = neither (is_field a || is_field b) (is_field c) w.0 in
    let y = neither (is_field a) (is_field b) x.0 in
    (a_number, T-call h (as_number a s y.0) (as_number b t y.1) (as_number c u x.1) (as_number e v w.1))
