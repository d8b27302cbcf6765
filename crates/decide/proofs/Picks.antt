-- A test, what it picks, and what tests joined by and, or and not tell. Assumes nothing.
use mathlib.Core.Path.{◌≡◌, refl, sym, ◌∙◌}
use mathlib.Core.Logic.{◌⊎◌, inl, inr}
use mathlib.Core.Bool.{Bool, true, false, not, cond, ◌&&◌, ◌||◌, true≢false}
use borrow.Author.Tests.{not-true, not-false}

-- ---- what a test picks

module _ {A : Type 0} where
  pub on_true : {b : Bool} {r x : A} (y : A) → b ≡ true → r ≡ x → r ≡ cond b x y
  on_true y e h = rw e h

  pub on_false : {b : Bool} {r y : A} (x : A) → b ≡ false → r ≡ y → r ≡ cond b x y
  on_false x e h = rw e h

  pub cond_yes : {b : Bool} (x y : A) → b ≡ true → cond b x y ≡ x
  cond_yes x y e = rw e

  pub cond_no : {b : Bool} (x y : A) → b ≡ false → cond b x y ≡ y
  cond_no x y e = rw e

-- ---- one test

pub known : (a : Bool) → (a ≡ true) ⊎ (a ≡ false)
known true = inl refl
known false = inr refl

pub never : {a : Bool} → a ≡ true → a ≡ false → ⊥
never p q = true≢false (sym p ∙ q)

pub not-both : {A : Type 0} → true ≡ false → A
not-both q = absurd (true≢false q)

-- ---- and

pub both : (a b : Bool) → (a && b) ≡ true → (a ≡ true) × (b ≡ true)
both true b q = (refl, q)
both false b q = absurd (true≢false (sym q))

-- an and fails where its second side does, should the first hold
pub and-fails : (a b : Bool) → (a ≡ true → b ≡ false) → (a && b) ≡ false
and-fails true b f = f refl
and-fails false b f = refl

pub and_second : (a b : Bool) → (a && b) ≡ false → a ≡ true → b ≡ false
and_second true b q p = q
and_second false b q p = absurd (true≢false (sym p))

-- ---- or

pub neither : (a b : Bool) → (a || b) ≡ false → (a ≡ false) × (b ≡ false)
neither true b q = absurd (true≢false q)
neither false b q = (refl, q)

pub or-fails : {a b : Bool} → a ≡ false → b ≡ false → (a || b) ≡ false
or-fails p q = rw (p, q)

pub one_of : (a b : Bool) → (a || b) ≡ true → (a ≡ true) ⊎ (b ≡ true)
one_of true b q = inl refl
one_of false b q = inr q

pub by_first : {a : Bool} (b : Bool) → a ≡ true → (a || b) ≡ true
by_first b p = rw p

pub by-rest : (a : Bool) {b : Bool} → b ≡ true → (a || b) ≡ true
by-rest true p = refl
by-rest false p = p

pub or_right : {r y : Bool} (t : Bool) → t ≡ false → r ≡ y → r ≡ t || y
or_right t e h = rw e h

-- ---- what a call said, with `!` before it

pub said-no : {r t : Bool} → r ≡ t → not r ≡ true → t ≡ false
said-no {r} e q = sym e ∙ not-true r q

pub said-yes : {r t : Bool} → r ≡ t → not r ≡ false → t ≡ true
said-yes {r} e q = sym e ∙ not-false r q

-- ---- a test that holds where another does

pub implied : (a b : Bool) → a ≡ true → (not a || b) ≡ true → b ≡ true
implied true b p q = q
implied false b p q = not-both (sym p)
