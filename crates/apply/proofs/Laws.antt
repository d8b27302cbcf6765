-- The evaluator's cells as a state, and an operand's outcome taken apart by its fault. Assumes nothing.
use mathlib.Core.Path.{◌≡◌, refl, sym, ap, ap₂, ◌∙◌}
use mathlib.Core.Bool.{true, false}
use mathlib.Core.Logic.{◌⊎◌, inl, inr}
use mathlib.Core.List.{List}
use Prim.Native.Nat.{ℕ, ◌+◌, ◌<◌}
use native.Mathlib.Omega.{arith}
use lib.ListN.{get_or, set, drop}
use lib.Seq.{take-set-le, take-set-lt, drop-set-lt, drop-set-add, get_or-take, get_or-set_other}
use lib.IntN.{ℤ, pos}
use mir.Syntax.{w32}
use mir.Val.{SFits, of_z, to_z}
use mir.ValLaws.{to_z-of_z}
use mir.Facts.{sfits_lit}
use Rattle.number.specs.Number.{Operator, operation_result, faults}
use Rattle.field.specs.Field.{Field, pointwise, faults_in}
use Rattle.round.specs.Round.{State, Value, number, field, Outcome, done, fault, then_value, field_of, stored, sending, operated, on_numbers, on_fields}
use Rattle.apply.specs.State.{sent_at, fault_at, state_of, fault_of, LeftBy}
use Rattle.arith.proofs.Signs.{same_bits, is_zero, not_zero}
use Rattle.domain.proofs.Fields.{faultless_operator}

-- ---- a cell stored
module _ (st : List ℤ) where
  pub state-stored : (v : ℕ) (z : ℤ) → v < 16 → state_of (set st v z) ≡ stored v z (state_of st)
  unfolding state_of
  state-stored v z h = rw (take-set-lt 16 st v z h, drop-set-lt 16 st v z h)

  pub state-sending : (i : ℕ) (z : ℤ) → i < 16 → state_of (set st (sent_at + i) z) ≡ sending i z (state_of st)
  unfolding state_of
  state-sending i z h = rw (take-set-le sent_at st (sent_at + i) z (omega arith), drop-set-add sent_at st i z, take-set-lt 16 (drop sent_at st) i z h)

  pub state-variable : (v : ℕ) → v < 16 → get_or (state_of st).variables v (pos 0) ≡ get_or st v (pos 0)
  unfolding state_of
  state-variable v h = get_or-take 16 st v (pos 0) h

  pub fault-kept : (k : ℕ) (z : ℤ) → k < fault_at → fault_of (set st k z) ≡ fault_of st
  fault-kept k z h = get_or-set_other st k fault_at z (pos 0) (λ q. not k h q)
    where
      not : (k : ℕ) → k < fault_at → fault_at ≡ k → ⊥
      not k h q = omega arith

-- ---- after an operand
pub one_more : (n : ℕ) → pos (n + 1) ≡ pos 0 → ⊥
one_more n e = let q : n + 1 ≡ 0 = cc in omega arith

pub came : {o : Outcome} {v : Value} {st : List ℤ} → LeftBy o v st → fault_of st ≡ pos 0 → o ≡ done v (state_of st)
came {o = done w s} g z = ap₂ done g.left.0 (sym g.left.1)
came {o = fault n} g z = absurd (one_more n (sym g.left ∙ z))

pub clear : (st : List ℤ) → SFits w32 (fault_of st) → of_z w32 (fault_of st) ≡ 0 → fault_of st ≡ pos 0
clear st f z = same_bits w32 (fault_of st) (pos 0) f (sfits_lit tt) z

-- there is no fault, and it goes on
pub goes : {o : Outcome} {v : Value} {st : List ℤ} (k : Value → State → Outcome) → LeftBy o v st → SFits w32 (fault_of st) → of_z w32 (fault_of st) ≡ 0
    → then_value o k ≡ k v (state_of st)
goes {st = st} k g f z = ap (λ (p : Outcome). then_value p k) (came g (clear st f z))

-- there is one, and that is the outcome
pub fails : {o : Outcome} {v : Value} {st : List ℤ} (k : Value → State → Outcome) (w : Value) → LeftBy o v st → (of_z w32 (fault_of st) ≡ 0 → ⊥) → LeftBy (then_value o k) w st
fails {o = done u s} k w g z = absurd (z (ap (of_z w32) g.left.2))
fails {o = fault n} k w g z = record { left = g.left }

pub gives : {d e : Outcome} {v : Value} {st : List ℤ} → d ≡ e → LeftBy e v st → LeftBy d v st
gives q g = rw q g

-- a number that comes back is read again
pub passed : {e : Outcome} {v : ℤ} {st : List ℤ} → SFits w32 v → LeftBy e (number v) st → LeftBy e (number (to_z w32 (of_z w32 v))) st
passed {v = v} f g = rw (to_z-of_z w32 v f) g

pub gave : {v w : Value} {s : State} {st : List ℤ} → v ≡ w → state_of st ≡ s → fault_of st ≡ pos 0 → LeftBy (done v s) w st
gave p q z = record { left = (p, q, z) }

-- ---- an operator's sides
pub on-fields : (n : ℕ) (o : Operator) (v w : Value) {f g : Field} (s : State) → field_of v ≡ f → field_of w ≡ g → (v ≡ field f) ⊎ (w ≡ field g)
    → operated n o v w s ≡ on_fields n o f g s
unfolding operated
on-fields n o (number x) (number y) s p q (inl e) = cc
on-fields n o (number x) (number y) s p q (inr e) = cc
on-fields n o (number x) (field g) s p q t = rw (p, q)
on-fields n o (field f) (number y) s p q t = rw (p, q)
on-fields n o (field f) (field g) s p q t = rw (p, q)

pub on-numbers : (n : ℕ) (o : Operator) (x y : ℤ) (s : State) → operated n o (number x) (number y) s ≡ on_numbers n o x y s
unfolding operated
on-numbers n o x y s = refl

-- ---- an operator, by whether it divides by 0
module _ (n : ℕ) (o : Operator) where
  pub numbers-faulted : (x y : ℤ) (s : State) → faults o y ≡ true → on_numbers n o x y s ≡ fault n
  numbers-faulted x y s e = rw e

  pub numbers_fault : (x y : ℤ) (s : State) (w : Value) (st : List ℤ) → faults o y ≡ true → fault_of st ≡ pos (n + 1) → LeftBy (on_numbers n o x y s) w st
  numbers_fault x y s w st e f = rw e record { left = f }

  pub numbers_give : (x y r : ℤ) (st : List ℤ) → faults o y ≡ false → r ≡ operation_result o x y → fault_of st ≡ pos 0 → LeftBy (on_numbers n o x y (state_of st)) (number r) st
  numbers_give x y r st e q z = rw e (gave (ap number (sym q)) refl z)

  pub fields_fault : (f g : Field) (s : State) (w : Value) (st : List ℤ) → faults_in o f g ≡ true → fault_of st ≡ pos (n + 1) → LeftBy (on_fields n o f g s) w st
  fields_fault f g s w st e h = rw e record { left = h }

  pub fields_give : (f g h : Field) (st : List ℤ) → faults_in o f g ≡ false → h ≡ pointwise o f g → fault_of st ≡ pos 0 → LeftBy (on_fields n o f g (state_of st)) (field h) st
  fields_give f g h st e q z = rw e (gave (ap field (sym q)) refl z)

-- what `grind` is told of them
pub ruleset outcomes = (to_z-of_z, is_zero, not_zero, faultless_operator, numbers_fault, numbers_give, fields_fault, fields_give)

-- numbers that were passed on
pub numbers-read : (n : ℕ) (o : Operator) (s : State) {w : Value} {r : List ℤ} (x y : ℤ) → SFits w32 x → SFits w32 y
    → LeftBy (on_numbers n o (to_z w32 (of_z w32 x)) (to_z w32 (of_z w32 y)) s) w r → LeftBy (on_numbers n o x y s) w r
numbers-read n o s x y f g h = rw (to_z-of_z w32 x f, to_z-of_z w32 y g) at h

-- ---- a node that stores a variable, or sends a slot
module _ (st : List ℤ) (i : ℕ) {x z : ℤ} (h : i < 16) (e : z ≡ x) (c : fault_of st ≡ pos 0) where
  pub stores : LeftBy (done (number x) (stored i x (state_of st))) (number z) (set st i z)
  stores = rw (← e) (gave refl (state-stored st i z h) (fault-kept st i z (omega arith) ∙ c))

  pub sends : {f g : Field} → f ≡ g → LeftBy (done (field f) (sending i x (state_of st))) (field g) (set st (sent_at + i) z)
  sends q = rw (← e) (gave (ap field q) (state-sending st i z h) (fault-kept st (sent_at + i) z (omega arith) ∙ c))
