-- Numbers that were passed on, states after erasing, and tests, as the definition has them. Assumes nothing.
use mathlib.Core.Path.{◌≡◌, ap}
use mathlib.Core.Bool.{true, false}
use mathlib.Core.List.{List}
use Prim.Native.Nat.{ℕ}
use lib.IntN.{ℤ, pos}
use mir.Syntax.{w32}
use mir.Val.{SFits, of_z, to_z}
use mir.ValLaws.{to_z-of_z}
use Rattle.number.specs.Number.{eq_z}
use Rattle.field.specs.Field.{Field}
use Rattle.program.specs.Tree.{Expr}
use Rattle.round.specs.Round.{State, Value, number, Outcome, done, folded, arguments, eval}
use Rattle.apply.specs.State.{LeftBy, lessens}
use Rattle.leaf.specs.Asked.{third_on}
use Rattle.arith.proofs.Signs.{same_bits, eq_z-yes, eq_z-no}

pub env-read : (q : Expr) (here : List ℤ) (s : State) {w : Value} {r : List ℤ} (a b c d : ℤ) → SFits w32 a → SFits w32 b → SFits w32 c → SFits w32 d
    → LeftBy (eval here q (arguments (to_z w32 (of_z w32 a)) (to_z w32 (of_z w32 b)) (to_z w32 (of_z w32 c)) (to_z w32 (of_z w32 d))) s) w r
    → LeftBy (eval here q (arguments a b c d) s) w r
env-read q here s a b c d fa fb fc fd h = rw (to_z-of_z w32 a fa, to_z-of_z w32 b fb, to_z-of_z w32 c fc, to_z-of_z w32 d fd) at h

pub from-read : (F : ℤ → ℤ → State → Outcome) (g : Field) (s : State) {w : Value} {r : List ℤ} (x : ℤ) → SFits w32 x
    → LeftBy (folded F g (to_z w32 (of_z w32 x)) s) w r → LeftBy (folded F g x s) w r
from-read F g s x f h = rw (to_z-of_z w32 x f) at h

pub third-read : (ws : List ℕ) (n : ℕ) (here env : List ℤ) (s : State) {w : Value} {r : List ℤ} (a b : ℤ) → SFits w32 a → SFits w32 b
    → LeftBy (third_on ws n here env (to_z w32 (of_z w32 a)) (to_z w32 (of_z w32 b)) s) w r → LeftBy (third_on ws n here env a b s) w r
third-read ws n here env s a b fa fb h = rw (to_z-of_z w32 a fa, to_z-of_z w32 b fb) at h

pub least-read : (g : Field) (x z : ℤ) → SFits w32 x → ((s : State) → folded lessens g (to_z w32 (of_z w32 x)) s ≡ done (number z) s)
    → (s : State) → folded lessens g x s ≡ done (number z) s
least-read g x z f h = rw (to_z-of_z w32 x f) at h

pub second-read : (q : Expr) (here : List ℤ) (s : State) {w : Value} {r : List ℤ} (a b : ℤ) → SFits w32 b
    → LeftBy (eval here q (arguments a (to_z w32 (of_z w32 b)) (pos 0) (pos 0)) s) w r → LeftBy (eval here q (arguments a b (pos 0) (pos 0)) s) w r
second-read q here s a b f h = rw (to_z-of_z w32 b f) at h

-- the state after erasing
pub moved : (k : State → Outcome) {p q : State} {w : Value} {r : List ℤ} → p ≡ q → LeftBy (k p) w r → LeftBy (k q) w r
moved k e g = rw (← e) g

-- a test `x == y` of two signed numbers, as the definition has it
pub same : (x y : ℤ) → SFits w32 x → SFits w32 y → of_z w32 x ≡ of_z w32 y → eq_z x y ≡ true
same x y f g e = eq_z-yes x y (same_bits w32 x y f g e)

pub other : (x y : ℤ) → (of_z w32 x ≡ of_z w32 y → ⊥) → eq_z x y ≡ false
other x y f = eq_z-no x y (λ e. f (ap (of_z w32) e))
