-- An event that is refused and one that is not: what it does, from the tests. Assumes nothing.
use mathlib.Core.Path.{◌≡◌, refl, sym}
use mathlib.Core.Bool.{Bool, true, false, ◌&&◌}
use mathlib.Core.List.{List, [], ◌∷◌}
use Prim.Native.Nat.{ℕ, ◌<◌, ◌≤◌}
use native.Mathlib.Omega.{arith}
use lib.IntN.{ℤ, pos}
use Rattle.std.proofs.Common.{Ok, Err}
use borrow.Author.Tests.{ne_eqb, not-false}
use Rattle.program.specs.Table.{first_of}
use Rattle.program.specs.Tree.{Expr}
use Rattle.network.specs.Cells.{write}
use Rattle.event.specs.Event.{Event, deliver, lose}
use Rattle.event.specs.Step.{is_device, out_of_range, to_itself, nothing_pending, refusal, effect, plan}
use Rattle.event.proofs.Devices.{Pair, pair_of}
use Rattle.verdict.specs.declared.Reason.{Reason}
use Rattle.verdict.specs.declared.Reason.TheVariants.{BadField, TooMany, OutOfRange, NotGiven, Taken, BadEnd, WrongSort, Misread, Misused}
use Rattle.verdict.specs.declared.Reason.TheVariants.{TooCostly, Unsound, BadList, ShortSpace, BadItem, Itself, NothingPending, DividedByZero, BadFile, Outside, BadName}
use Rattle.verdict.specs.Outcome.{number_of}
use Rattle.effects.specs.Does.{Does}

-- ---- no refusal has the number 0
pub some_number : (r : Reason) → (0 < number_of r) × (number_of r ≤ 20)
some_number BadField = (omega arith, omega arith)
some_number TooMany = (omega arith, omega arith)
some_number OutOfRange = (omega arith, omega arith)
some_number NotGiven = (omega arith, omega arith)
some_number Taken = (omega arith, omega arith)
some_number BadEnd = (omega arith, omega arith)
some_number WrongSort = (omega arith, omega arith)
some_number Misread = (omega arith, omega arith)
some_number Misused = (omega arith, omega arith)
some_number TooCostly = (omega arith, omega arith)
some_number Unsound = (omega arith, omega arith)
some_number BadList = (omega arith, omega arith)
some_number ShortSpace = (omega arith, omega arith)
some_number BadItem = (omega arith, omega arith)
some_number Itself = (omega arith, omega arith)
some_number NothingPending = (omega arith, omega arith)
some_number DividedByZero = (omega arith, omega arith)
some_number BadFile = (omega arith, omega arith)
some_number Outside = (omega arith, omega arith)
some_number BadName = (omega arith, omega arith)

-- ---- the rows of the refusal table
module _ (n : List ℤ) (e : Event) where
  pub is-14 : out_of_range e ≡ true → refusal n e ≡ 14
  unfolding refusal first_of
  is-14 o = rw o

  pub is-15 : out_of_range e ≡ false → to_itself e ≡ true → refusal n e ≡ 15
  unfolding refusal first_of
  is-15 o t = rw (o, t)

  pub is-16 : out_of_range e ≡ false → to_itself e ≡ false → nothing_pending n e ≡ true → refusal n e ≡ 16
  unfolding refusal first_of
  is-16 o t p = rw (o, t, p)

  pub is-0 : out_of_range e ≡ false → to_itself e ≡ false → nothing_pending n e ≡ false → refusal n e ≡ 0
  unfolding refusal first_of
  is-0 o t p = rw (o, t, p)

  -- the network stays, and the refusal is the answer
  pub turned : (r : Reason) → refusal n e ≡ number_of r → Does n e (Err r) n
  unfolding plan
  turned r p = λ main. record { network = rw (p, ne_eqb (number_of r) 0 (λ z. omega (arith, some_number r))); answer = rw (p, ne_eqb (number_of r) 0 (λ z. omega (arith, some_number r))) }

  -- all is done
  pub carried-out : (m : List ℤ) → refusal n e ≡ 0 → ((main : Expr) → m ≡ write n (effect main n e).0) → ((main : Expr) → (effect main n e).1 ≡ (pos 0, pos 0)) → Does n e (Ok tt) m
  unfolding plan
  carried-out m p w q = λ main. record { network = rw p (w main); answer = rw p (sym (q main)) }

-- an event that is not refused
first-false : (o t p : Bool) → first_of ((o, 14) ∷ (t, 15) ∷ (p, 16) ∷ []) ≡ 0 → o ≡ false
unfolding first_of
first-false true t p q = absurd (omega arith)
first-false false t p q = refl

pub in-range : (n : List ℤ) (e : Event) → refusal n e ≡ 0 → out_of_range e ≡ false
unfolding refusal
in-range n e q = first-false _ _ _ q

pub two-devices : (n : List ℤ) (a b : ℕ) → refusal n (deliver a b) ≡ 0 → Pair a b
two-devices n a b q = pair_of a b (not-false (is_device a && is_device b) (in-range n (deliver a b) q))

pub same-refusal : (n : List ℤ) (a b : ℕ) → refusal n (lose a b) ≡ refusal n (deliver a b)
unfolding refusal
same-refusal n a b = refl
