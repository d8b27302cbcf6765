-- The evaluator's cells as a round's state, and what an evaluation leaves in them. Definitions only: nothing is assumed.
use Rattle.std.specs.Prelude.{◌≡◌, List, ℕ, ◌+◌, ◌<◌, ◌≤◌, length, get_or, take, drop, ℤ, pos}
use Rattle.bits.specs.Bits.{has_bit}
use Rattle.program.specs.Table.{among}
use Rattle.field.specs.Field.{Field}
use Rattle.round.specs.Round.{State, Value, number, field, Outcome, done, fault, field_of, folded, erased}
use Rattle.words.specs.Form.{field_forms}
use Rattle.words.specs.Sound.{lesser}
use Rattle.domain.specs.declared.Held.{Held}
use Rattle.domain.specs.Held.{held}
use Rattle.domain.specs.Members.{places}
use Rattle.apply.specs.declared.Walk.{Walk}

-- how many cells there are; from which on the slots sent stand, behind the variables; where the fault stands
abbrev pub state_size : ℕ
state_size = 64

abbrev pub sent_at : ℕ
sent_at = 16

abbrev pub fault_at : ℕ
fault_at = 32

unfoldable pub state_of : List ℤ → State
state_of st = record { variables = take sent_at st; sent = take 16 (drop sent_at st) }

-- 0, or one more than the node that divided by 0
abbrev pub fault_of : List ℤ → ℤ
fault_of st = get_or st fault_at (pos 0)

-- w and st are the outcome's value and state; after a fault st names its node, and w says nothing
abbrev pub Left : Outcome → Value → List ℤ → Type 0
Left (done v s) w st = (v ≡ w) × (state_of st ≡ s) × (fault_of st ≡ pos 0)
Left (fault n) w st = fault_of st ≡ pos (n + 1)

pub record LeftBy (o : Outcome) (w : Value) (st : List ℤ) : Type 0 where
  pub left : Left o w st

-- a number, a field
abbrev pub Gives : Outcome → ℤ → List ℤ → Type 0
Gives o r st = LeftBy o (number r) st

abbrev pub GivesField : Outcome → Held → List ℤ → Type 0
GivesField o f st = LeftBy o (field (held f)) st

-- a side of an operator, as a field: a number is at each device. k is its node's form
pub record GivesSide (o : Outcome) (k : ℕ) (f : Held) (st : List ℤ) : Type 0 where
  pub value : Value
  pub leaves : LeftBy o value st
  pub as_field : field_of value ≡ held f
  pub sort : field_forms ≤ k → value ≡ field (held f)

-- the walk of a fold of f by F from x. L3: "a fold without a fault takes exactly one turn for each device there, a count that the walk also returns":
-- as many as f has numbers, which are as many as its domain has members (domain/Laws: places-members)
pub record Walks (F : ℤ → ℤ → State → Outcome) (f : Field) (x : ℤ) (s : State) (r : Walk) (st : List ℤ) : Type 0 where
  pub leaves : Gives (folded F f x s) r.value st
  pub turns : fault_of st ≡ pos 0 → r.turns ≡ length (places f)

-- a step of a fold by the lesser of two numbers
abbrev pub lessens : ℤ → ℤ → State → Outcome
lessens x y s = done (number (lesser x y)) s

-- the variables vs as bits
abbrev pub Mask : ℕ → List ℕ → Type 0
Mask m vs = (v : ℕ) → v < 16 → has_bit v m ≡ among v vs

-- the variables of a mask made absent
pub record Erases (m : ℕ) (old new : List ℤ) : Type 0 where
  pub state : (vs : List ℕ) → Mask m vs → state_of new ≡ erased vs (state_of old)
  pub fault : fault_of new ≡ fault_of old
