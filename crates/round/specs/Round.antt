-- A round: what evaluating the main expression answers, stores and sends. Definitions only: nothing is assumed.
use Rattle.std.specs.Prelude.{Bool, not, cond, ◌&&◌, ◌||◌, List, [], ◌∷◌, ◌++◌, map, ℕ, ◌+◌, ◌-◌, ◌/◌, ◌%◌, ◌^◌, get_or, set, take, drop, replicate, ltb, ℤ, pos, negsuc, ◌+ℤ◌}
use Rattle.std.proofs.Math.Option.{Option, none, some}
use Rattle.std.specs.Int.Signed.{le_z}
use Rattle.number.specs.Number.{mark, eq_z, Operator, operation_result, faults}
use Rattle.field.specs.Field.{devices, each, Field, everywhere, pointwise, faults_in}
use Rattle.program.specs.Tree.{Expr, nothing, constant, parameter, variable, operator, sense, rep, branch, mux, nbr, range, lag, fold_op, fold_def, call}
use Rattle.network.specs.Cells.{row, write}
use Rattle.network.specs.Network.{sensors_at, heard_at, pending_at, age_at, no_message, slots_from}

-- what evaluating changes: its device's variables, and the slots it sends, each absent or a number (slot 0 is never sent)
pub record State : Type 0 where
  pub variables : List ℤ
  pub sent : List ℤ

pub data Value : Type 0 where
  number : ℤ → Value
  field : Field → Value

-- the value and the state after it, or the node that divided by 0
pub data Outcome : Type 0 where
  done : Value → State → Outcome
  fault : ℕ → Outcome

-- what follows, unless there was a fault
abbrev pub then_value : Outcome → (Value → State → Outcome) → Outcome
then_value (done v s) next = next v s
then_value (fault n) next = fault n

abbrev pub number_of : Value → ℤ
number_of (number z) = z
number_of (field f) = pos 0

-- "field with number: at each device"
abbrev pub field_of : Value → Field
field_of (number z) = everywhere z
field_of (field f) = f

abbrev pub then_number : Outcome → (ℤ → State → Outcome) → Outcome
then_number o next = then_value o (λ v s. next (number_of v) s)

abbrev pub then_field : Outcome → (Field → State → Outcome) → Outcome
then_field o next = then_value o (λ v s. next (field_of v) s)

-- the operator of node n
abbrev pub on_numbers : ℕ → Operator → ℤ → ℤ → State → Outcome
on_numbers n o x y s = cond (faults o y) (fault n) (done (number (operation_result o x y)) s)

abbrev pub on_fields : ℕ → Operator → Field → Field → State → Outcome
on_fields n o f g s = cond (faults_in o f g) (fault n) (done (field (pointwise o f g)) s)

unfoldable pub operated : ℕ → Operator → Value → Value → State → Outcome
operated n o (number x) (number y) s = on_numbers n o x y s
operated n o (number x) (field g) s = on_fields n o (everywhere x) g s
operated n o (field f) (number y) s = on_fields n o f (everywhere y) s
operated n o (field f) (field g) s = on_fields n o f g s

-- "fold: f(so far, next), lowest device first"
unfoldable pub folded : (ℤ → ℤ → State → Outcome) → Field → ℤ → State → Outcome
folded f [] x s = done (number x) s
folded f (none ∷ g) x s = folded f g x s
folded f (some y ∷ g) x s = then_number (f x y s) (λ z u. folded f g z u)

-- "if, mux: condition 1 takes then, all else takes else"
abbrev pub is_true : ℤ → Bool
is_true z = eq_z z (pos 1)

-- "sense: 1 if that sensor is lit, else 0, also outside 0–15"
unfoldable pub sensed : ℤ → ℤ → ℤ
sensed (pos lit) (pos s) = cond (ltb s 16) (pos (lit / 2 ^ s % 2)) (pos 0)
sensed (pos lit) (negsuc s) = pos 0
sensed (negsuc lit) s = pos 0

-- the slot last heard from b, the distance of the link to b, and the age of what was heard from b, in a device's cells
abbrev pub heard : List ℤ → ℕ → ℕ → ℤ
heard block i b = get_or block (heard_at b + i) (pos 0)

abbrev pub distance : List ℤ → ℕ → ℤ
distance block b = heard block 0 b

abbrev pub age : List ℤ → ℕ → ℤ
age block b = get_or block (age_at b) (pos 0)

-- the ages of all
abbrev pub ages : List ℤ → List ℤ
ages block = row block (age_at 1) devices

-- what a round reads of a device's cells: all but its messages, with the ages where those begin
abbrev pub own : List ℤ → List ℤ
own block = take (pending_at 1) block ++ ages block

-- the age of what was heard from b, in what a round reads
abbrev pub lag_of : List ℤ → ℕ → ℤ
lag_of here b = get_or here (pending_at 1 + (b - 1)) (pos 0)

abbrev pub present : ℤ → Option ℤ
present z = cond (eq_z z mark) none (some z)

-- "field of the devices heard in it"
unfoldable pub heard_in : List ℤ → ℕ → Field
heard_in here i = each (λ b. present (heard here i b))

-- "for devices heard with 0 in that slot", those whose measure is there. L2: "nbr-lag is nbr-range with another measure"
unfoldable pub measured : (List ℤ → ℕ → ℤ) → List ℤ → ℕ → Field
measured measure here i = each (λ b. cond (eq_z (heard here i b) (pos 0)) (present (measure here b)) none)

-- "field of link distances for devices heard with 0 in that slot and having a distance cell"
abbrev pub range_in : List ℤ → ℕ → Field
range_in here i = measured distance here i

-- L2: "a field of ages for devices heard with 0 in that slot, link or none"
abbrev pub lag_in : List ℤ → ℕ → Field
lag_in here i = measured lag_of here i

-- the state with a variable stored, with a slot sent
abbrev pub stored : ℕ → ℤ → State → State
stored v z s = record { variables = set s.variables v z; sent = s.sent }

abbrev pub sending : ℕ → ℤ → State → State
sending i z s = record { variables = s.variables; sent = set s.sent i z }

-- the variables of the reps in an expression, "those in definitions called there, at any depth, included"
unfoldable pub reps : Expr → List ℕ
reps nothing = []
reps (constant z) = []
reps (parameter n p) = []
reps (variable n v) = []
reps (operator n o l r) = reps l ++ reps r
reps (sense e) = reps e
reps (rep v i u) = v ∷ reps i ++ reps u
reps (branch c a b) = reps c ++ (reps a ++ reps b)
reps (mux c a b) = reps c ++ (reps a ++ reps b)
reps (nbr i e) = reps e
reps (range i) = []
reps (lag i) = []
reps (fold_op n o i f) = reps i ++ reps f
reps (fold_def d i f) = reps d ++ (reps i ++ reps f)
reps (call d a b c e) = reps d ++ (reps a ++ (reps b ++ (reps c ++ reps e)))

unfoldable pub erased : List ℕ → State → State
erased [] s = s
erased (v ∷ vs) s = erased vs (stored v mark s)

-- "parameter p (0–3)": always four numbers, 0 where the definition has fewer parameters
abbrev pub arguments : ℤ → ℤ → ℤ → ℤ → List ℤ
arguments x y z w = x ∷ y ∷ z ∷ w ∷ []

-- the expression's outcome, in a device of which the round reads the cells here, where the parameters are args. "Evaluation walks operands left to right, except mux:
-- then, else, condition."
unfoldable pub eval : List ℤ → Expr → List ℤ → State → Outcome
eval here nothing args s = done (number (pos 0)) s
eval here (constant z) args s = done (number z) s
eval here (parameter n p) args s = done (number (get_or args p (pos 0))) s
eval here (variable n v) args s = done (number (get_or s.variables v (pos 0))) s
eval here (operator n o l r) args s = then_value (eval here l args s) (λ x s. then_value (eval here r args s) (λ y s. operated n o x y s))
eval here (sense e) args s = then_number (eval here e args s) (λ x s. done (number (sensed (get_or here sensors_at (pos 0)) x)) s)
-- "A rep evaluates its initial part every round; with its variable absent it stores and answers that and skips the update, else it evaluates and
-- stores the update."
eval here (rep v i u) args s =
    then_number (eval here i args s)
    (λ x t. cond (eq_z (get_or t.variables v (pos 0)) mark)
    (done (number x) (stored v x t))
    (then_number (eval here u args t) (λ y t. done (number y) (stored v y t))))
-- "An if evaluates its condition and one branch." "An if makes absent the variables of reps in the other branch"
eval here (branch c a b) args s =
    then_number (eval here c args s)
    (λ x s. cond (is_true x) (eval here a args (erased (reps b) s)) (eval here b args (erased (reps a) s)))
eval here (mux c a b) args s =
    then_number (eval here a args s)
    (λ y s. then_number (eval here b args s) (λ z s. then_number (eval here c args s) (λ x s. done (number (cond (is_true x) y z)) s)))
-- "nbr: sends its child's number in its slot"; "nbr-range: sends 0"; L2, of nbr-lag: "sends 0"
eval here (nbr i e) args s = then_number (eval here e args s) (λ x s. done (field (heard_in here i)) (sending i x s))
eval here (range i) args s = done (field (range_in here i)) (sending i (pos 0) s)
eval here (lag i) args s = done (field (lag_in here i)) (sending i (pos 0) s)
eval here (fold_op n o i f) args s =
    then_number (eval here i args s) (λ x s. then_field (eval here f args s) (λ g s. folded (λ x y s. on_numbers n o x y s) g x s))
eval here (fold_def d i f) args s =
    then_number (eval here i args s) (λ x s. then_field (eval here f args s) (λ g s. folded (λ x y s. eval here d (arguments x y (pos 0) (pos 0)) s) g x s))
eval here (call d a b c e) args s =
    then_number (eval here a args s)
    (λ x s. then_number (eval here b args s)
    (λ y s. then_number (eval here c args s)
    (λ z s. then_number (eval here e args s)
    (λ w s. eval here d (arguments x y z w) s))))

-- a round starts with the device's variables and with nothing sent
unfoldable pub round : Expr → List ℤ → Outcome
round main block = eval (own block) main (arguments (pos 0) (pos 0) (pos 0) (pos 0)) (record { variables = take 16 block; sent = replicate 16 mark })

-- "all that is pending from a goes, and each b with a link from a gets one message with exactly the slots sent, even none"
unfoldable pub message : List ℤ → State → ℕ → List ℤ
message block s b = cond (eq_z (distance block b) mark) no_message (pos 1 ∷ drop 1 s.sent)

unfoldable pub joined : {A : Type 0} → List (List A) → List A
joined [] = []
joined (l ∷ ls) = l ++ joined ls

-- L1: "Each completed round of the hearer then adds 1, after its reading. On reaching 3 .."
abbrev pub fades_at : ℤ
fades_at = pos 3

-- whether what has the age z fades in this round
unfoldable pub fades : ℤ → Bool
fades z = not (eq_z z mark) && le_z fades_at (z +ℤ pos 1)

-- the age z after this round: ".. and the age become absent"; an absent one stays absent
unfoldable pub older : ℤ → ℤ
older z = cond (eq_z z mark || fades z) mark (z +ℤ pos 1)

-- the row heard from b after a round: ".. the sender's slots 1–15 .. become absent", the distance stays
unfoldable pub faded : List ℤ → ℕ → List ℤ
faded block b = distance block b ∷ cond (fades (age block b)) (replicate 15 mark) (slots_from block b)

-- a device's cells after a round: what it heard is a round older, its variables and its messages are stored, all else stays
unfoldable pub after : List ℤ → State → List ℤ
after block s =
    write block (
    (heard_at 1, joined (each (faded block)))
    ∷ (age_at 1, map older (ages block))
    ∷ (0, s.variables)
    ∷ (pending_at 1, joined (each (message block s)))
    ∷ [])

-- "0x10 fire a: the round." "A fault changes nothing." The device's cells, and the answer
abbrev pub fired_by : Outcome → List ℤ → List ℤ × (ℤ × ℤ)
fired_by (done v s) block = (after block s, (pos 0, number_of v))
fired_by (fault n) block = (block, (pos 17, pos n))

unfoldable pub fired : Expr → List ℤ → List ℤ × (ℤ × ℤ)
fired main block = fired_by (round main block) block
