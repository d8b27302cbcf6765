-- What a round leaves: as many variables and slots sent as it began with, so it keeps its block's sensors' cell. Assumes nothing.
use mathlib.Core.Path.{◌≡◌, refl, ◌∙◌}
use mathlib.Core.Bool.{Bool, true, false, cond}
use mathlib.Core.List.{List, [], ◌∷◌, map}
use mathlib.Core.Option.{none, some}
use Prim.Native.Nat.{ℕ, ◌≤◌}
use lib.ListN.{length, get_or, take, length-set, length-take, length-replicate}
use lib.IntN.{ℤ, pos}
use Rattle.number.specs.Number.{mark, eq_z, Operator, faults}
use Rattle.field.specs.Field.{Field, each, everywhere, faults_in}
use Rattle.program.specs.Tree.{Expr, nothing, constant, parameter, variable, operator, sense, rep, branch, mux, nbr, range, lag, fold_op, fold_def, call}
use Rattle.network.specs.Cells.{store}
use native.Mathlib.Omega.{arith}
use Rattle.network.specs.Network.{sensors_at, heard_at, pending_at, age_at}
use Rattle.network.proofs.Stores.{store_out}
use Rattle.round.specs.Round.{message, joined, is_true, arguments, number_of, field_of, round, older, ages, faded, after, fired, fired_by, State, Value, number, field, Outcome, done, fault}
use Rattle.round.specs.Round.{then_value, on_numbers, on_fields, operated, folded, stored, sending, erased, reps, eval}

module _ (m : ℕ) where
  abbrev Held : State → Type 0
  Held s = (length s.variables ≡ m) × (length s.sent ≡ 16)

  abbrev KeptBy : Outcome → Type 0
  KeptBy (done v s) = Held s
  KeptBy (fault n) = Unit {0}

  record Kept (o : Outcome) : Type 0 where
    pub by : KeptBy o

  kept-done : {v : Value} {s : State} → Held s → Kept (done v s)
  kept-done h = record { by = h }

  kept-cond : (b : Bool) {o p : Outcome} → Kept o → Kept p → Kept (cond b o p)
  kept-cond true h k = h
  kept-cond false h k = k

  then-kept : (o : Outcome) {next : Value → State → Outcome} → Kept o → ((v : Value) (s : State) → Held s → Kept (next v s)) → Kept (then_value o next)
  then-kept (done v s) k f = f v s k.by
  then-kept (fault n) k f = record { by = tt }

  fault-kept : (n : ℕ) → Kept (fault n)
  fault-kept n = record { by = tt }

  numbers-kept : (n : ℕ) (o : Operator) (x y : ℤ) (s : State) → Held s → Kept (on_numbers n o x y s)
  numbers-kept n o x y s h = kept-cond (faults o y) (fault-kept n) (kept-done h)

  fields-kept : (n : ℕ) (o : Operator) (f g : Field) (s : State) → Held s → Kept (on_fields n o f g s)
  fields-kept n o f g s h = kept-cond (faults_in o f g) (fault-kept n) (kept-done h)

  operated-kept : (n : ℕ) (o : Operator) (x y : Value) (s : State) → Held s → Kept (operated n o x y s)
  unfolding operated
  operated-kept n o (number x) (number y) s h = numbers-kept n o x y s h
  operated-kept n o (number x) (field g) s h = fields-kept n o (everywhere x) g s h
  operated-kept n o (field f) (number y) s h = fields-kept n o f (everywhere y) s h
  operated-kept n o (field f) (field g) s h = fields-kept n o f g s h

  stored-held : (v : ℕ) (z : ℤ) (s : State) → Held s → Held (stored v z s)
  stored-held v z s h = (length-set s.variables v z ∙ h.0, h.1)

  sending-held : (i : ℕ) (z : ℤ) (s : State) → Held s → Held (sending i z s)
  sending-held i z s h = (h.0, length-set s.sent i z ∙ h.1)

  erased-held : (vs : List ℕ) (s : State) → Held s → Held (erased vs s)
  unfolding erased
  erased-held [] s h = h
  erased-held (v ∷ vs) s h = erased-held vs (stored v mark s) (stored-held v mark s h)

  folded-kept : (f : ℤ → ℤ → State → Outcome) → ((x y : ℤ) (s : State) → Held s → Kept (f x y s)) → (g : Field) (x : ℤ) (s : State) → Held s → Kept (folded f g x s)
  unfolding folded
  folded-kept f k [] x s h = kept-done h
  folded-kept f k (none ∷ g) x s h = folded-kept f k g x s h
  folded-kept f k (some y ∷ g) x s h = then-kept (f x y s) (k x y s h) (λ z t i. folded-kept f k g (number_of z) t i)

  eval-kept : (b : List ℤ) (e : Expr) (args : List ℤ) (s : State) → Held s → Kept (eval b e args s)
  unfolding eval
  eval-kept b nothing args s h = kept-done h
  eval-kept b (constant z) args s h = kept-done h
  eval-kept b (parameter n p) args s h = kept-done h
  eval-kept b (variable n v) args s h = kept-done h
  eval-kept b (operator n o l r) args s h =
      then-kept (eval b l args s) (eval-kept b l args s h) (λ x t k. then-kept (eval b r args t) (eval-kept b r args t k) (λ y u g. operated-kept n o x y u g))
  eval-kept b (sense e) args s h = then-kept (eval b e args s) (eval-kept b e args s h) (λ x t k. kept-done k)
  eval-kept b (rep v i u) args s h =
      then-kept (eval b i args s) (eval-kept b i args s h)
      (λ x t k. kept-cond (eq_z (get_or t.variables v (pos 0)) mark) (kept-done (stored-held v (number_of x) t k))
      (then-kept (eval b u args t) (eval-kept b u args t k) (λ y w g. kept-done (stored-held v (number_of y) w g))))
  eval-kept b (branch c x y) args s h =
      then-kept (eval b c args s) (eval-kept b c args s h)
      (λ z t k. kept-cond (is_true (number_of z)) (eval-kept b x args (erased (reps y) t) (erased-held (reps y) t k)) (eval-kept b y args (erased (reps x) t) (erased-held (reps x) t k)))
  eval-kept b (mux c x y) args s h =
      then-kept (eval b x args s) (eval-kept b x args s h)
      (λ p t k. then-kept (eval b y args t) (eval-kept b y args t k) (λ q u g. then-kept (eval b c args u) (eval-kept b c args u g) (λ r w i. kept-done i)))
  eval-kept b (nbr i e) args s h = then-kept (eval b e args s) (eval-kept b e args s h) (λ x t k. kept-done (sending-held i (number_of x) t k))
  eval-kept b (range i) args s h = kept-done (sending-held i (pos 0) s h)
  eval-kept b (lag i) args s h = kept-done (sending-held i (pos 0) s h)
  eval-kept b (fold_op n o i f) args s h =
      then-kept (eval b i args s) (eval-kept b i args s h)
      (λ x t k. then-kept (eval b f args t) (eval-kept b f args t k)
      (λ g u j. folded-kept (λ x y s. on_numbers n o x y s) (λ x y s h. numbers-kept n o x y s h) (field_of g) (number_of x) u j))
  eval-kept b (fold_def d i f) args s h =
      then-kept (eval b i args s) (eval-kept b i args s h)
      (λ x t k. then-kept (eval b f args t) (eval-kept b f args t k)
      (λ g u j. folded-kept (λ x y s. eval b d (arguments x y (pos 0) (pos 0)) s) (λ x y s h. eval-kept b d (arguments x y (pos 0) (pos 0)) s h) (field_of g) (number_of x) u j))
  eval-kept b (call d x y z w) args s h =
      then-kept (eval b x args s) (eval-kept b x args s h)
      (λ p t k. then-kept (eval b y args t) (eval-kept b y args t k)
      (λ q u g. then-kept (eval b z args u) (eval-kept b z args u g)
      (λ r v i. then-kept (eval b w args v) (eval-kept b w args v i)
      (λ f a j. eval-kept b d (arguments (number_of p) (number_of q) (number_of r) (number_of f)) a j))))

-- ---- the device's cells after its round: as they were, or a round older and with its variables and its messages stored
round-kept : (main : Expr) (b : List ℤ) → Kept (length (take 16 b)) (round main b)
unfolding round
round-kept main b = eval-kept (length (take 16 b)) _ main _ _ (refl, length-replicate 16 mark)

pub fired-has : (P : List ℤ → Type 0) (main : Expr) (b : List ℤ) → P b → ((s : State) → length s.variables ≤ 16 → length s.sent ≡ 16 → P (after b s)) → P (fired main b).0
unfolding fired
fired-has P main b p f = go (round main b) (round-kept main b)
  where
    go : (o : Outcome) → Kept (length (take 16 b)) o → P (fired_by o b).0
    go (done v s) k = f s (omega (arith, length-take 16 b, k.by.0)) k.by.1
    go (fault n) k = p

pub fired-sensors : (main : Expr) (b : List ℤ) → get_or (fired main b).0 sensors_at (pos 0) ≡ get_or b sensors_at (pos 0)
unfolding after
fired-sensors main b =
    fired-has (λ c. get_or c sensors_at (pos 0) ≡ get_or b sensors_at (pos 0)) main b refl
    (λ s h k.
    let heard : List ℤ = store b (heard_at 1) (joined (each (faded b))) in
    let aged : List ℤ = store heard (age_at 1) (map older (ages b)) in
    store_out (store aged 0 s.variables) (pending_at 1) (joined (each (message b s))) sensors_at (pos 0) (λ p q. omega arith)
    ∙ store_out aged 0 s.variables sensors_at (pos 0) (λ p q. omega arith)
    ∙ store_out heard (age_at 1) (map older (ages b)) sensors_at (pos 0) (λ p q. omega arith)
    ∙ store_out b (heard_at 1) (joined (each (faded b))) sensors_at (pos 0) (λ p q. omega arith))
