-- What evaluating node n does, by its form, over a sound table. Assumes nothing.
use mathlib.Core.Path.{◌≡◌, refl, ap, ◌∙◌}
use mathlib.Core.Bool.{Bool, true, false, cond}
use mathlib.Core.List.{List, [], ◌∷◌}
use mathlib.Core.Logic.{inl, inr}
use mathlib.Core.Option.{none, some}
use Prim.Native.Nat.{ℕ, ◌≤◌, ◌<◌}
use lib.ListN.{get_or}
use native.Mathlib.Omega.{arith}
use lib.Dec.{ltb}
use borrow.Author.Tests.{lt-ltb}
use lib.IntN.{ℤ, pos}
use Rattle.number.specs.Number.{operator_of, eq_z, mark}
use Rattle.field.specs.Field.{Field}
use Rattle.network.specs.Network.{sensors_at}
use Rattle.program.specs.Table.{node_limit}
use Rattle.program.specs.Tree.{Expr, operator}
use Rattle.round.specs.Round.{State, Outcome, number, field, done, then_value, then_number, then_field, number_of, field_of, operated, on_numbers, folded, is_true, sensed}
use Rattle.round.specs.Round.{heard_in, range_in, lag_in, stored, sending, reps, erased, arguments, eval}
use Rattle.words.specs.Form.{constant_form, parameter_form, variable_form, operator_form, sense_form, rep_form, if_form, mux_form, fold_by_form, call_form, fold_form, least_form}
use Rattle.words.specs.Form.{pair_form, nbr_form, range_form, lag_form, field_if_form, field_operator_form, field_forms, forms}
use Rattle.words.specs.Word.{form, item, p1, p2, p3, p4, body, count, constant_of, word}
use Rattle.words.specs.Trees.{tree_at, arg_of}
use Rattle.words.specs.Sound.{Sorted, Right, Sound}
use Rattle.words.proofs.Trees.{tree-lit, tree-param, tree-var, tree-pair, tree-oper, tree-sense, tree-rep, tree-if, tree-mux, tree-fold, tree-call, tree-foldop}
use Rattle.words.proofs.Trees.{tree-least, tree-nbr, tree-range, tree-lag, tree-iff, tree-operf}
use Rattle.apply.specs.State.{lessens}
use Rattle.apply.proofs.Folding.{then_same}
use Rattle.leaf.specs.Asked.{Number, IsField, Folding, fourth_on, third_on, second_on}

pub right : {ws us : List ℕ} {n : ℕ} → Sound ws us → n < node_limit → Right ws us n
unfolding Sound
right {ws} {us} {n} s h = s n h

-- what a sound table says of a node that gives a number, and of one that gives a field
pub rules : {ws us : List ℕ} {st : List ℤ} {n : ℕ} → Number ws us st n → Sorted ws n
rules q = (right q.sound q.inside).sorted

pub field-rules : {ws us : List ℕ} {st : List ℤ} {n : ℕ} → IsField ws us st n → Sorted ws n
field-rules q = (right q.sound q.inside).sorted

-- node a evaluated; o, a, b .. are parts of n, as the code has read them
abbrev pub ev : List ℕ → ℕ → List ℤ → List ℤ → State → Outcome
ev ws a here env s = eval here (tree_at ws a) env s

-- ---- what is done in place
module _ (ws : List ℕ) (n : ℕ) (here env : List ℤ) (s : State) where
  pub ev-lit : form (word ws n) ≡ constant_form → ev ws n here env s ≡ done (number (constant_of (word ws n))) s
  unfolding eval
  ev-lit z = ap (λ (x : Expr). eval here x env s) (tree-lit ws n z)

  pub ev-param : form (word ws n) ≡ parameter_form → (o : ℕ) → o ≡ item (word ws n) → ev ws n here env s ≡ done (number (get_or env o (pos 0))) s
  unfolding eval
  ev-param z o eo = rw eo (ap (λ (x : Expr). eval here x env s) (tree-param ws n z))

  pub ev-var : form (word ws n) ≡ variable_form → (o : ℕ) → o ≡ item (word ws n) → ev ws n here env s ≡ done (number (get_or s.variables o (pos 0))) s
  unfolding eval
  ev-var z o eo = rw eo (ap (λ (x : Expr). eval here x env s) (tree-var ws n z))

  -- an operator whose sides x and y cannot fault
  pub ev-pair : form (word ws n) ≡ pair_form → p1 (word ws n) < n → p2 (word ws n) < n → (o a b : ℕ) → o ≡ item (word ws n) → a ≡ p1 (word ws n) → b ≡ p2 (word ws n)
      → (x y : ℤ) → ev ws a here env s ≡ done (number x) s → ev ws b here env s ≡ done (number y) s → ev ws n here env s ≡ on_numbers n (operator_of o) x y s
  unfolding eval operated
  ev-pair z l m o a b eo ea eb x y p q =
      let t : tree_at ws n ≡ operator n (operator_of o) (tree_at ws a) (tree_at ws b) = rw (eo, ea, eb) (tree-pair ws n z l m) in
      ap (λ (e : Expr). eval here e env s) t ∙ simp (p, q)

-- ---- by the forms of a sound table

-- a fold: its two parts a and b, and what it does with their values
pub record Folds (ws : List ℕ) (a b : ℕ) (here env : List ℤ) (s : State) (o : Outcome) : Type 0 where
  pub onward : ℤ → Field → State → Outcome
  pub whole : o ≡ then_number (ev ws a here env s) (λ x s1. then_field (ev ws b here env s1) (λ g s2. onward x g s2))

-- folding by what gives the lesser is folding by the lesser
folded-least : (F : ℤ → ℤ → State → Outcome) → ((x y : ℤ) (s : State) → F x y s ≡ lessens x y s) → (g : Field) (x : ℤ) (s : State)
    → folded F g x s ≡ folded lessens g x s
unfolding folded
folded-least F h [] x s = refl
folded-least F h (none ∷ g) x s = folded-least F h g x s
folded-least F h (some y ∷ g) x s = ap (λ (o : Outcome). then_number o (λ z u. folded F g z u)) (h x y s) ∙ folded-least F h g _ s

-- an argument that is there, and one that is not
pub an-argument : (ws : List ℕ) (there : Bool) (n : ℕ) (here env : List ℤ) (s : State) → there ≡ true → eval here (arg_of ws there n) env s ≡ ev ws n here env s
an-argument ws there n here env s e = rw e

pub no-argument : (ws : List ℕ) (there : Bool) (n : ℕ) (here env : List ℤ) (s : State) → there ≡ false → eval here (arg_of ws there n) env s ≡ done (number (pos 0)) s
unfolding eval
no-argument ws there n here env s e = rw e

module _ {ws us : List ℕ} {st : List ℤ} {n : ℕ} (q : Number ws us st n) (here env : List ℤ) (s : State) where
  pub ev-oper : form (word ws n) ≡ operator_form → (o a b : ℕ) → o ≡ item (word ws n) → a ≡ p1 (word ws n) → b ≡ p2 (word ws n)
      → ev ws n here env s ≡ then_value (ev ws a here env s) (λ x s1. then_value (ev ws b here env s1) (λ y s2. operated n (operator_of o) x y s2))
  unfolding eval
  ev-oper z o a b eo ea eb = let r = (rules q).oper z in rw (eo, ea, eb) (ap (λ (x : Expr). eval here x env s) (tree-oper ws n z r.0.0 r.1.0))

  pub ev-sense : form (word ws n) ≡ sense_form → (a : ℕ) → a ≡ p1 (word ws n)
      → ev ws n here env s ≡ then_number (ev ws a here env s) (λ x s1. done (number (sensed (get_or here sensors_at (pos 0)) x)) s1)
  unfolding eval
  ev-sense z a ea = let r = (rules q).sense z in rw (ea) (ap (λ (x : Expr). eval here x env s) (tree-sense ws n z r.0))

  pub ev-rep : form (word ws n) ≡ rep_form → (o a b : ℕ) → o ≡ item (word ws n) → a ≡ p1 (word ws n) → b ≡ p2 (word ws n)
      → ev ws n here env s ≡ then_number (ev ws a here env s) (λ x s1. cond (eq_z (get_or s1.variables o (pos 0)) mark)
      (done (number x) (stored o x s1))
      (then_number (ev ws b here env s1) (λ y s2. done (number y) (stored o y s2))))
  unfolding eval
  ev-rep z o a b eo ea eb = let r = (rules q).rep z in rw (eo, ea, eb) (ap (λ (x : Expr). eval here x env s) (tree-rep ws n z r.0.0 r.1.0))

  pub ev-if : form (word ws n) ≡ if_form → (a b c : ℕ) → a ≡ p1 (word ws n) → b ≡ p2 (word ws n) → c ≡ p3 (word ws n)
      → ev ws n here env s ≡ then_number (ev ws a here env s) (λ x s1. cond (is_true x)
      (ev ws b here env (erased (reps (tree_at ws c)) s1))
      (ev ws c here env (erased (reps (tree_at ws b)) s1)))
  unfolding eval
  ev-if z a b c ea eb ec = let r = (rules q).if_n z in rw (ea, eb, ec) (ap (λ (x : Expr). eval here x env s) (tree-if ws n z r.0.0 r.1.0 r.2.0))

  pub ev-mux : form (word ws n) ≡ mux_form → (a b c : ℕ) → a ≡ p1 (word ws n) → b ≡ p2 (word ws n) → c ≡ p3 (word ws n)
      → ev ws n here env s ≡ then_number (ev ws b here env s) (λ y s1. then_number (ev ws c here env s1)
      (λ z s2. then_number (ev ws a here env s2) (λ x s3. done (number (cond (is_true x) y z)) s3)))
  unfolding eval
  ev-mux z a b c ea eb ec = let r = (rules q).mux z in rw (ea, eb, ec) (ap (λ (x : Expr). eval here x env s) (tree-mux ws n z r.0.0 r.1.0 r.2.0))

  pub ev-fold : form (word ws n) ≡ fold_by_form → (d a b : ℕ) → d ≡ body (word ws n) → a ≡ p1 (word ws n) → b ≡ p2 (word ws n)
      → ev ws n here env s ≡ then_number (ev ws a here env s) (λ x s1. then_field (ev ws b here env s1) (λ g s2. folded (λ acc z s3. ev ws d here (arguments acc z (pos 0) (pos 0)) s3) g x s2))
  unfolding eval
  ev-fold z d a b ed ea eb = let r = (rules q).fold_by z in rw (ed, ea, eb) (ap (λ (x : Expr). eval here x env s) (tree-fold ws n z r.0.0 r.1.0 r.2.0))

  pub ev-foldop : form (word ws n) ≡ fold_form → (o a b : ℕ) → o ≡ item (word ws n) → a ≡ p1 (word ws n) → b ≡ p2 (word ws n)
      → ev ws n here env s ≡ then_number (ev ws a here env s) (λ x s1. then_field (ev ws b here env s1) (λ g s2. folded (λ x y s. on_numbers n (operator_of o) x y s) g x s2))
  unfolding eval
  ev-foldop z o a b eo ea eb = let r = (rules q).fold_op z in rw (eo, ea, eb) (ap (λ (x : Expr). eval here x env s) (tree-foldop ws n z r.0.0 r.1.0))

  ev-by : form (word ws n) ≡ least_form → (a b : ℕ) → a ≡ p1 (word ws n) → b ≡ p2 (word ws n)
      → ev ws n here env s ≡ then_number (ev ws a here env s) (λ x s1. then_field (ev ws b here env s1)
      (λ g s2. folded (λ acc z s3. ev ws (body (word ws n)) here (arguments acc z (pos 0) (pos 0)) s3) g x s2))
  unfolding eval
  ev-by z a b ea eb = let r = (rules q).least z in rw (ea, eb) (ap (λ (x : Expr). eval here x env s) (tree-least ws n z r.0 r.1.0 r.2.0))

  pub ev-least : form (word ws n) ≡ least_form → (a b : ℕ) → a ≡ p1 (word ws n) → b ≡ p2 (word ws n)
      → ev ws n here env s ≡ then_number (ev ws a here env s) (λ x s1. then_field (ev ws b here env s1) (λ g s2. folded lessens g x s2))
  ev-least z a b ea eb =
      ev-by z a b ea eb
      ∙ then_same (ev ws a here env s) _ _
      (λ v s1. then_same (ev ws b here env s1) _ _
      (λ g s2. folded-least (λ acc y u. ev ws (body (word ws n)) here (arguments acc y (pos 0) (pos 0)) u)
      (λ x y u. ((rules q).least z).3.gives here x y u) (field_of g) (number_of v) s2))

  pub ev-folds : Folding (form (word ws n)) → (a b : ℕ) → a ≡ p1 (word ws n) → b ≡ p2 (word ws n) → Folds ws a b here env s (ev ws n here env s)
  ev-folds (inl z) a b ea eb = record { onward = λ x g t. folded lessens g x t; whole = ev-least z a b ea eb }
  ev-folds (inr (inl z)) a b ea eb =
      record { onward = λ x g t. folded (λ acc y u. ev ws (body (word ws n)) here (arguments acc y (pos 0) (pos 0)) u) g x t; whole = ev-fold z _ a b refl ea eb }
  ev-folds (inr (inr z)) a b ea eb =
      record { onward = λ x g t. folded (λ x y u. on_numbers n (operator_of (item (word ws n))) x y u) g x t; whole = ev-foldop z _ a b refl ea eb }

  -- a call: its first argument, and what is left of it
  ev-call : form (word ws n) ≡ call_form → ev ws n here env s ≡ then_number (eval here (arg_of ws (ltb 0 (count (word ws n))) (p1 (word ws n))) env s) (λ x u. second_on ws n here env x u)
  unfolding eval
  ev-call z =
      let r = (rules q).call z in
      ap (λ (x : Expr). eval here x env s) (tree-call ws n z r.0.0 (λ l. r.1.0) (λ l. r.2.0) (λ l. r.3.0) (λ l. r.4.0))

  -- one without arguments
  pub ev-bare : form (word ws n) ≡ call_form → (d : ℕ) → d ≡ body (word ws n) → count (word ws n) ≡ 0 → ev ws n here env s ≡ ev ws d here (arguments (pos 0) (pos 0) (pos 0) (pos 0)) s
  unfolding eval
  ev-bare z d ed ec = ev-call z ∙ rw (ec, ed)

  -- one with some
  pub ev-first : form (word ws n) ≡ call_form → (a : ℕ) → a ≡ p1 (word ws n) → (count (word ws n) ≡ 0 → ⊥)
      → ev ws n here env s ≡ then_number (ev ws a here env s) (λ x u. second_on ws n here env x u)
  ev-first z a ea ec =
      ev-call z
      ∙ rw ea (ap (λ (o : Outcome). then_number o (λ x u. second_on ws n here env x u))
      (an-argument ws _ (p1 (word ws n)) here env s (lt-ltb 0 (count (word ws n)) (omega arith))))

module _ {ws us : List ℕ} {st : List ℤ} {n : ℕ} (q : IsField ws us st n) (here env : List ℤ) (s : State) where
  pub ev-nbr : form (word ws n) ≡ nbr_form → (o a : ℕ) → o ≡ item (word ws n) → a ≡ p1 (word ws n)
      → ev ws n here env s ≡ then_number (ev ws a here env s) (λ x s1. done (field (heard_in here o)) (sending o x s1))
  unfolding eval
  ev-nbr z o a eo ea = let r = (field-rules q).nbr z in rw (eo, ea) (ap (λ (x : Expr). eval here x env s) (tree-nbr ws n z r.0))

  ev-range : form (word ws n) ≡ range_form → (o : ℕ) → o ≡ item (word ws n) → ev ws n here env s ≡ done (field (range_in here o)) (sending o (pos 0) s)
  unfolding eval
  ev-range z o eo = rw eo (ap (λ (x : Expr). eval here x env s) (tree-range ws n z))

  pub ev-lag : form (word ws n) ≡ lag_form → (o : ℕ) → o ≡ item (word ws n) → ev ws n here env s ≡ done (field (lag_in here o)) (sending o (pos 0) s)
  unfolding eval
  ev-lag z o eo = rw eo (ap (λ (x : Expr). eval here x env s) (tree-lag ws n z))

  -- what is no nbr, no nbr-lag, no if and no operator is an nbr-range
  pub ev-ranged : (k o : ℕ) → k ≡ form (word ws n) → o ≡ item (word ws n) → (k ≡ nbr_form → ⊥) → (k ≡ lag_form → ⊥) → (k ≡ field_if_form → ⊥) → (k ≡ field_operator_form → ⊥)
      → ev ws n here env s ≡ done (field (range_in here o)) (sending o (pos 0) s)
  ev-ranged k o ek eo nb lg fi op = ev-range (is-range k _ ek q.sort (field-rules q).known nb lg fi op) o eo
    where
      is-range : (k f : ℕ) → k ≡ f → field_forms ≤ f → f < forms → (k ≡ nbr_form → ⊥) → (k ≡ lag_form → ⊥) → (k ≡ field_if_form → ⊥) → (k ≡ field_operator_form → ⊥) → f ≡ range_form
      is-range k f e l h p q r t = omega arith

  pub ev-iff : form (word ws n) ≡ field_if_form → (a b c : ℕ) → a ≡ p1 (word ws n) → b ≡ p2 (word ws n) → c ≡ p3 (word ws n)
      → ev ws n here env s ≡ then_number (ev ws a here env s) (λ x s1. cond (is_true x)
      (ev ws b here env (erased (reps (tree_at ws c)) s1))
      (ev ws c here env (erased (reps (tree_at ws b)) s1)))
  unfolding eval
  ev-iff z a b c ea eb ec = let r = (field-rules q).if_f z in rw (ea, eb, ec) (ap (λ (x : Expr). eval here x env s) (tree-iff ws n z r.0.0 r.1.0 r.2.0))

  pub ev-operf : form (word ws n) ≡ field_operator_form → (o a b : ℕ) → o ≡ item (word ws n) → a ≡ p1 (word ws n) → b ≡ p2 (word ws n)
      → ev ws n here env s ≡ then_value (ev ws a here env s) (λ x s1. then_value (ev ws b here env s1) (λ y s2. operated n (operator_of o) x y s2))
  unfolding eval
  ev-operf z o a b eo ea eb = let r = (field-rules q).oper_f z in rw (eo, ea, eb) (ap (λ (x : Expr). eval here x env s) (tree-operf ws n z r.0 r.1))

-- ---- what is left of a call
module _ (ws : List ℕ) (n : ℕ) (here env : List ℤ) (x : ℤ) where
  pub second_none : (s : State) (d : ℕ) → d ≡ body (word ws n) → count (word ws n) ≡ 1 → second_on ws n here env x s ≡ ev ws d here (arguments x (pos 0) (pos 0) (pos 0)) s
  unfolding eval
  second_none s d ed ec = rw (ec, ed)

  pub third-none : (y : ℤ) (s : State) (d : ℕ) → d ≡ body (word ws n) → count (word ws n) ≡ 2 → third_on ws n here env x y s ≡ ev ws d here (arguments x y (pos 0) (pos 0)) s
  unfolding eval
  third-none y s d ed ec = rw (ec, ed)

  pub second-there : (s : State) (b : ℕ) → b ≡ p2 (word ws n) → (count (word ws n) ≡ 0 → ⊥) → (count (word ws n) ≡ 1 → ⊥)
      → second_on ws n here env x s ≡ then_number (ev ws b here env s) (λ y u. third_on ws n here env x y u)
  second-there s b eb e0 e1 =
      rw eb (ap (λ (o : Outcome). then_number o (λ y u. third_on ws n here env x y u)) (an-argument ws _ (p2 (word ws n)) here env s (lt-ltb 1 (count (word ws n)) (omega arith))))

  pub third-there : (y : ℤ) (s : State) (c : ℕ) → c ≡ p3 (word ws n) → 2 < count (word ws n)
      → third_on ws n here env x y s ≡ then_number (ev ws c here env s) (λ z u. fourth_on ws n here env x y z u)
  third-there y s c ec l =
      rw ec (ap (λ (o : Outcome). then_number o (λ z u. fourth_on ws n here env x y z u)) (an-argument ws _ (p3 (word ws n)) here env s (lt-ltb 2 (count (word ws n)) l)))

  pub fourth-read : (y z : ℤ) (s : State) (k b d : ℕ) → k ≡ count (word ws n) → b ≡ p4 (word ws n) → d ≡ body (word ws n)
      → fourth_on ws n here env x y z s ≡ then_number (eval here (arg_of ws (ltb 3 k) b) env s) (λ v u. ev ws d here (arguments x y z v) u)
  fourth-read y z s k b d ek eb ed = rw (ek, eb, ed)
