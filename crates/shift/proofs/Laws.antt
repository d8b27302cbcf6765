-- What a run from a fresh network came to, as the replay prints it. Assumes nothing.
use mathlib.Core.Path.{◌≡◌, refl, sym, ap, ◌∙◌}
use mathlib.Core.Bool.{Bool, true, false, cond}
use mathlib.Core.List.{List, [], ◌∷◌}
use Prim.Native.Nat.{ℕ, ◌*◌, ◌≤◌}
use native.Mathlib.Omega.{arith}
use lib.Dec.{eqb, leb}
use lib.ListN.{length, replicate, length-replicate}
use lib.IntN.{ℤ, pos}
use borrow.Author.Tests.{eqb-true, eqb-false, leb-true, ne_eqb, eq-eqb}
use Rattle.program.specs.Check.{Verdict}
use Rattle.network.specs.Network.{network_size, fresh, fresh_call}
use Rattle.event.specs.Event.{Read, entries, refused_at, read_list, entries_of, list_verdict}
use Rattle.event.specs.Calls.{answer_width, Result, first_refusal, tests, carried_out, run}
use Rattle.std.specs.Prelude.{Ok, Err, IfOk, IfErr}
use Rattle.std.specs.Prelude.{Result as Res}
use Rattle.verdict.specs.Outcome.{number_of, refusal_at}
use Rattle.verdict.specs.declared.Refusal.{Refusal}
use Rattle.verdict.specs.declared.Reason.{Reason}
use Rattle.verdict.specs.declared.Reason.TheVariants.{BadField, TooMany, OutOfRange, NotGiven, Taken, BadEnd, WrongSort, Misread, Misused, TooCostly, Unsound, BadList, ShortSpace, BadItem, Itself, NothingPending}
use Rattle.verdict.specs.declared.Reason.TheVariants.{DividedByZero, BadFile, Outside, BadName}
use Rattle.lists.specs.Listed.{count_of}
use Rattle.lines.specs.Text.{lines, refused_line}
use Rattle.shift.specs.Replayed.{blank, outcome, printed, replayed}

-- the network is fresh before the run
pub made : (zeros net : List ℤ) (v : ℕ × ℕ) → length zeros ≡ network_size → (v, net) ≡ fresh_call zeros → net ≡ fresh
unfolding fresh_call
made zeros net v h e =
    let p : (fresh_call zeros).1 ≡ fresh = rw (eq-eqb (length zeros) network_size h) in
    ap (λ (x : (ℕ × ℕ) × List ℤ). x.1) e ∙ p

-- ---- where the verdict is 0 the list's answers had room
passed : (v : Verdict) (vs : List Verdict) → (first_refusal (v ∷ vs)).0 ≡ 0 → (first_refusal vs).0 ≡ 0
unfolding first_refusal
passed v vs h = go (eqb v.0 0) refl h
  where
    go : (b : Bool) → eqb v.0 0 ≡ b → (cond b (first_refusal vs) v).0 ≡ 0 → (first_refusal vs).0 ≡ 0
    go true e q = q
    go false e q = absurd (eqb-false v.0 0 e q)

last : (v : Verdict) → (first_refusal (v ∷ [])).0 ≡ 0 → v.0 ≡ 0
unfolding first_refusal
last v h = go (eqb v.0 0) refl h
  where
    go : (b : Bool) → eqb v.0 0 ≡ b → (cond b (0, 0) v).0 ≡ 0 → v.0 ≡ 0
    go true e q = eqb-true v.0 0 e
    go false e q = q

chosen : (t : Verdict) (a z : Result) → z.verdict ≡ t → (cond (eqb t.0 0) a z).verdict.0 ≡ 0 → t.0 ≡ 0
chosen t a z d h = go (eqb t.0 0) refl h
  where
    go : (b : Bool) → eqb t.0 0 ≡ b → (cond b a z).verdict.0 ≡ 0 → t.0 ≡ 0
    go true e q = eqb-true t.0 0 e
    go false e q = sym (ap (λ (w : Verdict). w.0) d) ∙ q

tested : (program : List ℕ) (n : List ℤ) (r : Read) (x : List ℤ) → (carried_out program n r x).verdict.0 ≡ 0 → (tests program n r x).0 ≡ 0
unfolding carried_out
tested program n r x h = chosen (tests program n r x) _ _ refl h

roomy : (b : Bool) → (cond {A = ℕ × ℕ} b (0, 0) (13, 0)).0 ≡ 0 → b ≡ true
roomy true h = refl
roomy false h = absurd (omega arith)

numbered : (r : Reason) → number_of r ≡ 0 → ⊥
numbered BadField h = cc
numbered TooMany h = cc
numbered OutOfRange h = cc
numbered NotGiven h = cc
numbered Taken h = cc
numbered BadEnd h = cc
numbered WrongSort h = cc
numbered Misread h = cc
numbered Misused h = cc
numbered TooCostly h = cc
numbered Unsound h = cc
numbered BadList h = cc
numbered ShortSpace h = cc
numbered BadItem h = cc
numbered Itself h = cc
numbered NothingPending h = cc
numbered DividedByZero h = cc
numbered BadFile h = cc
numbered Outside h = cc
numbered BadName h = cc

of_count : (q : Read) (k : ℕ) → Ok k ≡ count_of q → k ≡ length (entries_of q)
of_count (entries l) k e = cc
of_count (refused_at n) k e = cc

not_refused : (q : Read) (x : Refusal) → Err x ≡ count_of q → (list_verdict q).0 ≡ 0 → ⊥
not_refused (entries l) x e h = cc
not_refused (refused_at n) x e h = cc

-- what a run from a fresh network came to: its verdict v, the network and the space that it left
module _ (program list : List ℕ) {f v : Verdict} {net network space : List ℤ} (start : (f, net) ≡ fresh_call (replicate network_size (pos 0)))
    (end : record { verdict = v; network = network; space = space } ≡ run program net list blank) where
  n : ℕ
  n = length (entries_of (read_list list))

  ran : record { verdict = v; network = network; space = space } ≡ outcome program list
  unfolding outcome
  ran = end ∙ ap (λ (m : List ℤ). run program m list blank) (made (replicate network_size (pos 0)) net f (length-replicate network_size (pos 0)) start)

  pub turned : (v.0 ≡ 0 → ⊥) → refused_line v.0 v.1 ≡ replayed program list
  unfolding replayed n
  turned h = ap (λ (b : Bool). cond b (lines 0 n space) (refused_line v.0 v.1)) (sym (ne_eqb v.0 0 h)) ∙ ap (printed n) ran

  pub done : {k : ℕ} → k ≡ length (entries_of (read_list list)) → v.0 ≡ 0 → lines 0 k space ≡ replayed program list
  unfolding replayed n
  done e h =
      ap (λ (m : ℕ). lines 0 m space) e
      ∙ ap (λ (b : Bool). cond b (lines 0 n space) (refused_line v.0 v.1)) (sym (eq-eqb v.0 0 h)) ∙ ap (printed n) ran

  pub fits : {k : ℕ} → k ≡ length (entries_of (read_list list)) → v.0 ≡ 0 → answer_width * k ≤ length blank
  unfolding outcome run tests
  fits e h =
      let q = tested program fresh (read_list list) blank (sym (ap (λ (r : Result). r.verdict.0) ran) ∙ h) in
      let m = roomy (leb (answer_width * length (entries_of (read_list list))) (length blank)) (last _ (passed _ _ (passed _ _ (passed _ _ q)))) in
      omega (arith, leb-true (answer_width * length (entries_of (read_list list))) (length blank) m)

  head_passed : (w : Verdict) (vs : List Verdict) → (first_refusal (w ∷ vs)).0 ≡ 0 → w.0 ≡ 0
  unfolding first_refusal
  head_passed w vs h = go (eqb w.0 0) refl h
    where
      go : (b : Bool) → eqb w.0 0 ≡ b → (cond b (first_refusal vs) w).0 ≡ 0 → w.0 ≡ 0
      go true e q = eqb-true w.0 0 e
      go false e q = q

  listed : v.0 ≡ 0 → (list_verdict (read_list list)).0 ≡ 0
  unfolding outcome run tests
  listed h =
      let q = tested program fresh (read_list list) blank (sym (ap (λ (r : Result). r.verdict.0) ran) ∙ h) in
      head_passed _ _ (passed _ _ (passed _ _ q))

  pub refusal : (e : Refusal) → v ≡ refusal_at e → refused_line (number_of e.reason) e.place ≡ replayed program list
  refusal e p = rw p at (turned (λ h. numbered e.reason (ap (λ (w : Verdict). w.0) (sym p) ∙ h)))

  pub answers : (r : Res ℕ Refusal) → r ≡ count_of (read_list list) → v.0 ≡ 0 → IfOk r (λ k. lines 0 k space ≡ replayed program list)
  answers (Ok k) e h = done (of_count (read_list list) k e) h
  answers (Err x) e h = tt

  pub room_for : (m : ℕ) (r : Res ℕ Refusal) → r ≡ count_of (read_list list) → v.0 ≡ 0 → m ≡ length blank → IfOk r (λ k. answer_width * k ≤ m)
  room_for m (Ok k) e h q = rw q (fits (of_count (read_list list) k e) h)
  room_for m (Err x) e h q = tt

  pub no_refusal : (P : Refusal → Type 0) (r : Res ℕ Refusal) → r ≡ count_of (read_list list) → v.0 ≡ 0 → IfErr r P
  no_refusal P (Ok k) e h = tt
  no_refusal P (Err x) e h = absurd (not_refused (read_list list) x e (listed h))
