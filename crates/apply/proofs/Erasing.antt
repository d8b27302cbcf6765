-- Variables made absent by a walk over a mask, and by a list: the same, whatever the order and however often. Assumes nothing.
use mathlib.Core.Path.{◌≡◌, refl, sym, ap, ◌∙◌}
use mathlib.Core.Bool.{Bool, true, false, cond, ◌||◌}
use mathlib.Core.List.{List, [], ◌∷◌}
use Prim.Native.Nat.{ℕ, ◌<◌}
use native.Mathlib.Omega.{arith}
use lib.Dec.{eqb}
use lib.IntN.{ℤ, pos}
use lib.ListN.{length, get_or, set, length-set, length-take}
use lib.Seq.{ext_get_or, get_or-set_same, get_or-set_other}
use borrow.Author.Tests.{eq-eqb, eqb-true, eqb-false}
use Rattle.number.specs.Number.{mark}
use Rattle.decide.proofs.Picks.{by-rest}
use Rattle.program.specs.Table.{among}
use Rattle.round.specs.Round.{State, stored, erased}
use Rattle.domain.specs.Members.{members}
use Rattle.domain.proofs.Laws.{member_below, bit-members}
use Rattle.apply.specs.State.{state_of, fault_of, Erases}
use Rattle.apply.proofs.Laws.{state-stored, fault-kept}

-- ---- by a list
abbrev cleared : List ℕ → List ℤ → List ℤ
cleared [] l = l
cleared (v ∷ vs) l = cleared vs (set l v mark)

length-cleared : (vs : List ℕ) (l : List ℤ) → length (cleared vs l) ≡ length l
length-cleared [] l = refl
length-cleared (v ∷ vs) l = length-cleared vs (set l v mark) ∙ length-set l v mark

erased-cleared : (vs : List ℕ) (s : State) → erased vs s ≡ record { variables = cleared vs s.variables; sent = s.sent }
unfolding erased
erased-cleared [] s = refl
erased-cleared (v ∷ vs) s = erased-cleared vs (stored v mark s)

cleared-step : (t b : Bool) (v k : ℕ) (l : List ℤ) → eqb v k ≡ t → v < length l
    → cond b mark (get_or (set l k mark) v (pos 0)) ≡ cond (t || b) mark (get_or l v (pos 0))
cleared-step true b v k l e h = let q : v ≡ k = eqb-true v k e in rw (← q, get_or-set_same l v mark (pos 0) h) (same b)
  where
    same : (b : Bool) → cond b mark mark ≡ mark
    same true = refl
    same false = refl
cleared-step false b v k l e h = ap (λ (z : ℤ). cond b mark z) (get_or-set_other l k v mark (pos 0) (eqb-false v k e))

get_d-cleared : (vs : List ℕ) (l : List ℤ) (v : ℕ) → v < length l → get_or (cleared vs l) v (pos 0) ≡ cond (among v vs) mark (get_or l v (pos 0))
unfolding among
get_d-cleared [] l v h = refl
get_d-cleared (k ∷ vs) l v h =
    get_d-cleared vs (set l k mark) v (rw length-set h) ∙ cleared-step (eqb v k) (among v vs) v k l refl h

cleared-same : (ks vs : List ℕ) (l : List ℤ) → ((v : ℕ) → v < length l → among v ks ≡ among v vs) → cleared ks l ≡ cleared vs l
cleared-same ks vs l m =
    ext_get_or (pos 0) (cleared ks l) (cleared vs l) (length-cleared ks l ∙ sym (length-cleared vs l))
    (λ v b.
    let h : v < length l = rw (length-cleared ks l) at b in
    get_d-cleared ks l v h ∙ ap (λ (t : Bool). cond t mark (get_or l v (pos 0))) (m v h) ∙ sym (get_d-cleared vs l v h))

pub erased-same : (ks vs : List ℕ) (s : State) → ((v : ℕ) → v < length s.variables → among v ks ≡ among v vs) → erased ks s ≡ erased vs s
erased-same ks vs s m =
    erased-cleared ks s
    ∙ ap (λ (l : List ℤ). record { variables = l; sent = s.sent }) (cleared-same ks vs s.variables m)
    ∙ sym (erased-cleared vs s)

-- ---- by a walk
abbrev pub wiped : List ℕ → List ℤ → List ℤ
wiped [] st = st
wiped (k ∷ ks) st = wiped ks (set st k mark)

abbrev Low : List ℕ → Type 0
Low ks = (k : ℕ) → among k ks ≡ true → k < 16

low_first : (k : ℕ) (ks : List ℕ) → Low (k ∷ ks) → k < 16
unfolding among
low_first k ks h = h k (ap (λ (b : Bool). b || among k ks) (eq-eqb k k refl))

low-rest : (k : ℕ) (ks : List ℕ) → Low (k ∷ ks) → Low ks
unfolding among
low-rest k ks h j e = h j (by-rest (eqb j k) e)

state-wiped : (ks : List ℕ) (st : List ℤ) → Low ks → state_of (wiped ks st) ≡ erased ks (state_of st)
unfolding erased
state-wiped [] st h = refl
state-wiped (k ∷ ks) st h =
    state-wiped ks (set st k mark) (low-rest k ks h) ∙ ap (λ (s : State). erased ks s) (state-stored st k mark (low_first k ks h))

fault-wiped : (ks : List ℕ) (st : List ℤ) → Low ks → fault_of (wiped ks st) ≡ fault_of st
fault-wiped [] st h = refl
fault-wiped (k ∷ ks) st h =
    let l : k < 16 = low_first k ks h in fault-wiped ks (set st k mark) (low-rest k ks h) ∙ fault-kept st k mark (omega arith)

variables-few : (st : List ℤ) (v : ℕ) → v < length (state_of st).variables → v < 16
unfolding state_of
variables-few st v h = omega (arith, length-take 16 st)

pub erases : (m : ℕ) (st new : List ℤ) → new ≡ wiped (members m) st → Erases m st new
erases m st new e =
    rw e
    record {
      state =
          λ vs h.
          state-wiped (members m) st (member_below m)
          ∙ erased-same (members m) vs (state_of st)
          (λ v l. let b : v < 16 = variables-few st v l in bit-members m v b ∙ h v b);
      fault = fault-wiped (members m) st (member_below m);
    }

pub erased_by_walk : (m left : ℕ) (st new : List ℤ) → wiped (members left) new ≡ wiped (members m) st → members left ≡ [] → Erases m st new
erased_by_walk m left st new e n = erases m st new (sym (ap (λ (ks : List ℕ). wiped ks new) n) ∙ e)
