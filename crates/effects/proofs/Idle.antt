-- What `fire` asks of the rows of messages: a sound network has it, and every event keeps it. Assumes nothing.
use mathlib.Core.Path.{◌≡◌, refl, sym, ◌∙◌}
use mathlib.Core.Bool.{Bool, true, false, cond, ◌&&◌, or-true, or-false}
use mathlib.Core.List.{List, [], ◌∷◌, map}
use Prim.Native.Nat.{ℕ, zero, suc, ◌+◌, ◌-◌, ◌*◌, ◌/◌, ◌%◌, ◌≤◌, ◌<◌}
use native.Mathlib.Decide.{ℕ_discrete}
use native.Mathlib.Omega.{arith}
use lib.Dec.{eqb}
use lib.ListN.{length, get_or, drop, length-take, length-drop, get_or-replicate}
use lib.Seq.{ext_get_or, get_or-take, get_or-drop}
use lib.IntN.{ℤ, pos}
use borrow.Author.Tests.{not-false, eqb-true, ne_eqb, lt-ltb, le-ltb}
use Rattle.number.specs.Number.{mark, eq_z}
use Rattle.field.specs.Field.{devices, each}
use Rattle.program.specs.Tree.{Expr}
use Rattle.network.specs.Cells.{row, store, write}
use Rattle.network.specs.Network.{sensors_at, heard_at, pending_at, age_at, block_size, network_size, base, no_message, is_distance, pending_sound, cell_sound, soundness}
use Rattle.network.proofs.Stores.{length-store}
use Rattle.round.specs.Round.{State, message, joined, older, ages, faded, after, fired}
use Rattle.round.proofs.After.{fired-length}
use Rattle.event.specs.Event.{Event, fire, deliver, lose, link, signal}
use Rattle.event.specs.Step.{sensors_of, heard_from, pending_to, age_of, block, is_device, out_of_range, refusal, effect, plan, do_event}
use Rattle.event.proofs.Devices.{Device, device, pair_of}
use Rattle.decide.proofs.Picks.{both}
use Rattle.arith.proofs.Signs.{eq_z-yes, eq_z-same}
use Rattle.effects.specs.Does.{IdleRow, Idle}
use Rattle.effects.proofs.Refusals.{in-range}
use Rattle.cells.proofs.Rows.{row-length, store-row, row_first, row_out, row_in, joined_length, joined-row}
use Rattle.effects.proofs.Variables.{fired-has}
use Rattle.effects.proofs.Lit.{cell-sound, sound-length}

-- ---- a message
pub message-length : (here : List ℤ) (s : State) (b : ℕ) → length s.sent ≡ 16 → length (message here s b) ≡ 16
unfolding message
message-length here s b h = go (eq_z (get_or here (heard_at b + 0) (pos 0)) mark)
  where
    go : (t : Bool) → length (cond t no_message (pos 1 ∷ drop 1 s.sent)) ≡ 16
    go true = refl
    go false = omega (arith, length-drop 1 s.sent)

idle-message : (here : List ℤ) (s : State) (b : ℕ) → IdleRow (message here s b)
unfolding message
idle-message here s b = go (eq_z (get_or here (heard_at b + 0) (pos 0)) mark)
  where
    go : (t : Bool) → IdleRow (cond t no_message (pos 1 ∷ drop 1 s.sent))
    go true q = refl
    go false q = absurd (cc)

-- ---- every event keeps it
-- two rows of messages that share a cell are one
one-row : (a b c d z : ℕ) → Device a → Device b → c < devices → d < devices → pending_to (1 + c) (1 + d) ≤ z → z < pending_to (1 + c) (1 + d) + 16 → pending_to a b ≤ z → z < pending_to a b + 16
    → pending_to a b ≡ pending_to (1 + c) (1 + d)
one-row a b c d z x y i j p q r s =
    let e : a - 1 ≡ c = omega arith in
    let f : b - 1 ≡ d = omega arith in
    omega arith

-- and none has a cell before its device's messages
no_row : (a c d z : ℕ) → d < devices → pending_to (1 + c) (1 + d) ≤ z → z < pending_to (1 + c) (1 + d) + 16 → base a ≤ z → z < base a + pending_at 1 → ⊥
no_row a c d z j p q r s = let e : a - 1 ≡ c = omega arith in omega arith

-- nor one of its ages
no-age : (a b c d z : ℕ) → Device b → d < devices → pending_to (1 + c) (1 + d) ≤ z → z < pending_to (1 + c) (1 + d) + 16 → z ≡ age_of a b → ⊥
no-age a b c d z x j p q e = let f : a - 1 ≡ c = omega arith in omega arith

-- a row apart from what is stored
pub idle-out : (m : List ℤ) (lo : ℕ) (vs : List ℤ) (p : ℕ) → ((c : ℕ) → p ≤ c → c < p + 16 → lo ≤ c → c < lo + length vs → ⊥) → IdleRow (row m p 16) → IdleRow (row (store m lo vs) p 16)
idle-out m lo vs p f g = rw (row_out m lo vs p 16 (pos 0) f) g

-- the row of nothing pending stored
idle-none : (m : List ℤ) (a b c d : ℕ) → length m ≡ network_size → Device a → Device b → c < devices → d < devices → IdleRow (row m (pending_to (1 + c) (1 + d)) 16)
    → IdleRow (row (store m (pending_to a b) no_message) (pending_to (1 + c) (1 + d)) 16)
idle-none m a b c d l x y i j g = go (ℕ_discrete (pending_to a b) (pending_to (1 + c) (1 + d)))
  where
    go : Dec (pending_to a b ≡ pending_to (1 + c) (1 + d)) → IdleRow (row (store m (pending_to a b) no_message) (pending_to (1 + c) (1 + d)) 16)
    go (yes e) = λ q.
        let f : pending_to (1 + c) (1 + d) ≡ pending_to a b + 0 = omega arith in
        rw f (row_in m (pending_to a b) no_message 0 16 (pos 0) (omega arith) (omega arith))
    go (no e) = idle-out m (pending_to a b) no_message (pending_to (1 + c) (1 + d)) (λ z p q r s. e (one-row a b c d z x y i j p q r s)) g

module _ (main : Expr) (n : List ℤ) (w : length n ≡ network_size) (h : Idle n) where
  -- after a round of device a, its row to device 1 + d
  after-idle : (a d : ℕ) (s : State) → Device a → d < devices → length s.variables ≤ 16 → length s.sent ≡ 16
      → IdleRow (row (store n (base a) (after (block n a) s)) (base a + (pending_at 1 + 16 * d)) 16)
  unfolding after
  after-idle a d s x j v t =
      let b = block n a in
      let k : length b ≡ block_size = row-length n (base a) block_size (omega arith) in
      let u : List ℤ = joined (each (message b s)) in
      let m : List ℤ = store (store (store b (heard_at 1) (joined (each (faded b)))) (age_at 1) (map older (ages b))) 0 s.variables in
      let e : length u ≡ 16 * 16 = joined_length (message b s) 16 1 16 (λ i _. message-length b s (1 + i) t) in
      rw (
        row_in n (base a) (store m (pending_at 1) u) (pending_at 1 + 16 * d) 16 (pos 0) (simp length-store (omega arith)) (simp length-store (omega arith)),
        row_in m (pending_at 1) u (16 * d) 16 (pos 0) (omega arith) (simp length-store (omega arith)),
        joined-row (message b s) 16 1 16 d (λ i. message-length b s i t) j,
      )
      (idle-message b s (1 + d))

  effect-idle : (e : Event) → out_of_range e ≡ false → Idle (write n (effect main n e).0)
  effect-idle (fire a) o c d i j = go (ℕ_discrete a (1 + c))
    where
      x : Device a
      x = device a (not-false _ o)

      go : Dec (a ≡ 1 + c) → IdleRow (row (store n (base a) (fired main (block n a)).0) (pending_to (1 + c) (1 + d)) 16)
      go (yes e) =
          let f : pending_to (1 + c) (1 + d) ≡ base a + (pending_at 1 + 16 * d) = omega arith in
          fired-has (λ m. IdleRow (row (store n (base a) m) (pending_to (1 + c) (1 + d)) 16)) main (block n a)
          (rw (store-row n (base a) block_size) (h c d i j))
          (λ s v t. rw f (after-idle a d s x j v t))
      go (no e) =
          idle-out n (base a) (fired main (block n a)).0 (pending_to (1 + c) (1 + d))
          (λ z p q r s. e (omega (arith, x, fired-length main (block n a), length-take block_size (drop (base a) n)))) (h c d i j)
  effect-idle (deliver a b) o c d i j =
      let x = pair_of a b (not-false _ o) in
      let k : length (row n (pending_to a b + 1) 15) ≤ 15 = omega (arith, length-take 15 (drop (pending_to a b + 1) n)) in
      let m : List ℤ = store n (heard_from b a + 1) (row n (pending_to a b + 1) 15) in
      idle-none (store m (age_of b a) (pos 0 ∷ [])) a b c d (simp length-store w) x.0 x.1 i j
      (idle-out m (age_of b a) (pos 0 ∷ []) (pending_to (1 + c) (1 + d)) (λ z p q r s. no-age b a c d z x.0 j p q (omega arith))
      (idle-out n (heard_from b a + 1) (row n (pending_to a b + 1) 15) (pending_to (1 + c) (1 + d)) (λ z p q r s. no_row b c d z j p q (omega arith) (omega arith)) (h c d i j)))
  effect-idle (lose a b) o c d i j = let x = pair_of a b (not-false _ o) in idle-none n a b c d w x.0 x.1 i j (h c d i j)
  effect-idle (link a b v) o c d i j =
      let x = pair_of a b (both (is_device a && is_device b) (is_distance v) (not-false _ o)).0 in
      idle-out n (heard_from a b) (v ∷ []) (pending_to (1 + c) (1 + d)) (λ z p q r s. no_row a c d z j p q (omega arith) (omega arith)) (h c d i j)
  effect-idle (signal a s v) o c d i j = idle-out n (sensors_of a) _ (pending_to (1 + c) (1 + d)) (λ z p q r s. no_row a c d z j p q (omega arith) (omega arith)) (h c d i j)

pub idle-kept : (main : Expr) (n : List ℤ) (e : Event) → length n ≡ network_size → Idle n → Idle (do_event main n e).0
unfolding plan
idle-kept main n e l h = go (eqb (refusal n e) 0) refl
  where
    go : (b : Bool) → eqb (refusal n e) 0 ≡ b → Idle (do_event main n e).0
    go true q = rw q (effect-idle main n l h e (in-range n e (eqb-true (refusal n e) 0 q)))
    go false q = rw q h

-- ---- a sound network has it
slot-mark : (a : ℕ) (l : List ℤ) (b i : ℕ) (z : ℤ) → b < devices → 1 ≤ i → i < 16 → get_or l (pending_at (1 + b)) (pos 0) ≡ pos 0 → cell_sound a l (pending_at (1 + b) + i) z ≡ true → z ≡ mark
unfolding cell_sound pending_sound
slot-mark a l b i z h p k e q =
    let j : ℕ = pending_at (1 + b) + i in
    let r : (j - pending_at 1) / 16 + 1 ≡ 1 + b = omega arith in
    let s : (j - pending_at 1) % 16 ≡ i = omega arith in
    let none = eq_z-yes (get_or l (pending_at (1 + b)) (pos 0)) (pos 0) e in
    let above = le-ltb j sensors_at (omega arith) in
    let other = ne_eqb j sensors_at (λ v. omega arith) in
    let pending = le-ltb j (pending_at 1) (omega arith) in
    let before = lt-ltb j (age_at 1) (omega arith) in
    let t = rw (above, other, pending, before, r, s, ne_eqb i 0 (λ v. omega arith), none, or-true (eqb (1 + b) a)) at q in
    eq_z-same z mark (sym (or-false (eq_z z mark)) ∙ t)

pub idle-sound : (n : List ℤ) → soundness n ≡ (0, 0) → Idle n
idle-sound n q a b i j m =
    let l : length (row n p 16) ≡ 16 = row-length n p 16 (omega (arith, sound-length n q)) in
    ext_get_or (pos 0) (row n p 16) no_message l (λ k h. cell k (omega arith))
  where
    p : ℕ
    p = pending_to (1 + a) (1 + b)

    first : get_or (row n (a * block_size) block_size) (pending_at (1 + b)) (pos 0) ≡ pos 0
    first =
        let e : a * block_size + pending_at (1 + b) ≡ pending_to (1 + a) (1 + b) = omega arith in
        rw (get_or-take block_size (drop (a * block_size) n) (pending_at (1 + b)) (pos 0) (omega arith), get_or-drop (a * block_size) n (pending_at (1 + b)) (pos 0), e)
        (sym (row_first n (pending_to (1 + a) (1 + b)) 16 (pos 0) (omega arith)) ∙ m)

    cell : (k : ℕ) → k < 16 → get_or (row n p 16) k (pos 0) ≡ get_or no_message k (pos 0)
    cell zero h = m
    cell (suc k) h =
        let c : ℕ = pending_at (1 + b) + suc k in
        let e : pending_to (1 + a) (1 + b) + suc k ≡ a * block_size + c = omega arith in
        rw (get_or-take 16 (drop (pending_to (1 + a) (1 + b)) n) (suc k) (pos 0) h, get_or-drop (pending_to (1 + a) (1 + b)) n (suc k) (pos 0), e)
        (slot-mark (1 + a) (row n (a * block_size) block_size) b (suc k) _ j (omega arith) h first (cell-sound n q a c i (omega arith)) ∙ sym (get_or-replicate 15 k mark (pos 0) (omega arith)))
