-- A device's messages and cells after a round, and a fire from its round's outcome. Assumes nothing.
use mathlib.Core.Path.{◌≡◌, refl, sym, ◌∙◌}
use mathlib.Core.Bool.{true, false}
use mathlib.Core.List.{List, [], ◌∷◌, map}
use Prim.Native.Nat.{ℕ, ◌+◌, ◌-◌, ◌*◌, ◌≤◌, ◌<◌}
use native.Mathlib.Nat.{add-zero}
use native.Mathlib.Omega.{arith}
use lib.ListN.{length, get_or, drop}
use lib.IntN.{ℤ, pos, ◌-ℤ◌}
use mir.Syntax.{w32}
use mir.Val.{SFits, of_z, to_z}
use mir.ValLaws.{to_z-of_z}
use borrow.Author.Tests.{le-ltb}
use Rattle.number.specs.Number.{mark}
use Rattle.field.specs.Field.{devices, each}
use Rattle.program.specs.Tree.{Expr}
use Rattle.network.specs.Cells.{row, store, write}
use Rattle.network.specs.Network.{block_size, base, heard_at, pending_at, age_at, no_message}
use Rattle.round.specs.Round.{State, Outcome, done, fault, own, arguments, eval, round, message, joined, older, ages, faded, after, fired_by, fired}
use Rattle.round.proofs.Own.{own-heard, own-variables}
use Rattle.event.specs.Event.{fire}
use Rattle.event.specs.Step.{pending_to, out_of_range, block, effect, plan}
use Rattle.apply.specs.State.{state_size, state_of, fault_of, Gives}
use Rattle.arith.proofs.Signs.{eq_z-yes, eq_z-no}
use Rattle.verdict.specs.declared.Reason.TheVariants.{BadItem}
use Rattle.effects.specs.declared.Answer.{Answer}
use Rattle.effects.specs.declared.Answer.TheVariants.{Refused}
use Rattle.effects.specs.Does.{answer_of, Acts, IdleRow, Idle}
use Rattle.effects.proofs.Refusals.{is-14, is-0, turned}
use Rattle.fire.specs.Fires.{at_first, IdleRows, Puts}
use Rattle.field.proofs.Each.{from-same}
use Rattle.cells.proofs.Rows.{row-length, store-row, joined_length, write-into}
use Rattle.effects.proofs.Idle.{message-length, idle-out}
use Rattle.fading.specs.Fading.{Older}
use Rattle.fading.proofs.Rows.{faded-length, ages-length}

-- ---- the message to a device
module _ (here : List ℤ) (s : State) (b : ℕ) where
  place : heard_at (1 + b) + 0 ≡ heard_at 1 + 16 * b
  place = omega arith

  pub unlinked : get_or here (heard_at 1 + 16 * b) (pos 0) ≡ mark → message here s (1 + b) ≡ no_message
  unfolding message
  unlinked e = rw (place, eq_z-yes (get_or here (heard_at 1 + 16 * b) (pos 0)) mark e)

  pub linked : (get_or here (heard_at 1 + 16 * b) (pos 0) ≡ mark → ⊥) → message here s (1 + b) ≡ pos 1 ∷ drop 1 s.sent
  unfolding message
  linked e = rw (place, eq_z-no (get_or here (heard_at 1 + 16 * b) (pos 0)) mark e)

-- ---- what is asked of the rows of messages
-- of one behind what was stored
pub idle-behind : (n m vs : List ℤ) (lo p : ℕ) → m ≡ store n lo vs → lo + length vs ≤ p → IdleRow (row n p 16) → IdleRow (row m p 16)
idle-behind n m vs lo p e h i = rw e (idle-out n lo vs p (λ c x y z w. omega arith) i)

-- of one of a device whose cells are from `at` on, where what it heard is a round older
pub idle-older : (n m : List ℤ) (at b : ℕ) → at + block_size ≤ length n → b < devices → Older n at m → IdleRow (row n (at + pending_at 1 + 16 * b) 16) → IdleRow (row m (at + pending_at 1 + 16 * b) 16)
idle-older n m at b h l o i =
    let p : ℕ = at + pending_at 1 + 16 * b in
    rw o.network
    (idle-out (store n (at + heard_at 1) (joined (each (faded (row n at block_size))))) (at + age_at 1) (map older (ages (row n at block_size))) p (λ c x y z w. omega arith)
    (idle-out n (at + heard_at 1) (joined (each (faded (row n at block_size)))) p (λ c x y z w. omega (arith, faded-length n at h)) i))

-- of those of device a
pub idle-rows : (n : List ℤ) (a : ℕ) → Idle n → 1 ≤ a → a ≤ devices → IdleRows n (base a + pending_at 1)
idle-rows n a i p q b h = let e : pending_to (1 + (a - 1)) (1 + b) ≡ base a + pending_at 1 + 16 * b = omega arith in rw e at (i (a - 1) b (omega arith) h)

messages-same : (l : List ℤ) (s : State) → pending_at 1 ≤ length l → each (message l s) ≡ each (message (own l) s)
unfolding message
messages-same l s k = from-same (message l s) (message (own l) s) 16 1 (λ j h. rw (own-heard l k 0 (1 + j) (omega arith)))

-- ---- what a state's lists have
module _ (st : List ℤ) (h : length st ≡ state_size) where
  pub variables-length : length (state_of st).variables ≡ 16
  unfolding state_of
  variables-length = row-length st 0 16 (omega arith)

  pub sent-length : length (state_of st).sent ≡ 16
  unfolding state_of
  sent-length = row-length st 16 16 (omega arith)

  pub message-cells : (here : List ℤ) (b : ℕ) → length (message here (state_of st) b) ≡ 16
  message-cells here b = message-length here (state_of st) b sent-length

-- ---- an outcome
pub record Stopped (o : Outcome) (st b : List ℤ) : Type 0 where
  pub node : ℕ
  pub says : fault_of st ≡ pos (node + 1)
  pub is : fired_by o b ≡ (b, (pos 17, pos node))

pub went : (o : Outcome) (r : ℤ) (st b : List ℤ) → Gives o r st → fault_of st ≡ pos 0 → fired_by o b ≡ (after b (state_of st), (pos 0, r))
went (done v s) r st b g z = rw (g.left.0, ← g.left.1)
went (fault n) r st b g z = let q : pos (n + 1) ≡ pos 0 = sym g.left ∙ z in let k : n + 1 ≡ 0 = cc in absurd (omega arith)

pub stopped : (o : Outcome) (r : ℤ) (st b : List ℤ) → Gives o r st → (fault_of st ≡ pos 0 → ⊥) → Stopped o st b
stopped (done v s) r st b g z = absurd (z g.left.2)
stopped (fault n) r st b g z = record { node = n; says = g.left; is = refl }

-- the node that a fault names, one less than its cell
module _ (z : ℤ) (k : ℕ) (f : SFits w32 z) (e : z ≡ pos (k + 1)) where
  less_one : to_z w32 (of_z w32 z) -ℤ pos 1 ≡ pos k
  less_one = let q : k + 1 - 1 ≡ k = omega arith in rw (to_z-of_z w32 z f, e, le-ltb (k + 1) 1 (omega arith), q)

  fits-too : SFits w32 (pos k)
  fits-too = let g = rw e at f in record { sfits = omega (arith, g.sfits) }

  pub node-fits : SFits w32 (to_z w32 (of_z w32 z) -ℤ pos 1)
  node-fits = rw less_one fits-too

  pub node-read : to_z w32 (of_z w32 (to_z w32 (of_z w32 z) -ℤ pos 1)) ≡ pos k
  node-read = rw less_one (to_z-of_z w32 (pos k) fits-too)

-- ---- a fire of a
module _ (main : Expr) (n : List ℤ) (a : ℕ) where
  pub refused : out_of_range (fire a) ≡ true → Acts main n (fire a) (Refused BadItem) n
  refused o = turned n (fire a) BadItem (is-14 n (fire a) o) main

  planned : out_of_range (fire a) ≡ false → plan main n (fire a) ≡ effect main n (fire a)
  unfolding plan
  planned o = rw (is-0 n (fire a) o refl refl)

  enough : base a + block_size ≤ length n → pending_at 1 ≤ length (block n a)
  enough h = omega (arith, row-length n (base a) block_size h)

  round_is : base a + block_size ≤ length n → round main (block n a) ≡ eval (own (block n a)) main (arguments (pos 0) (pos 0) (pos 0) (pos 0)) (at_first (own (block n a)))
  unfolding round
  round_is h = rw (own-variables (block n a) (enough h))

  -- the cells of a after its round, stored where they are
  stored-whole : (s : State) → base a + block_size ≤ length n → length s.variables ≡ 16 → length s.sent ≡ 16
      → store n (base a) (after (block n a) s) ≡ write n (
      (base a + heard_at 1, joined (each (faded (block n a))))
      ∷ (base a + age_at 1, map older (ages (block n a)))
      ∷ (base a, s.variables)
      ∷ (base a + pending_at 1, joined (each (message (own (block n a)) s)))
      ∷ [])
  unfolding after
  stored-whole s h v w =
      let k : length (block n a) ≡ block_size = row-length n (base a) block_size h in
      let m = joined_length (message (block n a) s) 16 1 16 (λ b _. message-length (block n a) s (1 + b) w) in
      let ws : List (ℕ × List ℤ) =
      (heard_at 1, joined (each (faded (block n a)))) ∷ (age_at 1, map older (ages (block n a))) ∷ (0, s.variables) ∷ (pending_at 1, joined (each (message (block n a) s))) ∷ [] in
      write-into n (block n a) (base a) ws (omega (arith, faded-length n (base a) h), (omega (arith, ages-length n (base a) h), (omega arith, (omega arith, tt))))
      ∙ rw (store-row n (base a) block_size, add-zero (base a), messages-same (block n a) s (enough h))

  module _ (h : base a + block_size ≤ length n) (here : List ℤ) (lent : here ≡ own (block n a)) (r : ℤ) (first st : List ℤ) (x : Answer) (go : out_of_range (fire a) ≡ false)
      (e : state_of first ≡ at_first here) (g : Gives (eval here main (arguments (pos 0) (pos 0) (pos 0) (pos 0)) (state_of first)) r st) where
    gives : Gives (round main (block n a)) r st
    gives = let q = rw e at g in let p = rw lent at q in rw (round_is h) p

    pub fires : (m : List ℤ) → fault_of st ≡ pos 0 → length st ≡ state_size → Puts n (base a) here st m → answer_of x ≡ (pos 0, r) → Acts main n (fire a) x m
    unfolding fired
    fires m z k p q =
        let w = went (round main (block n a)) r st (block n a) gives z in
        record {
          network = rw (planned go, w) (rw lent at p.network ∙ sym (stored-whole (state_of st) h (variables-length st k) (sent-length st k)));
          answer = rw (planned go, w) q;
        }

    pub fails : (fault_of st ≡ pos 0 → ⊥) → ((k : ℕ) → fault_of st ≡ pos (k + 1) → answer_of x ≡ (pos 17, pos k)) → Acts main n (fire a) x n
    unfolding fired
    fails z q =
        let w = stopped (round main (block n a)) r st (block n a) gives z in
        record { network = rw (planned go, w.is) (sym (store-row n (base a) block_size)); answer = rw (planned go, w.is) (q w.node w.says) }
