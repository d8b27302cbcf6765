-- Events that do not clash commute.
use mathlib.Core.Path.{◌≡◌, sym, ap, ◌∙◌}
use mathlib.Core.Logic.{◌≢◌}
use mathlib.Core.Bool.{false, ◌&&◌}
use mathlib.Core.List.{List}
use Prim.Native.Nat.{ℕ, ◌<◌}
use native.Mathlib.Omega.{arith}
use native.Mathlib.Decide.{ℕ_discrete}
use lib.Dec.{eqb}
use lib.ListN.{length, get_or, set}
use lib.Seq.{ext_get_or, set-set, get_or-set_same}
use lib.IntN.{ℤ, pos, nat_abs}
use Rattle.order.specs.Order.{Commute}
use Rattle.order.proofs.Footprint.{apart-commute}
use Rattle.program.specs.Tree.{Expr}
use Rattle.network.specs.Cells.{write}
use Rattle.event.specs.Event.{Event, fire, deliver, lose, link, signal, Entry, event_of}
use Rattle.event.specs.Step.{Plan, sensors_of, digit_set, effect, plan, do_event, step}
use Rattle.clash.specs.Clash.{clash, entries_clash}
use Rattle.network.proofs.Stores.{store-one}
use Rattle.clash.proofs.Digits.{digits-commute}
use Rattle.clash.proofs.Touched.{Fits, fits?, Touched, touched?, plan-chosen, Whole, stays, frame, local}
use Rattle.clash.proofs.Apart.{SameSensors, apart, sensors-inside, not-both}
use Rattle.decide.proofs.Picks.{neither}

-- a sensor lit or put out: digit s of the cell of device a's sensors
abbrev lit : ℕ → ℕ → ℕ → List ℤ → List ℤ
lit a s v n = set n (sensors_of a) (pos (digit_set s v (nat_abs (get_or n (sensors_of a) (pos 0)))))

lit-lit : (n : List ℤ) (a s v t w : ℕ) → sensors_of a < length n
    → lit a t w (lit a s v n) ≡ set n (sensors_of a) (pos (digit_set t w (digit_set s v (nat_abs (get_or n (sensors_of a) (pos 0))))))
lit-lit n a s v t w b = rw (set-set, get_or-set_same n (sensors_of a) _ (pos 0) b)

lit-commute : (n : List ℤ) (a s v t w : ℕ) → sensors_of a < length n → s ≢ t → lit a t w (lit a s v n) ≡ lit a s v (lit a t w n)
lit-commute n a s v t w b q = rw (lit-lit n a s v t w b, lit-lit n a t w s v b, digits-commute s t v w)

module _ (main : Expr) where
  -- by the cells that they touch
  footprints : (n : List ℤ) (e f : Event) → Whole n → ((c : ℕ) → Touched e c → Touched f c → ⊥) → Commute (do_event main) n e f
  footprints =
      apart-commute (do_event main) (λ n c. get_or n c (pos 0)) Whole (stays main)
      (λ n m g k h. ext_get_or (pos 0) n m (g ∙ sym k) (λ i _. h i)) Touched touched? (frame main) (local main)

  -- what a signal in range does
  signalled : (n : List ℤ) (a s v : ℕ) → Fits (signal a s v) → plan main n (signal a s v) ≡ effect main n (signal a s v)
  signalled n a s v h = rw (plan-chosen, h)

  lit-network : (n : List ℤ) (a s v : ℕ) → Fits (signal a s v) → (do_event main n (signal a s v)).0 ≡ lit a s v n
  lit-network n a s v h = ap (λ (p : Plan). write n p.0) (signalled n a s v h) ∙ sym (store-one n (sensors_of a) _)

  lit-answer : (n : List ℤ) (a s v : ℕ) → Fits (signal a s v) → (do_event main n (signal a s v)).1 ≡ (pos 0, pos 0)
  lit-answer n a s v h = ap (λ (p : Plan). p.1) (signalled n a s v h)

  -- two sensors of one device: both orders set both digits
  two-signals : (n : List ℤ) (a s v t w : ℕ) → Whole n → s ≢ t → Fits (signal a s v) → Fits (signal a t w)
      → Commute (do_event main) n (signal a s v) (signal a t w)
  two-signals n a s v t w g q h k =
      let x : List ℤ = (do_event main n (signal a s v)).0 in
      let y : List ℤ = (do_event main n (signal a t w)).0 in
      let b : sensors_of a < length n = omega (arith, sensors-inside a s v h) in (
        lit-network x a t w k ∙ ap (lit a t w) (lit-network n a s v h) ∙ lit-commute n a s v t w b q
            ∙ sym (lit-network y a s v h ∙ ap (lit a s v) (lit-network n a t w k)),
        lit-answer n a s v h ∙ sym (lit-answer y a s v h),
        lit-answer x a t w k ∙ sym (lit-answer n a t w k),
      )

  unless-signals : (n : List ℤ) (e f : Event) → Whole n → clash e f ≡ false → ¬ SameSensors e f → Commute (do_event main) n e f
  unless-signals n e f g q h = footprints n e f g (λ c t u. h (apart e f q c t u))

  -- two signals in range of one device set two digits; any others touch no common cell
  signals-commute : (n : List ℤ) (a s v b t w : ℕ) → Whole n → clash (signal a s v) (signal b t w) ≡ false
      → Commute (do_event main) n (signal a s v) (signal b t w)
  signals-commute n a s v b t w g q = go (ℕ_discrete a b) (fits? (signal a s v)) (fits? (signal b t w))
    where
      go : Dec (a ≡ b) → Dec (Fits (signal a s v)) → Dec (Fits (signal b t w)) → Commute (do_event main) n (signal a s v) (signal b t w)
      go (no d) _ _ = unless-signals n (signal a s v) (signal b t w) g q d
      go (yes d) (no h) _ = footprints n (signal a s v) (signal b t w) g (λ c i j. h i.0)
      go (yes d) (yes h) (no k) = footprints n (signal a s v) (signal b t w) g (λ c i j. k j.0)
      go (yes d) (yes h) (yes k) = rw (← d) (two-signals n a s v t w g (not-both a s b t (neither (eqb a b && eqb s t) _ q).0 d) h (rw (← d) at k))

  events-commute : (n : List ℤ) (e f : Event) → Whole n → clash e f ≡ false → Commute (do_event main) n e f
  events-commute n (fire a) f g q = unless-signals n (fire a) f g q (λ x. x)
  events-commute n (deliver a b) f g q = unless-signals n (deliver a b) f g q (λ x. x)
  events-commute n (lose a b) f g q = unless-signals n (lose a b) f g q (λ x. x)
  events-commute n (link a b d) f g q = unless-signals n (link a b d) f g q (λ x. x)
  events-commute n (signal a s v) (fire b) g q = unless-signals n (signal a s v) (fire b) g q (λ x. x)
  events-commute n (signal a s v) (deliver b c) g q = unless-signals n (signal a s v) (deliver b c) g q (λ x. x)
  events-commute n (signal a s v) (lose b c) g q = unless-signals n (signal a s v) (lose b c) g q (λ x. x)
  events-commute n (signal a s v) (link b c d) g q = unless-signals n (signal a s v) (link b c d) g q (λ x. x)
  events-commute n (signal a s v) (signal b t w) g q = signals-commute n a s v b t w g q

  -- the same of entries of lists
  pub entries-commute : (n : List ℤ) (e f : Entry) → Whole n → entries_clash e f ≡ false → Commute (step main) n e f
  entries-commute n e f g q = events-commute n (event_of e) (event_of f) g q
