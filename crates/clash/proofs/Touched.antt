-- The cells that an event touches: it changes no other (`frame`), and what it does is settled by what stands there (`local`). An event out of range
-- touches none.
use mathlib.Core.Path.{◌≡◌, refl, sym, ap, ◌∙◌}
use mathlib.Core.Logic.Dec
use mathlib.Core.Logic.{◌⊎◌, inl, inr}
use mathlib.Core.Bool.{Bool, true, false, cond, true≢false}
use mathlib.Core.List.{List, []}
use Prim.Native.Nat.{ℕ, ◌+◌}
use native.Mathlib.Omega.{arith}
use native.Mathlib.Decide.{dec_le, dec_lt}
use lib.Dec.{eqb}
use lib.ListN.{length, get_or}
use lib.IntN.{ℤ, pos}
use Rattle.program.specs.Table.{first_of}
use Rattle.program.specs.Tree.{Expr}
use Rattle.network.specs.Cells.{write}
use Rattle.network.specs.Network.{block_size, network_size, base}
use Rattle.event.specs.Event.{Event, fire, deliver, lose, link, signal}
use Rattle.event.specs.Step.{Plan, sensors_of, heard_from, pending_to, age_of, block, out_of_range, to_itself, nothing_pending, refusal, effect, plan, do_event}
use Rattle.round.proofs.After.{fired-length}
use Rattle.clash.proofs.Flat.{Within, Outside, length-write, write-out, write-agree, row-agree, length-row}

abbrev pub Fits : Event → Type 0
Fits e = out_of_range e ≡ false

-- the cells that an event in range reads or sets, where it is not refused
abbrev pub Reach : Event → ℕ → Type 0
Reach (fire a) c = Within (base a) block_size c
Reach (deliver a b) c = Within (heard_from b a + 1) 15 c ⊎ (Within (age_of b a) 1 c ⊎ Within (pending_to a b) 16 c)
Reach (lose a b) c = Within (pending_to a b) 16 c
Reach (link a b d) c = Within (heard_from a b) 1 c
Reach (signal a s v) c = Within (sensors_of a) 1 c

abbrev pub Touched : Event → ℕ → Type 0
Touched e c = Fits e × Reach e c

isFalse? : (t : Bool) → Dec (t ≡ false)
isFalse? false = yes refl
isFalse? true = no true≢false

pub fits? : (e : Event) → Dec (Fits e)
fits? e = isFalse? (out_of_range e)

within? : (lo len c : ℕ) → Dec (Within lo len c)
within? lo len c = Dec.and (dec_le lo c) (dec_lt c (lo + len))

either? : {A B : Type 0} → Dec A → Dec B → Dec (A ⊎ B)
either? (yes a) d = yes (inl a)
either? (no a) (yes b) = yes (inr b)
either? (no a) (no b) = no (λ t. elim t [ inl x ↦ a x | inr y ↦ b y ])

reach? : (e : Event) (c : ℕ) → Dec (Reach e c)
reach? (fire a) c = within? (base a) block_size c
reach? (deliver a b) c = either? (within? (heard_from b a + 1) 15 c) (either? (within? (age_of b a) 1 c) (within? (pending_to a b) 16 c))
reach? (lose a b) c = within? (pending_to a b) 16 c
reach? (link a b d) c = within? (heard_from a b) 1 c
reach? (signal a s v) c = within? (sensors_of a) 1 c

pub touched? : (e : Event) (c : ℕ) → Dec (Touched e c)
touched? e c = Dec.and (fits? e) (reach? e c)

-- of an event that is not refused: where it stores, and what it reads
effect-frame : (main : Expr) (n : List ℤ) (e : Event) (c : ℕ) → ¬ Reach e c → Outside c (effect main n e).0
effect-frame main n (fire a) c h = (λ w. h (omega (arith, fired-length main (block n a), length-row n (base a) block_size)), tt)
effect-frame main n (deliver a b) c h = (λ w. h (inl (omega (arith, length-row n (pending_to a b + 1) 15))), (λ w. h (inr (inl w)), (λ w. h (inr (inr w)), tt)))
effect-frame main n (lose a b) c h = (h, tt)
effect-frame main n (link a b d) c h = (h, tt)
effect-frame main n (signal a s v) c h = (h, tt)

effect-local : (main : Expr) (n m : List ℤ) (e : Event) → length n ≡ length m → ((c : ℕ) → Reach e c → get_or n c (pos 0) ≡ get_or m c (pos 0))
    → (nothing_pending n e ≡ nothing_pending m e) × (effect main n e ≡ effect main m e)
effect-local main n m (fire a) q h = (refl, rw (row-agree n m (base a) block_size (pos 0) q h))
effect-local main n m (deliver a b) q h =
    (rw (h (pending_to a b) (inr (inr (omega arith)))), rw (row-agree n m (pending_to a b + 1) 15 (pos 0) q (λ c w. h c (inr (inr (omega arith))))))
effect-local main n m (lose a b) q h = (rw (h (pending_to a b) (omega arith)), refl)
effect-local main n m (link a b d) q h = (refl, refl)
effect-local main n m (signal a s v) q h = (refl, rw (h (sensors_of a) (omega arith)))

-- the plan by the three tests of the refusals and what is done where none refuses
abbrev number : Bool → Bool → Bool → ℕ
number o t p = cond o 14 (cond t 15 (cond p 16 0))

abbrev chosen : Bool → Bool → Bool → Plan → Plan
chosen o t p w = cond (eqb (number o t p) 0) w ([], (pos (number o t p), pos 0))

pub plan-chosen : (main : Expr) (n : List ℤ) (e : Event) → plan main n e ≡ chosen (out_of_range e) (to_itself e) (nothing_pending n e) (effect main n e)
unfolding plan refusal first_of
plan-chosen main n e = refl

chosen-frame : (o t p : Bool) (w : Plan) (c : ℕ) → (o ≡ false → Outside c w.0) → Outside c (chosen o t p w).0
chosen-frame true t p w c h = tt
chosen-frame false true p w c h = tt
chosen-frame false false true w c h = tt
chosen-frame false false false w c h = h refl

chosen-local : (o t p r : Bool) (w u : Plan) → (o ≡ false → (p ≡ r) × (w ≡ u)) → chosen o t p w ≡ chosen o t r u
chosen-local true t p r w u h = refl
chosen-local false t p r w u h = let k = h refl in rw (k.0, k.1)

-- a network of the right length
abbrev pub Whole : List ℤ → Type 0
Whole n = length n ≡ network_size

pub stays : (main : Expr) (n : List ℤ) (e : Event) → Whole n → Whole (do_event main n e).0
stays main n e g = length-write (plan main n e).0 n ∙ g

pub frame : (main : Expr) (n : List ℤ) (e : Event) → Whole n → (c : ℕ) → ¬ Touched e c → get_or (do_event main n e).0 c (pos 0) ≡ get_or n c (pos 0)
frame main n e g c h =
    write-out (plan main n e).0 n c (pos 0)
    (rw plan-chosen (chosen-frame (out_of_range e) (to_itself e) (nothing_pending n e) (effect main n e) c (λ o. effect-frame main n e c (λ r. h (o, r)))))

pub local : (main : Expr) (n m : List ℤ) (e : Event) → Whole n → Whole m → ((c : ℕ) → Touched e c → get_or n c (pos 0) ≡ get_or m c (pos 0))
    → ((do_event main n e).1 ≡ (do_event main m e).1) × ((c : ℕ) → Touched e c → get_or (do_event main n e).0 c (pos 0) ≡ get_or (do_event main m e).0 c (pos 0))
local main n m e g k h = (
  ap (λ (p : Plan). p.1) alike,
  λ c i. write-agree (plan main n e).0 n m c (pos 0) (g ∙ sym k) (h c i) ∙ ap (λ (p : Plan). get_or (write m p.0) c (pos 0)) alike,
)
  where
    alike : plan main n e ≡ plan main m e
    alike = rw (plan-chosen main n e, plan-chosen main m e)
        (chosen-local (out_of_range e) (to_itself e) (nothing_pending n e) (nothing_pending m e) (effect main n e) (effect main m e)
        (λ o. effect-local main n m e (g ∙ sym k) (λ c r. h c (o, r))))
