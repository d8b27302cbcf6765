-- What demand 3 asks, what it concludes, and when two events are the same: read off at examples. Assumes nothing.
use mathlib.Core.Path.{◌≡◌, refl}
use mathlib.Core.HLevel.{Discrete}
use mathlib.Core.Bool.{Bool, true, false}
use mathlib.Core.List.{List, [], ◌∷◌}
use Prim.Native.Nat.{ℕ, ◌+◌, ◌*◌, ◌<◌}
use native.Mathlib.Decide.{ℕ_discrete}
use lib.ListN.{get_or}
use lib.IntN.{ℤ, pos}
use Rattle.order.specs.Order.{count, place, SameEvents, KeepsOrder}
use Rattle.program.specs.Check.{check}
use Rattle.network.specs.Network.{soundness}
use Rattle.event.specs.Event.{Entry, entries, read_list}
use Rattle.event.specs.Calls.{room, Result, run}
use Rattle.clash.specs.Clash.{entries_clash}
use Rattle.clash.specs.Demand3.{answer_at, EndAlike, Demand3}
use Rattle.clash.specs.Same.{same_bytes, same_parts, same_both, same_entry}

-- an answer is the two numbers at its place
answers : (answer_at (pos 0 ∷ pos 5 ∷ pos 17 ∷ pos 3 ∷ []) 0 ≡ (pos 0, pos 5)) × (answer_at (pos 0 ∷ pos 5 ∷ pos 17 ∷ pos 3 ∷ []) 1 ≡ (pos 17, pos 3))
answers = (refl, refl)

any_place : (space : List ℤ) (p : ℕ) → answer_at space p ≡ (get_or space (2 * p) (pos 0), get_or space (2 * p + 1) (pos 0))
any_place space p = refl

module _ (same : Discrete Entry) (l m : List Entry) (r q : Result) (h : EndAlike same l m r q) where
  -- "both return 0 and 0, end with every cell equal"
  both-return : (r.verdict ≡ (0, 0)) × (q.verdict ≡ (0, 0))
  both-return = (h.first, h.second)

  every-cell : r.network ≡ q.network
  every-cell = h.cells

  -- "and answer the k-th copy of each event with the same numbers": the first copy, the second, any, in both numbers
  first-copy : (e : Entry) → 0 < count same e l → answer_at r.space (place same e 0 l) ≡ answer_at q.space (place same e 0 m)
  first-copy e c = h.answers e 0 c

  second-copy : (e : Entry) → 1 < count same e l → answer_at r.space (place same e 1 l) ≡ answer_at q.space (place same e 1 m)
  second-copy e c = h.answers e 1 c

  any_copy : (e : Entry) (k : ℕ) → k < count same e l → answer_at r.space (place same e k l) ≡ answer_at q.space (place same e k m)
  any_copy e k c = h.answers e k c

-- "two runs of one accepted program, each on a network slice of its own, both sound and alike in every cell at the start", of two orders in which clashing events keep their order,
-- turned away by neither 12 nor 13: nothing more is asked
enough : (same : Discrete Entry) (program : List ℕ) (n n' : List ℤ) (s t : List ℕ) (x y : List ℤ) (l m : List Entry)
    → check program ≡ (0, 0) → soundness n ≡ (0, 0) → soundness n' ≡ (0, 0) → ((c : ℕ) → get_or n c (pos 0) ≡ get_or n' c (pos 0))
    → read_list s ≡ entries l → read_list t ≡ entries m → room l x ≡ (0, 0) → room m y ≡ (0, 0) → SameEvents same l m → KeepsOrder same entries_clash l m
    → Demand3 same → EndAlike same l m (run program n s x) (run program n' t y)
enough same program n n' s t x y l m c o o' a i i' f f' e k d =
    d program n n' s t x y l m
    (record { accepted = c; sound = o; sound' = o'; alike = a; read = i; read' = i'; fits = f; fits' = f'; events = e; order = k })

-- "every event, byte for byte": whether two entries are taken for the same
taken : {A : Type 0} → Dec A → Bool
taken (yes _) = true
taken (no _) = false

abbrev same_as : ℕ → List ℕ → ℕ → List ℕ → Bool
same_as tag body tag' body' = taken (same_entry (record { tag = tag; body = body }) (record { tag = tag'; body = body' }))

byte-for-byte : (same_as 0x11 (1 ∷ 2 ∷ []) 0x11 (1 ∷ 2 ∷ []) ≡ true) × (same_as 0x11 (1 ∷ 2 ∷ []) 0x12 (1 ∷ 2 ∷ []) ≡ false)
    × (same_as 0x11 (1 ∷ 2 ∷ []) 0x11 (2 ∷ 1 ∷ []) ≡ false) × (same_as 0x11 (1 ∷ 2 ∷ []) 0x11 (1 ∷ 3 ∷ []) ≡ false) × (same_as 0x11 (1 ∷ []) 0x11 [] ≡ false)
    × (same_as 0x11 [] 0x11 (1 ∷ []) ≡ false) × (same_as 0x11 [] 0x11 [] ≡ true)
unfolding taken same_entry same_parts same_bytes same_both ℕ_discrete
byte-for-byte = (refl, refl, refl, refl, refl, refl, refl)
