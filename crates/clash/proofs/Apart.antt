-- Events that do not clash touch no common cell, but for two signals of one device.
use mathlib.Core.Path.{◌≡◌, refl, sym, ap₂, ◌∙◌}
use mathlib.Core.Logic.{inl, inr}
use mathlib.Core.Bool.{true, false, cond, ◌&&◌, ◌||◌, or-true, true≢false}
use Prim.Native.Nat.{ℕ, ◌+◌, ◌-◌, ◌/◌, ◌%◌, ◌≤◌, ◌<◌}
use native.Mathlib.Omega.{arith}
use lib.Dec.{eqb, leb, ltb}
use lib.IntN.{ℤ}
use borrow.Author.Tests.{eq-eqb, ne_eqb, lt-ltb, le-ltb, not-false}
use Rattle.network.specs.Network.{heard_at, pending_at, age_at, block_size, network_size, is_distance}
use Rattle.event.specs.Event.{Event, fire, deliver, lose, link, signal}
use Rattle.event.specs.Step.{sensors_of, is_device}
use Rattle.decide.proofs.Picks.{both, neither}
use Rattle.event.proofs.Devices.{Device, Pair, device, pair_of}
use Rattle.clash.specs.Clash.{clash, clashes_with, concerns}
use Rattle.clash.proofs.Touched.{Fits, Reach, Touched}

-- the two pairs are not the same
pub not-both : (a b c d : ℕ) → (eqb a c && eqb b d) ≡ false → a ≡ c → b ≡ d → ⊥
not-both a b c d q h k = true≢false (sym (ap₂ (λ x y. x && y) (eq-eqb a c h) (eq-eqb b d k)) ∙ q)

-- the devices of an event in range
abbrev Named : Event → Type 0
Named (fire a) = Device a
Named (deliver a b) = Pair a b
Named (lose a b) = Pair a b
Named (link a b d) = Pair a b
Named (signal a s v) = Device a

named : (e : Event) → Fits e → Named e
named (fire a) h = device a (not-false (is_device a) h)
named (deliver a b) h = pair_of a b (not-false (is_device a && is_device b) h)
named (lose a b) h = pair_of a b (not-false (is_device a && is_device b) h)
named (link a b d) h = pair_of a b (both (is_device a && is_device b) (is_distance d) (not-false (is_device a && is_device b && is_distance d) h)).0
named (signal a s v) h =
    device a (both (is_device a) (leb s 15) (both (is_device a && leb s 15) (leb v 1) (not-false (is_device a && leb s 15 && leb v 1) h)).0).0

pub sensors-inside : (a s v : ℕ) → Fits (signal a s v) → sensors_of a < network_size
sensors-inside a s v h = omega (arith, named (signal a s v) h)

-- the parts of a device's cells: variables and sensors; the distance from b, the slots heard from b, the message pending to b, the age of what was heard from b
data Part : Type 0 where
  own : Part
  distance : ℕ → Part
  heard : ℕ → Part
  pending : ℕ → Part
  age : ℕ → Part

abbrev part_of : ℕ → Part
part_of j =
    cond (ltb j (heard_at 1)) own
    (cond (ltb j (pending_at 1)) (cond (eqb ((j - heard_at 1) % 16) 0) (distance ((j - heard_at 1) / 16 + 1)) (heard ((j - heard_at 1) / 16 + 1)))
    (cond (ltb j (age_at 1)) (pending ((j - pending_at 1) / 16 + 1)) (age (j - age_at 1 + 1))))

-- which device's part an event touches; fire touches all of its device
data Uses : Event → ℕ → Part → Type 0 where
  by-fire : (a : ℕ) (p : Part) → Uses (fire a) a p
  at-hearer : (a b : ℕ) → Uses (deliver a b) b (heard a)
  at-age : (a b : ℕ) → Uses (deliver a b) b (age a)
  at-sender : (a b : ℕ) → Uses (deliver a b) a (pending b)
  by-loss : (a b : ℕ) → Uses (lose a b) a (pending b)
  by-link : (a b : ℕ) (d : ℤ) → Uses (link a b d) a (distance b)
  by-signal : (a s v : ℕ) → Uses (signal a s v) a own

module _ (j b : ℕ) (h : Device b) where
  is-distance : j ≡ heard_at b → part_of j ≡ distance b
  is-distance e =
      let x : (j - heard_at 1) % 16 ≡ 0 = omega arith in
      let y : (j - heard_at 1) / 16 + 1 ≡ b = omega arith in
      rw (le-ltb j (heard_at 1) (omega arith), lt-ltb j (pending_at 1) (omega arith), x, y)

  is-heard : heard_at b < j → j < heard_at b + 16 → part_of j ≡ heard b
  is-heard k l =
      let y : (j - heard_at 1) / 16 + 1 ≡ b = omega arith in
      rw (le-ltb j (heard_at 1) (omega arith), lt-ltb j (pending_at 1) (omega arith), ne_eqb ((j - heard_at 1) % 16) 0 (λ x. omega arith), y)

  is-pending : pending_at b ≤ j → j < pending_at b + 16 → part_of j ≡ pending b
  is-pending k l =
      let y : (j - pending_at 1) / 16 + 1 ≡ b = omega arith in
      rw (le-ltb j (heard_at 1) (omega arith), le-ltb j (pending_at 1) (omega arith), lt-ltb j (age_at 1) (omega arith), y)

  is-age : j ≡ age_at b → part_of j ≡ age b
  is-age e =
      let y : j - age_at 1 + 1 ≡ b = omega arith in
      rw (le-ltb j (heard_at 1) (omega arith), le-ltb j (pending_at 1) (omega arith), le-ltb j (age_at 1) (omega arith), y)

abbrev owner : ℕ → ℕ
owner x = x / block_size + 1

uses : (e : Event) (x : ℕ) → Named e → Reach e x → Uses e (owner x) (part_of (x % block_size))
uses (fire a) x h w = let o : owner x ≡ a = omega arith in rw o (by-fire a (part_of (x % block_size)))
uses (deliver a b) x h (inl w) = let o : owner x ≡ b = omega arith in rw (o, is-heard (x % block_size) a h.0 (omega arith) (omega arith)) (at-hearer a b)
uses (deliver a b) x h (inr (inl w)) = let o : owner x ≡ b = omega arith in rw (o, is-age (x % block_size) a h.0 (omega arith)) (at-age a b)
uses (deliver a b) x h (inr (inr w)) = let o : owner x ≡ a = omega arith in rw (o, is-pending (x % block_size) b h.1 (omega arith) (omega arith)) (at-sender a b)
uses (lose a b) x h w = let o : owner x ≡ a = omega arith in rw (o, is-pending (x % block_size) b h.1 (omega arith) (omega arith)) (by-loss a b)
uses (link a b d) x h w = let o : owner x ≡ a = omega arith in rw (o, is-distance (x % block_size) b h.1 (omega arith)) (by-link a b d)
uses (signal a s v) x h w = let o : owner x ≡ a = omega arith in rw (o, lt-ltb (x % block_size) (heard_at 1) (omega arith)) (by-signal a s v)

-- what fire a then clashes with
concerned : {f : Event} {a : ℕ} {p : Part} → Uses f a p → concerns a f ≡ true
concerned (by-fire a p) = eq-eqb a a refl
concerned (at-hearer a b) = rw (eq-eqb b b refl) (or-true (eqb b a))
concerned (at-age a b) = rw (eq-eqb b b refl) (or-true (eqb b a))
concerned (at-sender a b) = rw (eq-eqb a a refl)
concerned (by-loss a b) = eq-eqb a a refl
concerned (by-link a b d) = eq-eqb a a refl
concerned (by-signal a s v) = eq-eqb a a refl

-- two signals of one device, which set digits of one cell
abbrev pub SameSensors : Event → Event → Type 0
SameSensors (fire a) f = ⊥
SameSensors (deliver a b) f = ⊥
SameSensors (lose a b) f = ⊥
SameSensors (link a b d) f = ⊥
SameSensors (signal a s v) (fire b) = ⊥
SameSensors (signal a s v) (deliver b c) = ⊥
SameSensors (signal a s v) (lose b c) = ⊥
SameSensors (signal a s v) (link b c d) = ⊥
SameSensors (signal a s v) (signal b t w) = a ≡ b

fire-too : {f : Event} {a : ℕ} {p : Part} → Uses f a p → concerns a f ≡ false → ⊥
fire-too v q = true≢false (sym (concerned v) ∙ q)

one-pair : (a b : ℕ) → (eqb a a && eqb b b || eqb a a && eqb b b) ≡ false → ⊥
one-pair a b q = not-both a b a b (neither (eqb a a && eqb b b) _ q).0 refl refl

-- two events that touch one part
shared : {e f : Event} {a : ℕ} {p : Part} → clash e f ≡ false → Uses e a p → Uses f a p → SameSensors e f
shared {e} {f} q (by-fire a p) v = fire-too v (neither (clashes_with e f) (clashes_with f e) q).0
shared q (at-hearer a b) (by-fire c p) = fire-too (at-hearer a b) q
shared q (at-hearer a b) (at-hearer c d) = one-pair a b q
shared q (at-age a b) (by-fire c p) = fire-too (at-age a b) q
shared q (at-age a b) (at-age c d) = one-pair a b q
shared q (at-sender a b) (by-fire c p) = fire-too (at-sender a b) q
shared q (at-sender a b) (at-sender c d) = one-pair a b q
shared q (at-sender a b) (by-loss c d) = one-pair a b q
shared q (by-loss a b) (by-fire c p) = fire-too (by-loss a b) q
shared q (by-loss a b) (at-sender c d) = one-pair a b q
shared q (by-loss a b) (by-loss c d) = one-pair a b q
shared q (by-link a b d) (by-fire c p) = fire-too (by-link a b d) q
shared q (by-link a b d) (by-link c e f) = one-pair a b q
shared q (by-signal a s v) (by-fire c p) = fire-too (by-signal a s v) q
shared q (by-signal a s v) (by-signal b t w) = refl

pub apart : (e f : Event) → clash e f ≡ false → (x : ℕ) → Touched e x → Touched f x → SameSensors e f
apart e f q x t u = shared q (uses e x (named e t.0) t.1) (uses f x (named f u.0) u.1)
