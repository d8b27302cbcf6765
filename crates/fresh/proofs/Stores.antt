-- Rows stored one after the other, and a network filled by them. Assumes nothing.
use mathlib.Core.Path.{◌≡◌, refl, sym, ap, ◌∙◌}
use mathlib.Core.List.{List, ◌++◌, append_assoc, append-nil}
use Prim.Native.Nat.{ℕ, zero, suc, ◌+◌, ◌*◌}
use native.Mathlib.Omega.{arith}
use native.Mathlib.Numerals.{add-one}
use lib.ListN.{length, length-append}
use lib.Seq.{take_all}
use lib.IntN.{ℤ, pos}
use lib.ListN.{set, replicate}
use Rattle.number.specs.Number.{mark}
use Rattle.network.specs.Cells.{row, store}
use Rattle.network.proofs.Stores.{store-on, store-all}
use Rattle.network.specs.Network.{sensors_at, pending_at, block_size, network_size, copies, fresh_block, fresh}

module _ {A : Type 0} where
  -- a turn of a loop that stores a row again and again
  pub length-copies : (k : ℕ) (r : List A) → length (copies k r) ≡ k * length r
  unfolding copies
  length-copies zero r = omega arith
  length-copies (suc k) r = length-append r (copies k r) ∙ rw (length-copies k r) (omega arith)

  copies-more : (k : ℕ) (r : List A) → copies k r ++ r ≡ copies (suc k) r
  unfolding copies
  copies-more zero r = sym (append-nil r)
  copies-more (suc k) r = append_assoc r (copies k r) r ∙ ap (r ++◌) (copies-more k r)

  one_more : (l net : List A) (at k i m : ℕ) (r : List A) → length r ≡ m → net ≡ store l at (copies i r) → k ≡ at + i * m
      → store net k r ≡ store l at (copies (i + 1) r)
  one_more l net at k i m r d e q =
      let x : length (copies i r) ≡ i * m = length-copies i r ∙ ap (λ (y : ℕ). i * y) d in
      rw (e, add-one i) (store-on l at k (copies i r) r (omega arith) ∙ ap (store l at) (copies-more i r))

-- ---- a fresh network
-- a device's cells when the pending marks to the first k devices are 0
abbrev pub so_far : ℕ → List ℤ
so_far zero = set (replicate block_size mark) sensors_at (pos 0)
so_far (suc k) = set (so_far k) (pending_at 1 + 16 * k) (pos 0)

pub all_marks : so_far 16 ≡ fresh_block
unfolding copies
all_marks = refl

pub length-block : length fresh_block ≡ block_size
unfolding copies
length-block = refl

-- a turn of the loop that stores it
pub next-block : (l net net' block : List ℤ) (k : ℕ) → block ≡ fresh_block → net ≡ store l 0 (copies k fresh_block) → net' ≡ store net (k * block_size) (row block 0 block_size)
    → net' ≡ store l 0 (copies (k + 1) fresh_block)
next-block l net net' block k e h q =
    q ∙ rw (e, take_all block_size fresh_block (omega (arith, length-block))) (one_more l net 0 (k * block_size) k block_size fresh_block length-block h (omega arith))

pub made-fresh : (l net : List ℤ) (i : ℕ) → i ≡ 16 → length l ≡ network_size → net ≡ store l 0 (copies i fresh_block) → net ≡ fresh
unfolding fresh
made-fresh l net i e q h =
    let x : length (copies 16 fresh_block) ≡ 16 * block_size = length-copies 16 fresh_block ∙ ap (λ (y : ℕ). 16 * y) length-block in
    h ∙ ap (λ (y : ℕ). store l 0 (copies y fresh_block)) e ∙ store-all l (copies 16 fresh_block) (omega arith)

pub paired : {A B : Type 0} {a b : A} {x y : B} → a ≡ b → x ≡ y → ◌≡◌ {A = A × B} (a, x) (b, y)
paired e f = rw (e, f)
