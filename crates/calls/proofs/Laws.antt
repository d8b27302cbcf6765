-- Each way out of a call, as the definitions have it. Assumes nothing.
use mathlib.Core.Path.{◌≡◌, refl, sym, ap, ◌∙◌}
use mathlib.Core.Bool.{Bool, true, false, cond}
use mathlib.Core.List.{List, ◌∷◌}
use mathlib.Core.Option.{Option, none, some}
use Prim.Native.Nat.{ℕ, ◌*◌, ◌/◌, ◌≤◌, ◌<◌}
use native.Mathlib.Omega.{arith}
use lib.Dec.{eqb}
use lib.ListN.{length}
use lib.IntN.{ℤ}
use borrow.Author.Tests.{eqb-true, ne_eqb, eq-eqb, le-leb, lt-leb}
use Rattle.std.proofs.Common.{Result, Ok, Err}
use Rattle.program.specs.Check.{Verdict, check}
use Rattle.network.specs.Network.{soundness}
use Rattle.event.specs.Event.{Entry, Read, entries, refused_at, read_list, entries_of, list_verdict}
use Rattle.event.specs.Calls as Calls
use Rattle.event.specs.Calls.{answer_width, first_refusal, room, tests, performed, carried_out}
use Rattle.verdict.specs.declared.Refusal.{Refusal}
use Rattle.verdict.specs.declared.Reason.TheVariants.{ShortSpace}
use Rattle.verdict.specs.declared.Verdict as coded
use Rattle.verdict.specs.Pair.{pair}
use Rattle.verdict.specs.Outcome.{number_of, refusal_at, outcome}
use Rattle.words.specs.Trees.{tree_at}
use Rattle.effects.proofs.Refusals.{some_number}
use Rattle.effects.proofs.Lit.{lit-sound}
use Rattle.effects.proofs.Idle.{idle-sound}
use Rattle.lists.specs.Listed.{bad_list, count_of}
use Rattle.perform.specs.Performs.{Tested, Performs}
use Rattle.program_check.specs.Prepares.{Ready}
use Rattle.calls.specs.Carried.{left_by, result_of}

-- ---- what a count says
pub record Counted (read : Read) (k : ℕ) : Type 0 where
  pub is : read ≡ entries (entries_of read)
  pub many : k ≡ length (entries_of read)

pub counted : (read : Read) (k : ℕ) → Ok k ≡ count_of read → Counted read k
counted (entries l) k e = record { is = refl; many = (cc) }
counted (refused_at n) k e = absurd (cc)

pub uncounted : (read : Read) (r : Refusal) → Err r ≡ count_of read → refusal_at r ≡ list_verdict read
uncounted (entries l) r e = absurd (cc)
uncounted (refused_at n) r e = let f : r ≡ bad_list n = cc in rw f

-- ---- the answer space
fits : (l : List Entry) (x : List ℤ) (k : ℕ) → k ≡ length l → k ≤ length x / answer_width → room l x ≡ (0, 0)
fits l x k e h = rw (le-leb (answer_width * length l) (length x) (omega (arith, e))) refl

short : (l : List Entry) (x : List ℤ) (k : ℕ) → k ≡ length l → length x / answer_width < k → room l x ≡ (13, 0)
short l x k e h = rw (lt-leb (answer_width * length l) (length x) (omega (arith, e))) refl

-- ---- the first refusal
first : (v : Verdict) (vs : List Verdict) → (v.0 ≡ 0 → ⊥) → first_refusal (v ∷ vs) ≡ v
unfolding first_refusal
first v vs h = rw (ne_eqb v.0 0 h) refl

later : (v : Verdict) (vs : List Verdict) → v ≡ (0, 0) → first_refusal (v ∷ vs) ≡ first_refusal vs
unfolding first_refusal
later v vs h = rw h

module _ (program : List ℕ) (n : List ℤ) (read : Read) (x : List ℤ) where
  module _ (r : Refusal) where
    refuses : (v : Verdict) (vs : List Verdict) → refusal_at r ≡ v → first_refusal (v ∷ vs) ≡ refusal_at r
    refuses v vs e = rw (← e) (first (refusal_at r) vs (λ z. omega (arith, some_number r.reason)))

    turned : tests program n read x ≡ refusal_at r → left_by (Err r) n x ≡ carried_out program n read x
    unfolding carried_out
    turned e = rw (e, ne_eqb (number_of r.reason) 0 (λ z. omega (arith, some_number r.reason))) refl

    pub by-program : refusal_at r ≡ check program → left_by (Err r) n x ≡ carried_out program n read x
    unfolding tests
    by-program e = turned (refuses (check program) _ e)

    pub by-network : check program ≡ (0, 0) → refusal_at r ≡ soundness n → left_by (Err r) n x ≡ carried_out program n read x
    unfolding tests
    by-network p e = turned (later (check program) _ p ∙ refuses (soundness n) _ e)

    pub by-list : check program ≡ (0, 0) → soundness n ≡ (0, 0) → Err r ≡ count_of read → left_by (Err r) n x ≡ carried_out program n read x
    unfolding tests
    by-list p s e = turned (later (check program) _ p ∙ later (soundness n) _ s ∙ refuses (list_verdict read) _ (uncounted read r e))

  list-passes : (k : ℕ) → Counted read k → list_verdict read ≡ (0, 0)
  list-passes k c = rw c.is

  pub by-room : check program ≡ (0, 0) → soundness n ≡ (0, 0) → (k : ℕ) → Ok k ≡ count_of read → length x / answer_width < k
      → left_by (Err (record { reason = ShortSpace; place = 0 })) n x ≡ carried_out program n read x
  unfolding tests
  by-room p s k e h =
      let c = counted read k e in
      turned (record { reason = ShortSpace; place = 0 })
      (later (check program) _ p ∙ later (soundness n) _ s ∙ later (list_verdict read) _ (list-passes k c) ∙ rw (short (entries_of read) x k c.many h) (first (13, 0) _ (λ z. omega arith)))

-- ---- every test is passed: what the events need, and what they leave
module _ (program : List ℕ) {ws us : List ℕ} {main : ℕ} (n : List ℤ) (s : List ℕ) (x : List ℤ) (read : Read) (t : Ready program ws us main) (q : soundness n ≡ (0, 0))
    (k : ℕ) (e : Ok k ≡ count_of read) (same : (l : List Entry) → read ≡ entries l → read_list s ≡ entries l) (h : k ≤ length x / answer_width) where
  list-is : read_list s ≡ entries (entries_of read)
  list-is = same (entries_of read) (counted read k e).is

  roomy : room (entries_of read) x ≡ (0, 0)
  roomy = fits (entries_of read) x k (counted read k e).many h

  pub tested : Tested ws us main n s x
  tested =
      record {
        ready = record { idle = idle-sound n q; sound = t.sound; inside = t.inside; sort = t.number };
        lit = lit-sound n q;
        read = rw list-is refl;
        fits = rw list-is roomy;
      }

  none-refuses : check program ≡ (0, 0) → tests program n read x ≡ (0, 0)
  unfolding tests first_refusal
  none-refuses p = rw (p, q, list-passes program n read x k (counted read k e), roomy) refl

  pub carried : {n' x' : List ℤ} → check program ≡ (0, 0) → Performs (tree_at ws main) n (entries_of (read_list s)) x n' x' → left_by (Ok tt) n' x' ≡ carried_out program n read x
  unfolding carried_out performed
  carried p f = rw (none-refuses p, f.network, f.answers, list-is, t.tree) refl

-- ---- the verdict of a call's Result
pub shown : (v : coded.Verdict) (r : Result Unit Refusal) (n x : List ℤ) (q : Calls.Result) → pair v ≡ outcome r → left_by r n x ≡ q → result_of v n x ≡ q
shown v r n x q e f = rw e f
