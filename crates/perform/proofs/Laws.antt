-- What the loop over a list's entries has done, and each of its turns. Assumes nothing.
use mathlib.Core.Path.{◌≡◌, refl, sym, ap, ◌∙◌}
use mathlib.Core.Bool.{Bool, true, false, cond}
use mathlib.Core.List.{List, [], ◌∷◌}
use Prim.Native.Nat.{ℕ, suc, ◌+◌, ◌*◌, ◌≤◌, ◌<◌}
use native.Mathlib.Omega.{arith}
use native.Mathlib.Numerals.{add-one}
use lib.ListN.{length, set, length-set}
use lib.Dec.{leb}
use lib.IntN.{ℤ}
use borrow.Author.Tests.{leb-true}
use Rattle.std.proofs.Common.{Result}
use Rattle.order.specs.Order.{last_net, answers}
use Rattle.program.specs.Tree.{Expr}
use Rattle.network.specs.Cells.{store}
use Rattle.network.specs.Network.{network_size}
use Rattle.event.specs.Event.{Event, fire, Entry, Read, entries, refused_at, or_none, event_of, read_list, entries_of, list_verdict}
use Rattle.event.specs.Step.{step}
use Rattle.event.specs.Calls.{answer_width, flat, performed}
use Rattle.wire.specs.Wire.{fields_of}
use Rattle.verdict.specs.declared.Reason.{Reason}
use Rattle.effects.specs.declared.Answer.{Answer}
use Rattle.effects.specs.Does.{answer_of, answered, Acts, Does, Lit, Idle}
use Rattle.network.proofs.Stores.{nothing_yet, store-cons}
use Rattle.effects.proofs.Lit.{lit-kept}
use Rattle.effects.proofs.Idle.{idle-kept}
use Rattle.lists.specs.declared.Event as coded
use Rattle.lists.specs.Listed.{event_in, NoEvent, Splits}
use Rattle.lists.proofs.Left.{Left, left-begin, left_end, left-next}
use Rattle.perform.specs.Performs.{Tested, Performs}

-- ---- an event by its own name, and its answer
module _ {main : Expr} {n : List ℤ} {c : Event} {r : Answer} {n' : List ℤ} where
  pub acts : (d : Event) (done : Result Unit Reason) → c ≡ d → r ≡ answered done → Does n d done n' → Acts main n c r n'
  acts d done e q f = rw (e, q) (f main)

  pub acts-fire : (a : ℕ) → c ≡ fire a → Acts main n (fire a) r n' → Acts main n c r n'
  acts-fire a e f = rw e f

-- ---- what the tests say
all_read : (r : Read) → list_verdict r ≡ (0, 0) → r ≡ entries (entries_of r)
all_read (entries l) q = refl
all_read (refused_at k) q = let z : ◌≡◌ {A = ℕ} 12 0 = ap (λ p. p.0) q in absurd (omega arith)

has_room : (b : Bool) → ◌≡◌ {A = ℕ × ℕ} (cond b (0, 0) (13, 0)) (0, 0) → b ≡ true
has_room true q = refl
has_room false q = let z : ◌≡◌ {A = ℕ} 13 0 = ap (λ p. p.0) q in absurd (omega arith)

-- ---- the loop's invariant: the entries in `rest` are left, those of the bytes `list`, and done from here they give what all of them give from the start
pub record Doing (main : Expr) (s : List ℕ) (n₀ space₀ n space : List ℤ) (list : List ℕ) (k : ℕ) : Type 0 where
  pub rest : List Entry
  pub left : Left list k rest
  pub whole : length n ≡ network_size
  pub idle : Idle n
  pub lit : Lit n
  pub wide : length space ≡ length space₀
  pub enough : answer_width * k + answer_width * length rest ≤ length space
  pub last : last_net (step main) n₀ (entries_of (read_list s)) ≡ last_net (step main) n rest
  pub cells : store space₀ 0 (flat (answers (step main) n₀ (entries_of (read_list s)))) ≡ store space (answer_width * k) (flat (answers (step main) n rest))

pub begin : {main : Expr} {ws us : List ℕ} {m : ℕ} {n : List ℤ} {s : List ℕ} {space : List ℤ} → length n ≡ network_size → Tested ws us m n s space → Doing main s n space n space s 0
begin {main} {ws} {us} {m} {n} {s} {space} l p =
    record {
      rest = entries_of (read_list s);
      left = left-begin s (entries_of (read_list s)) (all_read (read_list s) p.read);
      whole = l;
      idle = p.ready.idle;
      lit = p.lit;
      wide = refl;
      enough = omega (arith, leb-true (answer_width * length (entries_of (read_list s))) (length space) (has_room (leb (answer_width * length (entries_of (read_list s))) (length space)) p.fits));
      last = refl;
      cells = refl;
    }

-- an answer stored, and those after it
two_cells : (l : List ℤ) (k : ℕ) (a b : ℤ) (vs : List ℤ) → store l (answer_width * k) (a ∷ b ∷ vs) ≡ store (set (set l (answer_width * k) a) (answer_width * k + 1) b) (answer_width * (k + 1)) vs
two_cells l k a b vs =
    let e : answer_width * (k + 1) ≡ answer_width * k + 1 + 1 = omega arith in
    sym (rw e (store-cons (set l (answer_width * k) a) (answer_width * k + 1) b vs) ∙ store-cons l (answer_width * k) a (b ∷ vs))

no-entry : (l : List Entry) → length l ≡ 0 → l ≡ []
no-entry [] e = refl
no-entry (x ∷ l) e = absurd (omega arith)

module _ {main : Expr} {s : List ℕ} {n₀ space₀ n space : List ℤ} {list : List ℕ} {k : ℕ} (g : Doing main s n₀ space₀ n space list k) where
  finished : g.rest ≡ [] → Performs main n₀ (entries_of (read_list s)) space₀ n space
  unfolding performed
  finished e =
      record {
        network = sym (g.last ∙ ap (last_net (step main) n) e);
        answers = sym (g.cells ∙ rw e (sym (nothing_yet space (answer_width * k))));
      }

  -- no event is left, or no room
  pub end-turn : NoEvent (fields_of list) → Performs main n₀ (entries_of (read_list s)) space₀ n space
  end-turn h = finished (left_end g.left h)

  pub end-room : length space < answer_width * (k + 1) → Performs main n₀ (entries_of (read_list s)) space₀ n space
  end-room h = finished (no-entry g.rest (omega (arith, g.enough)))

  -- an event is read: the loop after it
  pub next-turn : (c : coded.Event) (after : List ℕ) (r : Answer) (n' : List ℤ) → Splits list c after → length n' ≡ length n → Acts main n (event_in c) r n'
      → Doing main s n₀ space₀ n' (set (set space (answer_width * k) (answer_of r).0) (answer_width * k + 1) (answer_of r).1) after (k + 1)
  next-turn c after r n' h q a =
      let x = left-next c after g.left h in
      let fewer : length g.rest ≡ suc (length x.more) = ap length x.is in
      let f : event_in c ≡ event_of h.entry = sym (ap or_none h.event) in
      let d : n' ≡ (step main n h.entry).0 = rw f at a.network in
      let v : answer_of r ≡ (step main n h.entry).1 = rw f at a.answer in
      record {
        rest = x.more;
        left = rw (add-one k) x.left;
        whole = q ∙ g.whole;
        idle = rw d (idle-kept main n (event_of h.entry) g.whole g.idle);
        lit = rw d (lit-kept main n (event_of h.entry) g.whole g.lit);
        wide = simp length-set g.wide;
        enough = simp length-set (omega (arith, fewer, g.enough));
        last = g.last ∙ (ap (last_net (step main) n) x.is ∙ ap (λ (m : List ℤ). last_net (step main) m x.more) (sym d));
        cells =
            g.cells
            ∙ (ap (λ (l : List Entry). store space (answer_width * k) (flat (answers (step main) n l))) x.is
            ∙ (rw (← d, ← v) (two_cells space k (answer_of r).0 (answer_of r).1 (flat (answers (step main) n' x.more)))));
      }
