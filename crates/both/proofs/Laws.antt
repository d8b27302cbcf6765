-- Two runs of the definitions end alike. Assumes nothing.
use mathlib.Core.Path.{◌≡◌}
use mathlib.Core.List.{List}
use Prim.Native.Nat.{ℕ}
use lib.IntN.{ℤ}
use Rattle.event.specs.Calls.{Result, run}
use Rattle.clash.specs.Same.{same_entry}
use Rattle.clash.proofs.Whole.{demand-3}
use Rattle.both.specs.Both.{Both}

pub both : {program : List ℕ} {n n' : List ℤ} {s t : List ℕ} {x y : List ℤ} {r q : Result} → r ≡ run program n s x → q ≡ run program n' t y → Both program n n' s t x y r q
both {program} {n} {n'} {s} {t} {x} {y} {r} {q} e f =
    record {
      one = e;
      other = f;
      alike = λ l m g. rw (e, f) (demand-3 same_entry program n n' s t x y l m g);
    }
