-- A call that no test turns away carries out its events.
use mathlib.Core.Path.{◌≡◌}
use mathlib.Core.List.{List}
use Prim.Native.Nat.{ℕ}
use lib.IntN.{ℤ}
use Rattle.program.specs.Check.{check, main_of}
use Rattle.network.specs.Network.{soundness}
use Rattle.event.specs.Event.{Entry, entries, read_list}
use Rattle.event.specs.Calls.{first_refusal, room, tests, performed, carried_out, run}

-- where each test passes, none refuses
all_pass : (program : List ℕ) (network : List ℤ) (l : List Entry) (space : List ℤ) → check program ≡ (0, 0) → soundness network ≡ (0, 0)
    → room l space ≡ (0, 0) → tests program network (entries l) space ≡ (0, 0)
unfolding tests first_refusal
all_pass program network l space p n r = rw (p, n, r)

pub run-performed : (program : List ℕ) (network : List ℤ) (list : List ℕ) (space : List ℤ) (l : List Entry) → check program ≡ (0, 0)
    → soundness network ≡ (0, 0) → read_list list ≡ entries l → room l space ≡ (0, 0)
    → run program network list space ≡ performed (main_of program) network l space
unfolding run carried_out
run-performed program network list space l p n e r = rw (e, all_pass program network l space p n r)
