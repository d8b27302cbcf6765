-- The tables of the code, and their rules: one computed test over all of their entries. Assumes nothing.
use mathlib.Core.Path.{◌≡◌, refl}
use mathlib.Core.Bool.{true}
use mathlib.Core.List.{List, ◌++◌}
use Prim.Native.Nat.{ℕ, ◌+◌, ◌*◌}
use lib.Dec.{eqb}
use lib.ListN.{get_or}
use Rattle.notation.specs.Words.{ascii}
use Rattle.levels.specs.Levels.{move_of}
use Rattle.decide.proofs.Below.{all_below}

abbrev pub moves : List ℕ
moves =
    ascii "__________________AAA_A_"
    ++ ascii "________________________"
    ++ ascii "GGGGGGGGG_FIHHFEEJ_D____"
    ++ ascii "GGGGGGGGGRFIHHFEEJ_D____"
    ++ ascii "__________________DDD_D^"
    ++ ascii "_______________________^"
    ++ ascii "__________________EEE_E_"
    ++ ascii "__________________FFF_F_"
    ++ ascii "__________________GGG_G_"
    ++ ascii "_________GGGGGGGGGGG____"
    ++ ascii "GGGGGGGGG__________G____"
    ++ ascii "_________LLLLLLLLLLL____"
    ++ ascii "______________________F_"
    ++ ascii "_______________________^"
    ++ ascii "_________MMMMMMMMMMM___^"
    ++ ascii "_________NNNNNNNNNNN___^"
    ++ ascii "_________OOOOOOOOOOO___^"
    ++ ascii "_________PPPPPPPPPPP___^"

pub moves-right : all_below (λ c. all_below (λ k. eqb (get_or moves (c * 24 + k) 0) (move_of c k + 64)) 24) 18 ≡ true
unfolding move_of
moves-right = refl
