-- Four of 01's 'shortcuts that give other networks', each ruled out by a round that computes. The fifth is about a receipt: crate event.
use mathlib.Core.Path.{◌≡◌, refl}
use mathlib.Core.List.{List, ◌∷◌}
use lib.ListN.{replicate, set}
use lib.IntN.{ℤ, pos}
use Rattle.number.specs.Number.{mark, add}
use Rattle.field.specs.Field.{from}
use Rattle.program.specs.Tree.{Expr, constant, rep, branch, nbr, fold_op}
use Rattle.network.specs.Network.{copies, fresh_block, heard_at}
use Rattle.round.specs.Round.{State, done, number, eval, round, heard_in, folded, reps, erased, message}

-- sends z in slot 1; its value is 0, since nothing is heard
abbrev sends : ℤ → Expr
sends z = fold_op 0 add (constant (pos 0)) (nbr 1 (constant z))

-- a device's cells as when fresh, but for variable 0
abbrev holding : ℤ → List ℤ
holding z = set fresh_block 0 z

abbrev after : ℤ → List ℤ → State
after z sent = record { variables = z ∷ replicate 15 mark; sent = sent }

abbrev slot1 : ℤ → List ℤ
slot1 z = mark ∷ z ∷ replicate 14 mark

-- "sending from a rep's update in its first round": nothing is sent
first_round : round (rep 0 (constant (pos 3)) (sends (pos 5))) (holding mark) ≡ done (number (pos 3)) (after (pos 3) (replicate 16 mark))
unfolding round eval
first_round = refl

-- "skipping a rep's initial part later": what it sends is sent
later-round : round (rep 0 (sends (pos 5)) (constant (pos 7))) (holding (pos 3)) ≡ done (number (pos 7)) (after (pos 7) (slot1 (pos 5)))
unfolding round eval folded heard_in from copies
later-round = refl

-- "keeping variables of the other branch": they are made absent, whichever branch it is
else-erases : round (branch (constant (pos 0)) (rep 0 (constant (pos 1)) (constant (pos 2))) (constant (pos 7))) (holding (pos 3))
    ≡ done (number (pos 7)) (after mark (replicate 16 mark))
unfolding round eval reps erased
else-erases = refl

then-erases : round (branch (constant (pos 1)) (constant (pos 7)) (rep 0 (constant (pos 1)) (constant (pos 2)))) (holding (pos 3))
    ≡ done (number (pos 7)) (after mark (replicate 16 mark))
unfolding round eval reps erased
then-erases = refl

-- "sending nothing when no slot was sent": a device with a link gets a message all the same, and no other does
empty-message : message (set fresh_block (heard_at 2) (pos 10)) (after mark (replicate 16 mark)) 2 ≡ pos 1 ∷ replicate 15 mark
unfolding message copies
empty-message = refl

no-message : message (set fresh_block (heard_at 2) (pos 10)) (after mark (replicate 16 mark)) 3 ≡ pos 0 ∷ replicate 15 mark
unfolding message copies
no-message = refl
