-- `fading::fade_rows` meets its contract. Assumes nothing.
use Rattle.std.proofs.Common.{◌≡◌, ap, ◌∙◌, ℕ, ◌+◌, ◌-◌, ◌*◌, List, ℤ, pos, get_or, rules, arith}
use Rattle.field.specs.Field.{from}
use Rattle.network.specs.Cells.{store}
use Rattle.round.specs.Round.{joined}
use Rattle.cells.proofs.Rows.{none_yet, row_more, joined_length, joined-more}
use Rattle.fading.specs.Fading.{row_after}
use Rattle.fading.proofs.Rows.{row_of, row-length-of, row-behind}
use Rattle.fading.proofs.fade_rows.Goals as goal

pub loop-b-init : goal.loop-b-init
unfolding from joined
loop-b-init c = none_yet _ _

pub loop-b-preserved : goal.loop-b-preserved
loop-b-preserved c =
    let l = c.loop-b in
    let n = c.args.net.now in
    let f : ℕ → List ℤ = row_of n c.args.at c.args.ages.now in
    let k = joined_length f 16 1 l.b (λ j h. row-length-of n c.args.at c.args.ages.now (1 + j) c.requires (omega arith) (omega arith)) in
    let p = c.args.at + 16 * l.b in
    let z = get_or c.args.ages.now l.b (pos 0) in
    let i : 1 + l.b - 1 ≡ l.b = omega arith in
    let g : c.fade_row.new.net ≡ store l.net p (row_after l.net p z) = search rules in
    let e : c.fade_row.new.net ≡ store l.net p (f (1 + l.b)) =
    g ∙ ap (store l.net p) (rw i (ap (λ (m : List ℤ). row_after m p z) l.invariant.is ∙ row-behind n c.args.at c.args.ages.now _ (16 * l.b) z k)) in
    rw (joined-more f 1 l.b, e) (row_more (16 * l.b) (f (1 + l.b)) k l.invariant)
