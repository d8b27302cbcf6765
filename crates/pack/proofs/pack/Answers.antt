-- `pack::pack` meets its contract. Assumes nothing.
use Rattle.std.proofs.Common.{◌≡◌, ap, refl, sym, arith, rules}
use Rattle.shapes.specs.Kinds.{number_of}
use Rattle.shapes.specs.declared.Kind.TheVariants.{Operator}
use denote.Enum.Bare.{same_true}
use Rattle.shapes.specs.contracts.Kind.{the_type}
use Rattle.load.specs.Loads.{node_at}
use Rattle.pack.specs.Packs.{kind_of, item_of}
use Rattle.pack.proofs.Columns.{column-none, column-more}
use Rattle.pack.proofs.Pass.{begins, fits, childless, childless-goes, operator, operator-goes, goes, packs}
use Rattle.pack.proofs.pack.Goals as goal
use Rattle.pack.proofs.pack.Goals.{then-x-eq0, else-x-eq0+then-eq, else-x-eq0+else-eq}

pub loop-i-init : goal.loop-i-init
loop-i-init c =
    (begins c.args.t c.requires.0 refl, column-none kind_of c.args.t c.requires.2, column-none item_of c.args.t c.requires.3)

pub childless_word-requires : goal.childless_word-requires
childless_word-requires c =
    childless c.args.t c.requires.0 c.loop-i.invariant.0 c.loop-i-test.true c.if-x-eq0.true

pub operator_word-requires : goal.operator_word-requires
operator_word-requires c =
    let e : (node_at c.args.t c.loop-i.i).kind ≡ Operator = same_true the_type (search rules) _ _ (sym c.if-eq.ensures) in
    operator c.args.t c.requires.0 c.loop-i.invariant.0 c.loop-i-test.true (ap number_of e)

pub word_of-requires : goal.word_of-requires
word_of-requires c = fits c.args.t c.requires.0 c.loop-i.i c.loop-i-test.true

pub loop-i-preserved : goal.loop-i-preserved
loop-i-preserved c =
    let t = c.args.t in
    let g = c.requires.0 in
    let s = c.loop-i.invariant in
    let h = c.loop-i-test.true in (
      elim c.if-x-eq0.branch [
        | then-x-eq0 w ↦ rw (w.ws-is, w.lowest-is) (childless-goes t g s.0 h w.if-x-eq0.true (rw c.body_of-body.ensures at w.childless_word.ensures))
        | else-x-eq0+then-eq w ↦ let e : (node_at t c.loop-i.i).kind ≡ Operator = same_true the_type (search rules) _ _ (sym w.if-eq.ensures) in rw (w.ws-is, w.lowest-is)
            (operator-goes t g s.0 h (ap number_of e) w.is_field.ensures w.is_field-then-eq.ensures refl (rw c.body_of-body.ensures at w.operator_word.ensures))
        | else-x-eq0+else-eq w ↦ rw (w.ws-is, w.lowest-is)
            (goes t g s.0 h w.flags_of-flags.ensures refl (rw c.body_of-body.ensures at w.word_of.ensures) w.broken.ensures w.first_bad-lowest.ensures)
      ],
      rw c.number.ensures (column-more kind_of t (omega arith) s.1),
      column-more item_of t (omega arith) s.2,
    )

pub returns : goal.returns
returns c =
    let t = c.args.t in
    let e : c.loop-i.i ≡ t.n = omega (arith, c.loop-i.auto.i-end, c.loop-i-test.false) in (
      packs t c.requires.0 (rw e at c.loop-i.invariant.0) t.defs c.lower_field.ensures (omega arith) c.lowest_field.ensures,
      rw e at c.loop-i.invariant.1,
      rw e at c.loop-i.invariant.2,
    )
