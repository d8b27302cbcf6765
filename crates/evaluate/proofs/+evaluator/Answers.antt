-- The cycle of the evaluator meets its contracts, by the laws of crate leaf. In an answer `t` is the measure at the start. Assumes nothing.
use mathlib.Core.Path.{refl, sym, ap, ◌∙◌}
use Prim.Native.Nat.{◌<◌}
use native.Mathlib.Omega.{arith}
use lib.ListN.{get_or}
use lib.Dec.{lit<}
use lib.IntN.{ℤ, pos}
use mir.Syntax.{w32}
use mir.Val.{SFits, of_z, to_z}
use mir.ValLaws.{to_z-of_z}
use mir.Facts.{sfits_lit}
use borrow.Author.Rules.{rules as given_rules, sfits_of}
use borrow.Author.Tests.{lt-ltb}
use Rattle.decide.proofs.Picks.{cond_yes, cond_no}
use Rattle.number.specs.Number.{mark, eq_z}
use Rattle.field.specs.Field.{Field}
use Rattle.round.specs.Round.{State, number, field, done, sending, sensed, reps, folded, is_true}
use Rattle.heard.proofs.Fields.{range_cells, lag-cells}
use Rattle.arith.proofs.Signs.{both_read}
use Rattle.domain.specs.Held.{held}
use Rattle.domain.specs.Members.{members}
use Rattle.domain.proofs.Laws.{turned_none, turned-few, turned_more, turned-all}
use Rattle.words.specs.Word.{count, word}
use Rattle.words.specs.Trees.{tree_at}
use Rattle.apply.specs.State.{state_of}
use Rattle.apply.proofs.Laws.{state-variable, clear, goes, fails, gives, gave, passed, on-numbers, on-fields, numbers-read, stores, sends}
use Rattle.apply.proofs.Folding.{along, fold-starts, fold-ends, fold-turns}
use Rattle.leaf.proofs.Evaluates.{right, rules, field-rules, ev, ev-oper, ev-sense, ev-rep, ev-if, ev-mux, ev-fold, ev-foldop, ev-least, ev-folds, ev-bare, ev-first}
use Rattle.leaf.proofs.Evaluates.{ev-nbr, ev-lag, ev-ranged, ev-iff, ev-operf}
use Rattle.leaf.proofs.Evaluates.{second_none, second-there, third-none, third-there, fourth-read, no-argument}
use Rattle.leaf.proofs.Asks.{asks, asks-field, asks-side, asks-arg, asks-call, asks-fold, asks-leaf, asks-pair, mask-of, either, fold-parts, by-operator}
use Rattle.leaf.proofs.Numbers.{env-read, from-read, second-read, third-read, least-read, moved, same, other}
use Rattle.evaluate.proofs.Body.{body_at}
use Rattle.evaluate.proofs.+evaluator.Goals.{field_at-then-form-eq-LAG, field_at-else-form-eq-LAG}
use Rattle.evaluate.proofs.+evaluator.Goals as goal

-- argument
pub argument-returns-else-there : goal.argument-returns-else-there
argument-returns-else-there t c =
    gives (no-argument _ _ _ _ _ _ c.if-there.false) (gave refl refl c.requires.clear)

-- call_at
pub call_at-call-requires : goal.call_at-call-requires
call_at-call-requires t c =
    asks-call 3 c.decreases c.requires.0.sound c.requires.0.inside c.body_of-e.ensures c.requires.0.clear
    (lit< tt) ((rules c.requires.0).call c.requires.1).0

pub call_at-returns-then-k-eq0 : goal.call_at-returns-then-k-eq0
call_at-returns-then-k-eq0 t c =
    gives
    (ev-bare c.requires.0 c.args.here.now c.args.env.now (state_of c.args.st.now) c.requires.1 _ c.body_of-e.ensures
    (sym c.count_of-k.ensures ∙ c.if-k-eq0.true))
    (passed (sfits_of c.call.type_inv) (env-read _ _ _ (pos 0) (pos 0) (pos 0) (pos 0) (sfits_lit tt) (sfits_lit tt) (sfits_lit tt) (sfits_lit tt) c.call.ensures))

pub call_at-operand-a-requires : goal.call_at-operand-a-requires
call_at-operand-a-requires t c =
    asks 3 c.decreases c.requires.0.sound c.requires.0.inside c.first.ensures c.requires.0.clear (
      ((rules c.requires.0).call c.requires.1).1.0,
      ((rules c.requires.0).call c.requires.1).1.1
          (lt-ltb 0 (count (word c.args.t.now c.args.n)) (omega (arith, c.count_of-k.ensures, c.if-k-eq0.false))),
    )

pub call_at-returns-then-st-ne0 : goal.call_at-returns-then-st-ne0
call_at-returns-then-st-ne0 t c =
    gives
    (ev-first c.requires.0 c.args.here.now c.args.env.now (state_of c.args.st.now) c.requires.1 _ c.first.ensures
    (λ e. c.if-k-eq0.false (c.count_of-k.ensures ∙ e)))
    (fails _ _ c.operand-a.ensures c.if-st-ne0.true)

pub call_at-call-requires-then-k-eq1 : goal.call_at-call-requires-then-k-eq1
call_at-call-requires-then-k-eq1 t c =
    asks-call 3 c.decreases c.requires.0.sound c.requires.0.inside c.body_of-e.ensures
    (clear c.operand-a.new.st (search given_rules) c.if-st-ne0.false)
    (lit< tt) ((rules c.requires.0).call c.requires.1).0

pub call_at-returns-then-k-eq1 : goal.call_at-returns-then-k-eq1
call_at-returns-then-k-eq1 t c =
    gives
    (ev-first c.requires.0 c.args.here.now c.args.env.now (state_of c.args.st.now) c.requires.1 _ c.first.ensures
    (λ e. c.if-k-eq0.false (c.count_of-k.ensures ∙ e))
    ∙ goes _ c.operand-a.ensures (search given_rules) c.if-st-ne0.false
    ∙ second_none _ _ _ _ _ _ _ c.body_of-e.ensures (sym c.count_of-k.ensures ∙ c.if-k-eq1.true))
    (passed (sfits_of c.call-then-k-eq1.type_inv) (env-read _ _ _ c.operand-a.result (pos 0) (pos 0) (pos 0) (sfits_of c.operand-a.type_inv) (sfits_lit tt) (sfits_lit tt)
    (sfits_lit tt) c.call-then-k-eq1.ensures))

pub call_at-operand-b-requires : goal.call_at-operand-b-requires
call_at-operand-b-requires t c =
    asks 3 c.decreases c.requires.0.sound c.requires.0.inside c.second.ensures (clear c.operand-a.new.st (search given_rules)
    c.if-st-ne0.false) (
      ((rules c.requires.0).call c.requires.1).2.0,
      ((rules c.requires.0).call c.requires.1).2.1
          (lt-ltb 1 (count (word c.args.t.now c.args.n)) (omega (arith, c.count_of-k.ensures, c.if-k-eq0.false, c.if-k-eq1.false))),
    )

pub call_at-returns-then-st-ne0-2 : goal.call_at-returns-then-st-ne0-2
call_at-returns-then-st-ne0-2 t c =
    gives
    (ev-first c.requires.0 c.args.here.now c.args.env.now (state_of c.args.st.now) c.requires.1 _ c.first.ensures
    (λ e. c.if-k-eq0.false (c.count_of-k.ensures ∙ e))
    ∙ goes _ c.operand-a.ensures (search given_rules) c.if-st-ne0.false
    ∙ second-there _ _ _ _ _ _ _ c.second.ensures (λ e. c.if-k-eq0.false (c.count_of-k.ensures ∙ e))
    (λ e. c.if-k-eq1.false (c.count_of-k.ensures ∙ e)))
    (fails _ _ c.operand-b.ensures c.if-st-ne0-2.true)

pub call_at-call-requires-then-k-eq2 : goal.call_at-call-requires-then-k-eq2
call_at-call-requires-then-k-eq2 t c =
    asks-call 3 c.decreases c.requires.0.sound c.requires.0.inside c.body_of-e.ensures
    (clear c.operand-b.new.st (search given_rules) c.if-st-ne0-2.false)
    (lit< tt) ((rules c.requires.0).call c.requires.1).0

pub call_at-returns-then-k-eq2 : goal.call_at-returns-then-k-eq2
call_at-returns-then-k-eq2 t c =
    gives
    (ev-first c.requires.0 c.args.here.now c.args.env.now (state_of c.args.st.now) c.requires.1 _ c.first.ensures
    (λ e. c.if-k-eq0.false (c.count_of-k.ensures ∙ e))
    ∙ goes _ c.operand-a.ensures (search given_rules) c.if-st-ne0.false
    ∙ second-there _ _ _ _ _ _ _ c.second.ensures (λ e. c.if-k-eq0.false (c.count_of-k.ensures ∙ e)) (λ e. c.if-k-eq1.false (c.count_of-k.ensures ∙ e))
    ∙ goes _ c.operand-b.ensures (search given_rules) c.if-st-ne0-2.false
    ∙ third-none _ _ _ _ _ _ _ _ c.body_of-e.ensures (sym c.count_of-k.ensures ∙ c.if-k-eq2.true))
    (passed (sfits_of c.call-then-k-eq2.type_inv) (env-read _ _ _ c.operand-a.result c.operand-b.result (pos 0) (pos 0) (sfits_of c.operand-a.type_inv)
    (sfits_of c.operand-b.type_inv) (sfits_lit tt) (sfits_lit tt) c.call-then-k-eq2.ensures))

pub call_at-returns : goal.call_at-returns
call_at-returns t c =
    gives
    (ev-first c.requires.0 c.args.here.now c.args.env.now (state_of c.args.st.now) c.requires.1 _ c.first.ensures
    (λ e. c.if-k-eq0.false (c.count_of-k.ensures ∙ e))
    ∙ goes _ c.operand-a.ensures (search given_rules) c.if-st-ne0.false
    ∙ second-there _ _ _ _ _ _ _ c.second.ensures (λ e. c.if-k-eq0.false (c.count_of-k.ensures ∙ e)) (λ e. c.if-k-eq1.false (c.count_of-k.ensures ∙ e))
    ∙ goes _ c.operand-b.ensures (search given_rules) c.if-st-ne0-2.false)
    (passed (sfits_of c.more_at.type_inv) (third-read c.args.t.now c.args.n c.args.here.now c.args.env.now (state_of c.operand-b.new.st)
    c.operand-a.result c.operand-b.result (sfits_of c.operand-a.type_inv) (sfits_of c.operand-b.type_inv) c.more_at.ensures))

-- field_at
pub field_at-field_side-l-requires : goal.field_at-field_side-l-requires
field_at-field_side-l-requires t c =
    let z = sym c.form_of-form.ensures ∙ c.in-20.is in
    asks-side 4 c.decreases c.requires.sound c.requires.inside c.first.ensures c.requires.clear
    ((field-rules c.requires).oper_f z).0

pub field_at-returns-then-st-ne0 : goal.field_at-returns-then-st-ne0
field_at-returns-then-st-ne0 t c =
    let z = sym c.form_of-form.ensures ∙ c.in-20.is in
    gives
    (ev-operf c.requires c.args.here.now c.args.env.now (state_of c.args.st.now) z _ _ _ refl c.first.ensures refl)
    (fails _ _ c.field_side-l.ensures.leaves c.if-st-ne0.true)

pub field_at-field_side-r-requires : goal.field_at-field_side-r-requires
field_at-field_side-r-requires t c =
    let z = sym c.form_of-form.ensures ∙ c.in-20.is in
    asks-side 4 c.decreases c.requires.sound c.requires.inside c.second.ensures (clear c.field_side-l.new.st (search given_rules)
    c.if-st-ne0.false)
    ((field-rules c.requires).oper_f z).1

pub field_at-returns-then-st-ne0-2 : goal.field_at-returns-then-st-ne0-2
field_at-returns-then-st-ne0-2 t c =
    let z = sym c.form_of-form.ensures ∙ c.in-20.is in
    gives
    (ev-operf c.requires c.args.here.now c.args.env.now (state_of c.args.st.now) z _ _ _ refl c.first.ensures c.second.ensures
    ∙ goes _ c.field_side-l.ensures.leaves (search given_rules) c.if-st-ne0.false)
    (fails _ _ c.field_side-r.ensures.leaves c.if-st-ne0-2.true)

pub field_at-returns-else-st-ne0-2 : goal.field_at-returns-else-st-ne0-2
field_at-returns-else-st-ne0-2 t c =
    let z = sym c.form_of-form.ensures ∙ c.in-20.is in
    gives
    (ev-operf c.requires c.args.here.now c.args.env.now (state_of c.args.st.now) z _ _ _ c.item_of.ensures c.first.ensures
    c.second.ensures
    ∙ goes _ c.field_side-l.ensures.leaves (search given_rules) c.if-st-ne0.false
    ∙ goes _ c.field_side-r.ensures.leaves (search given_rules) c.if-st-ne0-2.false
    ∙ on-fields _ _ c.field_side-l.ensures.value c.field_side-r.ensures.value _ c.field_side-l.ensures.as_field
    c.field_side-r.ensures.as_field
    (either c.args.t.now c.first.ensures c.second.ensures ((field-rules c.requires).side z) c.field_side-l.ensures.sort
    c.field_side-r.ensures.sort))
    c.field_op.ensures

pub field_at-returns-after-form-eq-LAG : goal.field_at-returns-after-form-eq-LAG
field_at-returns-after-form-eq-LAG t c =
    elim c.if-form-eq-LAG.branch [
      | field_at-then-form-eq-LAG w ↦
          gives (ev-lag c.requires c.args.here.now c.args.env.now (state_of c.args.st.now) (sym c.form_of-form.ensures ∙ w.if-form-eq-LAG.true) _ c.item_of-in_default.ensures
          ∙ ap (λ (f : Field). done (field f) (sending c.item_of-in_default.result (pos 0) (state_of c.args.st.now))) (lag-cells c.args.here.now c.item_of-in_default.result))
          (rw w.measure-is at c.measured_at.ensures)
      | field_at-else-form-eq-LAG w ↦
          gives (ev-ranged c.requires c.args.here.now c.args.env.now (state_of c.args.st.now) _ _ c.form_of-form.ensures c.item_of-in_default.ensures
          (search given_rules) w.if-form-eq-LAG.false (search given_rules) (search given_rules)
          ∙ ap (λ (f : Field). done (field f) (sending c.item_of-in_default.result (pos 0) (state_of c.args.st.now))) (range_cells c.args.here.now c.item_of-in_default.result))
          (rw w.measure-is at c.measured_at.ensures)
    ]

-- field_if_at
pub field_if_at-bounds-u-b : goal.field_if_at-bounds-u-b
field_if_at-bounds-u-b t c = let r = (field-rules c.requires.0).if_f c.requires.1 in omega (arith, c.third-b.ensures, c.requires.0.inside, r.2.0)

pub field_if_at-bounds-u-a : goal.field_if_at-bounds-u-a
field_if_at-bounds-u-a t c = let r = (field-rules c.requires.0).if_f c.requires.1 in omega (arith, c.second-a.ensures, c.requires.0.inside, r.1.0)

pub field_if_at-operand-x-requires : goal.field_if_at-operand-x-requires
field_if_at-operand-x-requires t c =
    asks 3 c.decreases c.requires.0.sound c.requires.0.inside c.first.ensures c.requires.0.clear
    ((field-rules c.requires.0).if_f c.requires.1).0

pub field_if_at-returns-then-st-ne0 : goal.field_if_at-returns-then-st-ne0
field_if_at-returns-then-st-ne0 t c =
    gives
    (ev-iff c.requires.0 c.args.here.now c.args.env.now (state_of c.args.st.now) c.requires.1 _ _ _ c.first.ensures refl refl)
    (fails _ _ c.operand-x.ensures c.if-st-ne0.true)

pub field_if_at-field_at-requires : goal.field_if_at-field_at-requires
field_if_at-field_at-requires t c =
    asks-field 3 c.decreases c.requires.0.sound c.requires.0.inside c.second-a.ensures
    (c.erase.ensures.fault ∙ clear c.operand-x.new.st (search given_rules) c.if-st-ne0.false)
    ((field-rules c.requires.0).if_f c.requires.1).1

pub field_if_at-field_at-requires-else-is_true : goal.field_if_at-field_at-requires-else-is_true
field_if_at-field_at-requires-else-is_true t c =
    asks-field 3 c.decreases c.requires.0.sound c.requires.0.inside c.third-b.ensures
    (c.erase-else-is_true.ensures.fault ∙ clear c.operand-x.new.st (search given_rules) c.if-st-ne0.false)
    ((field-rules c.requires.0).if_f c.requires.1).2

pub field_if_at-returns-then-is_true : goal.field_if_at-returns-then-is_true
field_if_at-returns-then-is_true t c =
    gives
    (ev-iff c.requires.0 c.args.here.now c.args.env.now (state_of c.args.st.now) c.requires.1 _ _ _ c.first.ensures c.second-a.ensures
    c.third-b.ensures
    ∙ goes _ c.operand-x.ensures (search given_rules) c.if-st-ne0.false
    ∙ cond_yes _ _ (sym (ap is_true (to_z-of_z w32 c.operand-x.result (sfits_of c.operand-x.type_inv))) ∙ sym c.is_true.ensures ∙ c.if-is_true.true))
    (moved (λ (p : State). ev c.args.t.now c.second-a.result c.args.here.now c.args.env.now p)
    (c.erase.ensures.state (reps (tree_at c.args.t.now c.third-b.result))
    (mask-of c.args.t.now c.args.u.now c.args.n c.requires.0.sound c.requires.0.inside c.third-b.ensures
    ((field-rules c.requires.0).if_f c.requires.1).2.0))
    c.field_at.ensures)

pub field_if_at-returns-else-is_true : goal.field_if_at-returns-else-is_true
field_if_at-returns-else-is_true t c =
    gives
    (ev-iff c.requires.0 c.args.here.now c.args.env.now (state_of c.args.st.now) c.requires.1 _ _ _ c.first.ensures c.second-a.ensures
    c.third-b.ensures
    ∙ goes _ c.operand-x.ensures (search given_rules) c.if-st-ne0.false
    ∙ cond_no _ _ (sym (ap is_true (to_z-of_z w32 c.operand-x.result (sfits_of c.operand-x.type_inv))) ∙ sym c.is_true.ensures ∙ c.if-is_true.false))
    (moved (λ (p : State). ev c.args.t.now c.third-b.result c.args.here.now c.args.env.now p)
    (c.erase-else-is_true.ensures.state (reps (tree_at c.args.t.now c.second-a.result))
    (mask-of c.args.t.now c.args.u.now c.args.n c.requires.0.sound c.requires.0.inside c.second-a.ensures
    ((field-rules c.requires.0).if_f c.requires.1).1.0))
    c.field_at-else-is_true.ensures)

-- field_side
pub field_side-number_side-v-requires : goal.field_side-number_side-v-requires
field_side-number_side-v-requires t c =
    let q = c.requires in
    let r = (right q.sound q.inside).sorted in
    (omega (arith, c.decreases), record { sound = q.sound; inside = q.inside; sort = r.number (omega (arith, c.form_of.ensures, c.if-form_of-ge-FIELDS.false)); clear = q.clear })

-- fold_at
pub fold_at-operand-x-requires : goal.fold_at-operand-x-requires
fold_at-operand-x-requires t c =
    asks 2 c.decreases c.requires.0.sound c.requires.0.inside c.first.ensures c.requires.0.clear
    (fold-parts (rules c.requires.0) c.requires.1).0

pub fold_at-returns-then-st-ne0 : goal.fold_at-returns-then-st-ne0
fold_at-returns-then-st-ne0 t c =
    gives (ev-folds c.requires.0 c.args.here.now c.args.env.now (state_of c.args.st.now) c.requires.1 _ _ c.first.ensures refl).whole
    (fails _ _ c.operand-x.ensures c.if-st-ne0.true)

pub fold_at-field_at-f-requires : goal.fold_at-field_at-f-requires
fold_at-field_at-f-requires t c =
    asks-field 2 c.decreases c.requires.0.sound c.requires.0.inside c.second.ensures
    (clear c.operand-x.new.st (search given_rules) c.if-st-ne0.false)
    (fold-parts (rules c.requires.0) c.requires.1).1

pub fold_at-returns-then-st-ne0-2 : goal.fold_at-returns-then-st-ne0-2
fold_at-returns-then-st-ne0-2 t c =
    gives
    ((ev-folds c.requires.0 c.args.here.now c.args.env.now (state_of c.args.st.now) c.requires.1 _ _ c.first.ensures c.second.ensures).whole
    ∙ goes _ c.operand-x.ensures (search given_rules) c.if-st-ne0.false)
    (fails _ _ c.field_at-f.ensures c.if-st-ne0-2.true)

pub fold_at-returns-then-form-eq-LEAST : goal.fold_at-returns-then-form-eq-LEAST
fold_at-returns-then-form-eq-LEAST t c =
    gives
    (ev-least c.requires.0 c.args.here.now c.args.env.now (state_of c.args.st.now) (sym c.form_of-form.ensures ∙ c.if-form-eq-LEAST.true) _ _
    c.first.ensures c.second.ensures
    ∙ goes _ c.operand-x.ensures (search given_rules) c.if-st-ne0.false
    ∙ goes _ c.field_at-f.ensures (search given_rules) c.if-st-ne0-2.false
    ∙ least-read _ c.operand-x.result _ (sfits_of c.operand-x.type_inv) c.fold_least.ensures.0 _)
    (gave (ap number (sym (to_z-of_z w32 c.fold_least.result.value (search given_rules)))) refl
    (clear c.field_at-f.new.st (search given_rules) c.if-st-ne0-2.false))

pub fold_at-fold_by-requires : goal.fold_at-fold_by-requires
fold_at-fold_by-requires t c =
    asks-fold 2 c.decreases c.requires.0.sound c.requires.0.inside c.body_of.ensures
    (clear c.field_at-f.new.st (search given_rules) c.if-st-ne0-2.false) (lit< tt)
    ((rules c.requires.0).fold_by (sym c.form_of-form.ensures ∙ c.if-form-eq-FOLD_BY.true)).0

pub fold_at-returns-then-form-eq-FOLD_BY : goal.fold_at-returns-then-form-eq-FOLD_BY
fold_at-returns-then-form-eq-FOLD_BY t c =
    gives
    (ev-fold c.requires.0 c.args.here.now c.args.env.now (state_of c.args.st.now) (sym c.form_of-form.ensures ∙ c.if-form-eq-FOLD_BY.true) _ _ _
    c.body_of.ensures c.first.ensures c.second.ensures
    ∙ goes _ c.operand-x.ensures (search given_rules) c.if-st-ne0.false
    ∙ goes _ c.field_at-f.ensures (search given_rules) c.if-st-ne0-2.false)
    (passed (search given_rules) (from-read _ _ _ c.operand-x.result (sfits_of c.operand-x.type_inv) c.fold_by.ensures.leaves))

pub fold_at-returns : goal.fold_at-returns
fold_at-returns t c =
    gives
    (ev-foldop c.requires.0 c.args.here.now c.args.env.now (state_of c.args.st.now)
    (by-operator c.requires.1 (λ e. c.if-form-eq-LEAST.false (c.form_of-form.ensures ∙ e)) (λ e. c.if-form-eq-FOLD_BY.false (c.form_of-form.ensures ∙ e))) _ _ _
    c.item_of.ensures c.first.ensures c.second.ensures
    ∙ goes _ c.operand-x.ensures (search given_rules) c.if-st-ne0.false
    ∙ goes _ c.field_at-f.ensures (search given_rules) c.if-st-ne0-2.false)
    (passed (search given_rules) (from-read _ _ _ c.operand-x.result (sfits_of c.operand-x.type_inv) c.fold_op.ensures.leaves))

-- fold_by
pub fold_by-loop-k-init : goal.fold_by-loop-k-init
fold_by-loop-k-init t c =
    let e = c.into_iter-k-iterator.ensures.into_iter_gives in
    (rw e (sym (fold-starts (body_at c.args.t.now c.args.e c.args.here.now) _ _ _ _)), rw e (turned_none _), c.requires.0.clear)

pub fold_by-overflow_add-turns : goal.fold_by-overflow_add-turns
fold_by-overflow_add-turns t c = record { fits = omega (arith, turned-few _ _ _ c.loop-k.invariant.1) }

pub fold_by-returns-then-st-ne0 : goal.fold_by-returns-then-st-ne0
fold_by-returns-then-st-ne0 t c =
    let from = ap (λ (p : ℤ). folded (body_at c.args.t.now c.args.e c.args.here.now) (held c.args.field.now) p (state_of c.args.st.now))
    (sym (to_z-of_z w32 c.args.from c.ranges.from)) in
    let fault = fails _ _ (second-read _ _ _ (to_z w32 c.loop-k.value-bits) (get_or c.args.field.now.cells c.in-Some.k (pos 0)) (search given_rules)
    c.call-value.ensures) c.if-st-ne0.true in
    record {
      leaves = gives (from ∙ sym c.loop-k.invariant.0
          ∙ fold-turns (body_at c.args.t.now c.args.e c.args.here.now) _ c.args.field.now.cells (to_z w32 c.loop-k.value-bits) (state_of c.loop-k.st)
          _ _ c.in-Some.ensures.steps.1) fault;
      turns = λ e. absurd (c.if-st-ne0.true (ap (of_z w32) e));
    }

pub fold_by-loop-k-preserved : goal.fold_by-loop-k-preserved
fold_by-loop-k-preserved t c = (
  ap (λ (p : ℤ). along (body_at c.args.t.now c.args.e c.args.here.now) (members c.next.new.self.bits) c.args.field.now.cells p
      (state_of c.call-value.new.st)) (to_z-of_z w32 c.call-value.result (sfits_of c.call-value.type_inv))
      ∙ sym (fold-turns (body_at c.args.t.now c.args.e c.args.here.now) _ c.args.field.now.cells (to_z w32 c.loop-k.value-bits)
      (state_of c.loop-k.st) _ _ c.in-Some.ensures.steps.1
      ∙ goes _ (second-read _ _ _ (to_z w32 c.loop-k.value-bits) (get_or c.args.field.now.cells c.in-Some.k (pos 0)) (search given_rules) c.call-value.ensures)
      (search given_rules) c.if-st-ne0.false)
      ∙ c.loop-k.invariant.0,
  turned_more _ _ _ c.loop-k.invariant.1 _ _ c.in-Some.ensures.steps.1,
  clear c.call-value.new.st (search given_rules) c.if-st-ne0.false,
)

pub fold_by-returns : goal.fold_by-returns
fold_by-returns t c =
    let from = ap (λ (p : ℤ). folded (body_at c.args.t.now c.args.e c.args.here.now) (held c.args.field.now) p (state_of c.args.st.now))
    (sym (to_z-of_z w32 c.args.from c.ranges.from)) in
    record {
      leaves = gives (from ∙ sym c.loop-k.invariant.0
          ∙ fold-ends (body_at c.args.t.now c.args.e c.args.here.now) _ c.args.field.now.cells (to_z w32 c.loop-k.value-bits) (state_of c.loop-k.st)
          c.in-None.ensures.steps.0)
          (gave refl refl c.loop-k.invariant.2);
      turns = λ e. turned-all _ _ _ c.loop-k.invariant.1 c.in-None.ensures.steps.0 c.args.field.now.cells;
    }

-- if_at
pub if_at-bounds-u-b : goal.if_at-bounds-u-b
if_at-bounds-u-b t c = let r = (rules c.requires.0).if_n c.requires.1 in omega (arith, c.third-b.ensures, c.requires.0.inside, r.2.0)

pub if_at-bounds-u-a : goal.if_at-bounds-u-a
if_at-bounds-u-a t c = let r = (rules c.requires.0).if_n c.requires.1 in omega (arith, c.second-a.ensures, c.requires.0.inside, r.1.0)

pub if_at-operand-x-requires : goal.if_at-operand-x-requires
if_at-operand-x-requires t c =
    asks 3 c.decreases c.requires.0.sound c.requires.0.inside c.first.ensures c.requires.0.clear
    ((rules c.requires.0).if_n c.requires.1).0

pub if_at-returns-then-st-ne0 : goal.if_at-returns-then-st-ne0
if_at-returns-then-st-ne0 t c =
    gives
    (ev-if c.requires.0 c.args.here.now c.args.env.now (state_of c.args.st.now) c.requires.1 _ _ _ c.first.ensures refl refl)
    (fails _ _ c.operand-x.ensures c.if-st-ne0.true)

pub if_at-operand-requires : goal.if_at-operand-requires
if_at-operand-requires t c =
    asks 3 c.decreases c.requires.0.sound c.requires.0.inside c.second-a.ensures
    (c.erase.ensures.fault ∙ clear c.operand-x.new.st (search given_rules) c.if-st-ne0.false)
    ((rules c.requires.0).if_n c.requires.1).1

pub if_at-operand-requires-else-is_true : goal.if_at-operand-requires-else-is_true
if_at-operand-requires-else-is_true t c =
    asks 3 c.decreases c.requires.0.sound c.requires.0.inside c.third-b.ensures
    (c.erase-else-is_true.ensures.fault ∙ clear c.operand-x.new.st (search given_rules) c.if-st-ne0.false)
    ((rules c.requires.0).if_n c.requires.1).2

pub if_at-returns-then-is_true : goal.if_at-returns-then-is_true
if_at-returns-then-is_true t c =
    gives
    (ev-if c.requires.0 c.args.here.now c.args.env.now (state_of c.args.st.now) c.requires.1 _ _ _ c.first.ensures c.second-a.ensures
    c.third-b.ensures
    ∙ goes _ c.operand-x.ensures (search given_rules) c.if-st-ne0.false
    ∙ cond_yes _ _ (sym (ap is_true (to_z-of_z w32 c.operand-x.result (sfits_of c.operand-x.type_inv))) ∙ sym c.is_true.ensures ∙ c.if-is_true.true))
    (passed (sfits_of c.operand.type_inv)
    (moved (λ (p : State). ev c.args.t.now c.second-a.result c.args.here.now c.args.env.now p)
    (c.erase.ensures.state (reps (tree_at c.args.t.now c.third-b.result))
    (mask-of c.args.t.now c.args.u.now c.args.n c.requires.0.sound c.requires.0.inside c.third-b.ensures
    ((rules c.requires.0).if_n c.requires.1).2.0))
    c.operand.ensures))

pub if_at-returns-else-is_true : goal.if_at-returns-else-is_true
if_at-returns-else-is_true t c =
    gives
    (ev-if c.requires.0 c.args.here.now c.args.env.now (state_of c.args.st.now) c.requires.1 _ _ _ c.first.ensures c.second-a.ensures
    c.third-b.ensures
    ∙ goes _ c.operand-x.ensures (search given_rules) c.if-st-ne0.false
    ∙ cond_no _ _ (sym (ap is_true (to_z-of_z w32 c.operand-x.result (sfits_of c.operand-x.type_inv))) ∙ sym c.is_true.ensures ∙ c.if-is_true.false))
    (passed (sfits_of c.operand-else-is_true.type_inv)
    (moved (λ (p : State). ev c.args.t.now c.third-b.result c.args.here.now c.args.env.now p)
    (c.erase-else-is_true.ensures.state (reps (tree_at c.args.t.now c.second-a.result))
    (mask-of c.args.t.now c.args.u.now c.args.n c.requires.0.sound c.requires.0.inside c.second-a.ensures
    ((rules c.requires.0).if_n c.requires.1).1.0))
    c.operand-else-is_true.ensures))

-- more_at
pub more_at-operand-c-requires : goal.more_at-operand-c-requires
more_at-operand-c-requires t c =
    asks 1 c.decreases c.requires.0.sound c.requires.0.inside c.third.ensures c.requires.0.clear
    (((rules c.requires.0).call c.requires.1).3.0, ((rules c.requires.0).call c.requires.1).3.1 (lt-ltb 2 (count (word c.args.t.now c.args.n)) c.requires.2))

pub more_at-returns-then-st-ne0 : goal.more_at-returns-then-st-ne0
more_at-returns-then-st-ne0 t c =
    gives (third-there _ _ _ _ _ _ _ _ c.third.ensures c.requires.2)
    (fails _ _ c.operand-c.ensures c.if-st-ne0.true)

pub more_at-argument-d-requires : goal.more_at-argument-d-requires
more_at-argument-d-requires t c =
    asks-arg 1 c.decreases c.requires.0.sound c.requires.0.inside c.fourth.ensures
    (clear c.operand-c.new.st (search given_rules) c.if-st-ne0.false) 3 c.count_of.result c.count_of.ensures
    ((rules c.requires.0).call c.requires.1).4

pub more_at-returns-then-st-ne0-2 : goal.more_at-returns-then-st-ne0-2
more_at-returns-then-st-ne0-2 t c =
    gives
    (third-there _ _ _ _ _ _ _ _ c.third.ensures c.requires.2
    ∙ goes _ c.operand-c.ensures (search given_rules) c.if-st-ne0.false
    ∙ fourth-read _ _ _ _ _ _ _ _ _ _ _ c.count_of.ensures c.fourth.ensures refl)
    (fails _ _ c.argument-d.ensures c.if-st-ne0-2.true)

pub more_at-call-requires : goal.more_at-call-requires
more_at-call-requires t c =
    asks-call 1 c.decreases c.requires.0.sound c.requires.0.inside c.body_of.ensures
    (clear c.argument-d.new.st (search given_rules) c.if-st-ne0-2.false)
    (lit< tt) ((rules c.requires.0).call c.requires.1).0

pub more_at-returns : goal.more_at-returns
more_at-returns t c =
    gives
    (third-there _ _ _ _ _ _ _ _ c.third.ensures c.requires.2
    ∙ goes _ c.operand-c.ensures (search given_rules) c.if-st-ne0.false
    ∙ fourth-read _ _ _ _ _ _ _ _ _ _ _ c.count_of.ensures c.fourth.ensures c.body_of.ensures
    ∙ goes _ c.argument-d.ensures (search given_rules) c.if-st-ne0-2.false)
    (passed (sfits_of c.call.type_inv)
    (env-read _ _ _ c.args.a c.args.b c.operand-c.result c.argument-d.result
    c.ranges.a c.ranges.b (sfits_of c.operand-c.type_inv) (sfits_of c.argument-d.type_inv) c.call.ensures))

-- mux_at
pub mux_at-operand-y-requires : goal.mux_at-operand-y-requires
mux_at-operand-y-requires t c =
    asks 2 c.decreases c.requires.0.sound c.requires.0.inside c.second.ensures c.requires.0.clear
    ((rules c.requires.0).mux c.requires.1).1

pub mux_at-returns-then-st-ne0 : goal.mux_at-returns-then-st-ne0
mux_at-returns-then-st-ne0 t c =
    gives
    (ev-mux c.requires.0 c.args.here.now c.args.env.now (state_of c.args.st.now) c.requires.1 _ _ _ refl c.second.ensures refl)
    (fails _ _ c.operand-y.ensures c.if-st-ne0.true)

pub mux_at-operand-z-requires : goal.mux_at-operand-z-requires
mux_at-operand-z-requires t c =
    asks 2 c.decreases c.requires.0.sound c.requires.0.inside c.third.ensures (clear c.operand-y.new.st (search given_rules)
    c.if-st-ne0.false)
    ((rules c.requires.0).mux c.requires.1).2

pub mux_at-returns-then-st-ne0-2 : goal.mux_at-returns-then-st-ne0-2
mux_at-returns-then-st-ne0-2 t c =
    gives
    (ev-mux c.requires.0 c.args.here.now c.args.env.now (state_of c.args.st.now) c.requires.1 _ _ _ refl c.second.ensures c.third.ensures
    ∙ goes _ c.operand-y.ensures (search given_rules) c.if-st-ne0.false)
    (fails _ _ c.operand-z.ensures c.if-st-ne0-2.true)

pub mux_at-operand-x-requires : goal.mux_at-operand-x-requires
mux_at-operand-x-requires t c =
    asks 2 c.decreases c.requires.0.sound c.requires.0.inside c.first.ensures (clear c.operand-z.new.st (search given_rules)
    c.if-st-ne0-2.false)
    ((rules c.requires.0).mux c.requires.1).0

pub mux_at-returns-then-st-ne0-3 : goal.mux_at-returns-then-st-ne0-3
mux_at-returns-then-st-ne0-3 t c =
    gives
    (ev-mux c.requires.0 c.args.here.now c.args.env.now (state_of c.args.st.now) c.requires.1 _ _ _ c.first.ensures c.second.ensures
    c.third.ensures
    ∙ goes _ c.operand-y.ensures (search given_rules) c.if-st-ne0.false
    ∙ goes _ c.operand-z.ensures (search given_rules) c.if-st-ne0-2.false)
    (fails _ _ c.operand-x.ensures c.if-st-ne0-3.true)

pub mux_at-returns-then-is_true : goal.mux_at-returns-then-is_true
mux_at-returns-then-is_true t c =
    gives
    (ev-mux c.requires.0 c.args.here.now c.args.env.now (state_of c.args.st.now) c.requires.1 _ _ _ c.first.ensures c.second.ensures
    c.third.ensures
    ∙ goes _ c.operand-y.ensures (search given_rules) c.if-st-ne0.false
    ∙ goes _ c.operand-z.ensures (search given_rules) c.if-st-ne0-2.false
    ∙ goes _ c.operand-x.ensures (search given_rules) c.if-st-ne0-3.false)
    (gave (ap number (cond_yes c.operand-y.result c.operand-z.result
    (sym (ap is_true (to_z-of_z w32 c.operand-x.result (sfits_of c.operand-x.type_inv))) ∙ sym c.is_true.ensures ∙ c.if-is_true.true)
    ∙ sym (to_z-of_z w32 c.operand-y.result (sfits_of c.operand-y.type_inv)))) refl
    (clear c.operand-x.new.st (search given_rules) c.if-st-ne0-3.false))

pub mux_at-returns-else-is_true : goal.mux_at-returns-else-is_true
mux_at-returns-else-is_true t c =
    gives
    (ev-mux c.requires.0 c.args.here.now c.args.env.now (state_of c.args.st.now) c.requires.1 _ _ _ c.first.ensures c.second.ensures
    c.third.ensures
    ∙ goes _ c.operand-y.ensures (search given_rules) c.if-st-ne0.false
    ∙ goes _ c.operand-z.ensures (search given_rules) c.if-st-ne0-2.false
    ∙ goes _ c.operand-x.ensures (search given_rules) c.if-st-ne0-3.false)
    (gave (ap number (cond_no c.operand-y.result c.operand-z.result
    (sym (ap is_true (to_z-of_z w32 c.operand-x.result (sfits_of c.operand-x.type_inv))) ∙ sym c.is_true.ensures ∙ c.if-is_true.false)
    ∙ sym (to_z-of_z w32 c.operand-z.result (sfits_of c.operand-z.type_inv)))) refl
    (clear c.operand-x.new.st (search given_rules) c.if-st-ne0-3.false))

-- nbr_at
pub nbr_at-operand-x-requires : goal.nbr_at-operand-x-requires
nbr_at-operand-x-requires t c =
    asks 3 c.decreases c.requires.0.sound c.requires.0.inside c.first.ensures c.requires.0.clear
    ((field-rules c.requires.0).nbr c.requires.1)

pub nbr_at-returns-then-st-ne0 : goal.nbr_at-returns-then-st-ne0
nbr_at-returns-then-st-ne0 t c =
    gives
    (ev-nbr c.requires.0 c.args.here.now c.args.env.now (state_of c.args.st.now) c.requires.1 _ _ refl c.first.ensures)
    (fails _ _ c.operand-x.ensures c.if-st-ne0.true)

pub nbr_at-returns : goal.nbr_at-returns
nbr_at-returns t c =
    let l : c.item_of-slot.result < 16 = omega (arith, c.item_of-slot.ensures) in
    gives
    (ev-nbr c.requires.0 c.args.here.now c.args.env.now (state_of c.args.st.now) c.requires.1 _ _ c.item_of-slot.ensures c.first.ensures
    ∙ goes _ c.operand-x.ensures (search given_rules) c.if-st-ne0.false)
    (sends c.operand-x.new.st c.item_of-slot.result l (to_z-of_z w32 c.operand-x.result (sfits_of c.operand-x.type_inv))
    (clear c.operand-x.new.st (search given_rules) c.if-st-ne0.false) (sym c.heard_of.ensures))

-- number_at
pub number_at-pair-requires : goal.number_at-pair-requires
number_at-pair-requires t c =
    asks-pair c.args.u.now c.requires.sound c.requires.inside (sym c.form_of-form.ensures ∙ c.in-12.is) c.requires.clear

pub number_at-leaf-requires : goal.number_at-leaf-requires
number_at-leaf-requires t c =
    asks-leaf (rules c.requires) c.requires.inside (omega (arith, c.form_of-form.ensures, c.if-form-lt-LEAVES.true)) c.requires.clear

-- number_side
pub number_side-leaf-requires : goal.number_side-leaf-requires
number_side-leaf-requires t c =
    asks-leaf (rules c.requires) c.requires.inside (omega (arith, c.form_of.ensures, c.if-form_of-lt-LEAVES.true)) c.requires.clear

-- operand
pub operand-leaf-requires : goal.operand-leaf-requires
operand-leaf-requires t c =
    asks-leaf (rules c.requires) c.requires.inside (omega (arith, c.form_of-form.ensures, c.if-form-lt-LEAVES.true)) c.requires.clear

-- operator_at
pub operator_at-number_side-x-requires : goal.operator_at-number_side-x-requires
operator_at-number_side-x-requires t c =
    asks 3 c.decreases c.requires.0.sound c.requires.0.inside c.first.ensures c.requires.0.clear
    ((rules c.requires.0).oper c.requires.1).0

pub operator_at-returns-then-st-ne0 : goal.operator_at-returns-then-st-ne0
operator_at-returns-then-st-ne0 t c =
    gives
    (ev-oper c.requires.0 c.args.here.now c.args.env.now (state_of c.args.st.now) c.requires.1 _ _ _ refl c.first.ensures refl)
    (fails _ _ c.number_side-x.ensures c.if-st-ne0.true)

pub operator_at-number_side-y-requires : goal.operator_at-number_side-y-requires
operator_at-number_side-y-requires t c =
    asks 3 c.decreases c.requires.0.sound c.requires.0.inside c.second.ensures (clear c.number_side-x.new.st (search given_rules)
    c.if-st-ne0.false)
    ((rules c.requires.0).oper c.requires.1).1

pub operator_at-returns-then-st-ne0-2 : goal.operator_at-returns-then-st-ne0-2
operator_at-returns-then-st-ne0-2 t c =
    gives
    (ev-oper c.requires.0 c.args.here.now c.args.env.now (state_of c.args.st.now) c.requires.1 _ _ _ refl c.first.ensures c.second.ensures
    ∙ goes _ c.number_side-x.ensures (search given_rules) c.if-st-ne0.false)
    (fails _ _ c.number_side-y.ensures c.if-st-ne0-2.true)

pub operator_at-returns : goal.operator_at-returns
operator_at-returns t c =
    gives
    (ev-oper c.requires.0 c.args.here.now c.args.env.now (state_of c.args.st.now) c.requires.1 _ _ _ c.item_of.ensures c.first.ensures
    c.second.ensures
    ∙ goes _ c.number_side-x.ensures (search given_rules) c.if-st-ne0.false
    ∙ goes _ c.number_side-y.ensures (search given_rules) c.if-st-ne0-2.false
    ∙ on-numbers _ _ _ _ _)
    (passed (sfits_of c.number_op.type_inv)
    (numbers-read _ _ _ c.number_side-x.result c.number_side-y.result (sfits_of c.number_side-x.type_inv)
    (sfits_of c.number_side-y.type_inv) c.number_op.ensures))

-- rep_at
pub rep_at-operand-x-requires : goal.rep_at-operand-x-requires
rep_at-operand-x-requires t c =
    asks 2 c.decreases c.requires.0.sound c.requires.0.inside c.first.ensures c.requires.0.clear
    ((rules c.requires.0).rep c.requires.1).0

pub rep_at-returns-then-st-ne0 : goal.rep_at-returns-then-st-ne0
rep_at-returns-then-st-ne0 t c =
    gives
    (ev-rep c.requires.0 c.args.here.now c.args.env.now (state_of c.args.st.now) c.requires.1 _ _ _ c.item_of-v.ensures c.first.ensures refl)
    (fails _ _ c.operand-x.ensures c.if-st-ne0.true)

pub rep_at-returns-then-old : goal.rep_at-returns-then-old
rep_at-returns-then-old t c =
    let l : c.item_of-v.result < 16 = omega (arith, c.item_of-v.ensures) in
    gives
    (ev-rep c.requires.0 c.args.here.now c.args.env.now (state_of c.args.st.now) c.requires.1 _ _ _ c.item_of-v.ensures c.first.ensures refl
    ∙ goes _ c.operand-x.ensures (search given_rules) c.if-st-ne0.false
    ∙ cond_yes _ _ (ap (λ (p : ℤ). eq_z p mark) (state-variable c.operand-x.new.st c.item_of-v.result l)
    ∙ same (get_or c.operand-x.new.st c.item_of-v.result (pos 0)) mark (search given_rules) (sfits_lit tt) c.if-old.true))
    (stores c.operand-x.new.st c.item_of-v.result l (to_z-of_z w32 c.operand-x.result (sfits_of c.operand-x.type_inv))
    (clear c.operand-x.new.st (search given_rules) c.if-st-ne0.false))

pub rep_at-operand-y-requires : goal.rep_at-operand-y-requires
rep_at-operand-y-requires t c =
    asks 2 c.decreases c.requires.0.sound c.requires.0.inside c.second.ensures (clear c.operand-x.new.st (search given_rules)
    c.if-st-ne0.false)
    ((rules c.requires.0).rep c.requires.1).1

pub rep_at-returns-then-st-ne0-2 : goal.rep_at-returns-then-st-ne0-2
rep_at-returns-then-st-ne0-2 t c =
    let l : c.item_of-v.result < 16 = omega (arith, c.item_of-v.ensures) in
    gives
    (ev-rep c.requires.0 c.args.here.now c.args.env.now (state_of c.args.st.now) c.requires.1 _ _ _ c.item_of-v.ensures c.first.ensures
    c.second.ensures
    ∙ goes _ c.operand-x.ensures (search given_rules) c.if-st-ne0.false
    ∙ cond_no _ _ (ap (λ (p : ℤ). eq_z p mark) (state-variable c.operand-x.new.st c.item_of-v.result l)
    ∙ other (get_or c.operand-x.new.st c.item_of-v.result (pos 0)) mark c.if-old.false))
    (fails _ _ c.operand-y.ensures c.if-st-ne0-2.true)

pub rep_at-returns : goal.rep_at-returns
rep_at-returns t c =
    let l : c.item_of-v.result < 16 = omega (arith, c.item_of-v.ensures) in
    gives
    (ev-rep c.requires.0 c.args.here.now c.args.env.now (state_of c.args.st.now) c.requires.1 _ _ _ c.item_of-v.ensures c.first.ensures
    c.second.ensures
    ∙ goes _ c.operand-x.ensures (search given_rules) c.if-st-ne0.false
    ∙ cond_no _ _ (ap (λ (p : ℤ). eq_z p mark) (state-variable c.operand-x.new.st c.item_of-v.result l)
    ∙ other (get_or c.operand-x.new.st c.item_of-v.result (pos 0)) mark c.if-old.false)
    ∙ goes _ c.operand-y.ensures (search given_rules) c.if-st-ne0-2.false)
    (stores c.operand-y.new.st c.item_of-v.result l (to_z-of_z w32 c.operand-y.result (sfits_of c.operand-y.type_inv))
    (clear c.operand-y.new.st (search given_rules) c.if-st-ne0-2.false))

-- sense_at
pub sense_at-operand-s-requires : goal.sense_at-operand-s-requires
sense_at-operand-s-requires t c =
    asks 2 c.decreases c.requires.0.sound c.requires.0.inside c.first.ensures c.requires.0.clear
    ((rules c.requires.0).sense c.requires.1)

pub sense_at-returns-then-st-ne0 : goal.sense_at-returns-then-st-ne0
sense_at-returns-then-st-ne0 t c =
    gives
    (ev-sense c.requires.0 c.args.here.now c.args.env.now (state_of c.args.st.now) c.requires.1 _ c.first.ensures)
    (fails _ _ c.operand-s.ensures c.if-st-ne0.true)

pub sense_at-returns : goal.sense_at-returns
sense_at-returns t c =
    let h : SFits w32 (get_or c.args.here.now 16 (pos 0)) = search given_rules in
    gives
    (ev-sense c.requires.0 c.args.here.now c.args.env.now (state_of c.args.st.now) c.requires.1 _ c.first.ensures
    ∙ goes _ c.operand-s.ensures (search given_rules) c.if-st-ne0.false)
    (gave (ap number (sym (to_z-of_z w32 c.lit_of.result (sfits_of c.lit_of.type_inv) ∙ c.lit_of.ensures
    ∙ both_read sensed (get_or c.args.here.now 16 (pos 0)) c.operand-s.result h (sfits_of c.operand-s.type_inv)))) refl
    (clear c.operand-s.new.st (search given_rules) c.if-st-ne0.false))
