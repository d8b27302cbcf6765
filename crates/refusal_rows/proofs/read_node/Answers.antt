-- `refusal_rows::read_node` meets its contract. Assumes nothing.
use Rattle.std.proofs.Common.{sym, ◌∙◌, ap}
use Rattle.std.specs.Prelude.{Some}
use Rattle.kinds.proofs.Fields.{no_room, unknown}
use Rattle.refusal_rows.proofs.Rows.{as-read, named-is, unnamed, parameters-limited, variables-limited}
use Rattle.refusal_rows.proofs.read_node.Goals as goal

pub returns-then-n-ge-NODES : goal.returns-then-n-ge-NODES
returns-then-n-ge-NODES c = no_room _ c.in-len1-up.len_at_least c.if-n-ge-NODES.true

pub returns-in_default-of : goal.returns-in_default-of
returns-in_default-of c = unknown _ c.in-len1-up.len_at_least c.if-n-ge-NODES.false (unnamed _ (sym c.of.ensures ∙ c.in_default-of.is))

pub numbered-requires : goal.numbered-requires
numbered-requires c = rw c.in-Parameter.is parameters-limited

pub numbered-requires-in-Variable : goal.numbered-requires-in-Variable
numbered-requires-in-Variable c = rw c.in-Variable.is variables-limited

pub returns-in-Constant : goal.returns-in-Constant
returns-in-Constant c = as-read c.args.b.now c.in-len1-up.len_at_least (named-is _ (sym c.of.ensures ∙ c.in-Some.is ∙ ap Some c.in-Constant.is)) (c.constant.ensures _ _ _ _ c.if-n-ge-NODES.false)

pub returns-in-Parameter : goal.returns-in-Parameter
returns-in-Parameter c = as-read c.args.b.now c.in-len1-up.len_at_least (named-is _ (sym c.of.ensures ∙ c.in-Some.is)) (c.numbered.ensures _ _ _ _ c.if-n-ge-NODES.false)

pub returns-in-Variable : goal.returns-in-Variable
returns-in-Variable c = as-read c.args.b.now c.in-len1-up.len_at_least (named-is _ (sym c.of.ensures ∙ c.in-Some.is)) (c.numbered-in-Variable.ensures _ _ _ _ c.if-n-ge-NODES.false)

pub returns-in-Operator : goal.returns-in-Operator
returns-in-Operator c = as-read c.args.b.now c.in-len1-up.len_at_least (named-is _ (sym c.of.ensures ∙ c.in-Some.is)) (c.operator.ensures _ _ _ _)

pub returns-in-Sense : goal.returns-in-Sense
returns-in-Sense c = as-read c.args.b.now c.in-len1-up.len_at_least (named-is _ (sym c.of.ensures ∙ c.in-Some.is)) (c.plain.ensures _ _ _ _)

pub returns-in-Rep : goal.returns-in-Rep
returns-in-Rep c = as-read c.args.b.now c.in-len1-up.len_at_least (named-is _ (sym c.of.ensures ∙ c.in-Some.is ∙ ap Some c.in-Rep.is)) (c.rep.ensures _ _ _)

pub returns-in-If : goal.returns-in-If
returns-in-If c = as-read c.args.b.now c.in-len1-up.len_at_least (named-is _ (sym c.of.ensures ∙ c.in-Some.is)) (c.plain-in-If.ensures _ _ _ _)

pub returns-in-Nbr : goal.returns-in-Nbr
returns-in-Nbr c = as-read c.args.b.now c.in-len1-up.len_at_least (named-is _ (sym c.of.ensures ∙ c.in-Some.is)) (c.slotted.ensures _ _ _)

pub returns-in-Range : goal.returns-in-Range
returns-in-Range c = as-read c.args.b.now c.in-len1-up.len_at_least (named-is _ (sym c.of.ensures ∙ c.in-Some.is)) (c.measure.ensures _ _ _ _ _ c.if-n-ge-NODES.false)

pub returns-in-FoldBy : goal.returns-in-FoldBy
returns-in-FoldBy c = as-read c.args.b.now c.in-len1-up.len_at_least (named-is _ (sym c.of.ensures ∙ c.in-Some.is ∙ ap Some c.in-FoldBy.is)) (c.fold_by.ensures _ _ _)

pub returns-in-Call : goal.returns-in-Call
returns-in-Call c = as-read c.args.b.now c.in-len1-up.len_at_least (named-is _ (sym c.of.ensures ∙ c.in-Some.is ∙ ap Some c.in-Call.is)) (c.call.ensures _ _)
