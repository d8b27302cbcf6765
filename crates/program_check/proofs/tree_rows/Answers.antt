-- `program_check::tree_rows` meets its contract. Assumes nothing.
use Rattle.std.proofs.Common.{arith}
use Rattle.program_check.proofs.Verdicts.{packed, sort_row, scope_row, use_row, cost_row, accepts}
use Rattle.program_check.proofs.Columns.{told, in-columns}
use Rattle.program_check.proofs.tree_rows.Goals as goal

pub returns-in-Some : goal.returns-in-Some
returns-in-Some c = rw c.refuse.ensures (rw c.from.ensures (sort_row c.requires.good c.requires.main c.in-Some.ensures.0 (omega arith)))

pub returns-in-Some-misread_lowest : goal.returns-in-Some-misread_lowest
returns-in-Some-misread_lowest c =
    let p = c.in_default.ensures.0 in
    rw c.refuse-in-Some-misread_lowest.ensures
    (scope_row c.requires.good c.requires.main p (c.in-Some-misread_lowest.ensures _ (told (packed c.requires.good c.requires.main p))))

pub returns-in-Some-uses : goal.returns-in-Some-uses
returns-in-Some-uses c =
    let p = c.in_default.ensures.0 in
    let h = packed c.requires.good c.requires.main p in
    rw c.refuse-in-Some-uses.ensures
    (use_row c.requires.good c.requires.main p (c.in_default-misread_lowest.ensures _ (told h))
    (c.in-Some-uses.ensures _ (in-columns h c.in_default.ensures.1 c.in_default.ensures.2)))

pub returns-then-main_cost-gt-LIMIT : goal.returns-then-main_cost-gt-LIMIT
returns-then-main_cost-gt-LIMIT c =
    let p = c.in_default.ensures.0 in
    let h = packed c.requires.good c.requires.main p in
    rw c.refuse-then-main_cost-gt-LIMIT.ensures
    (cost_row c.requires.good c.requires.main p (c.in_default-misread_lowest.ensures _ (told h))
    (c.in_default-uses.ensures _ (in-columns h c.in_default.ensures.1 c.in_default.ensures.2)) c.main_cost.ensures c.if-main_cost-gt-LIMIT.true)

pub returns : goal.returns
returns c =
    let p = c.in_default.ensures.0 in
    let h = packed c.requires.good c.requires.main p in
    accepts c.requires.good c.requires.main p (c.in_default-misread_lowest.ensures _ (told h))
    (c.in_default-uses.ensures _ (in-columns h c.in_default.ensures.1 c.in_default.ensures.2)) c.main_cost.ensures c.if-main_cost-gt-LIMIT.false
