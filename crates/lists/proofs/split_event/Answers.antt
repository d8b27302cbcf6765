-- `lists::split_event` meets its contract. Assumes nothing.
use mathlib.Core.Path.{sym, ap, ◌∙◌}
use Rattle.wire_reader.specs.Field.{fields_by}
use Rattle.lists.proofs.split_event.Goals as goal

pub returns-clause-first : goal.returns-clause-first
returns-clause-first c =
    let f = c.in_ok-field in
    record { entry = record { tag = f.field.tag; body = f.field.body.now }; field = f.ensures.fields ∙ ap (fields_by c.args.list.now) (sym f.ensures.split); event = sym c.in_ok-event.ensures }
