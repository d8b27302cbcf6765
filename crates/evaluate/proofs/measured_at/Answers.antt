-- `evaluate::measured_at` meets its contract. Assumes nothing.
use Rattle.std.proofs.Common.{refl, sym}
use Rattle.apply.proofs.Laws.{sends}
use Rattle.evaluate.proofs.measured_at.Goals as goal

pub returns : goal.returns
returns c = sends c.args.st.now c.args.slot c.requires.0 refl c.requires.1 (sym c.measured.ensures)
