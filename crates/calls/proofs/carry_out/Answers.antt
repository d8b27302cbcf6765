-- `calls::carry_out` meets its contract. Assumes nothing.
use mathlib.Core.Path.{◌≡◌, sym}
use Rattle.std.proofs.lemmas.Result.{err_from_is_err_and}
use Rattle.effects.proofs.Lit.{sound-length}
use Rattle.calls.proofs.Laws.{by-program, by-network, by-list, by-room, tested, carried}
use Rattle.calls.proofs.carry_out.Goals as goal

pub returns-in_err-main : goal.returns-in_err-main
returns-in_err-main g c = λ read t.
    let p = err_from_is_err_and c.from_residual.result c.from_residual.ensures.1 in
    rw (p.1, p.2) (by-program _ _ _ _ _ (sym c.in_err-main.ensures))

pub returns-in_err-soundness : goal.returns-in_err-soundness
returns-in_err-soundness g c = λ read t.
    let p = err_from_is_err_and c.from_residual-in_err-soundness.result c.from_residual-in_err-soundness.ensures.1 in
    rw (p.1, p.2) (by-network _ _ _ _ _ c.in_ok-main.ensures.0 c.in_err-soundness.ensures)

pub returns-in_err-events : goal.returns-in_err-events
returns-in_err-events g c = λ read t.
    let p = err_from_is_err_and c.from_residual-in_err-events.result c.from_residual-in_err-events.ensures.1 in
    rw (p.1, p.2) (by-list _ _ _ _ _ c.in_ok-main.ensures.0 (sym c.in_ok-soundness.ensures) (t.count _ c.in_err-events.ensures))

pub returns-then-space-events : goal.returns-then-space-events
returns-then-space-events g c = λ read t. by-room _ _ _ _ c.in_ok-main.ensures.0 (sym c.in_ok-soundness.ensures) c.in_ok-events.events (t.count _ c.in_ok-events.ensures) c.if-space-events.true

pub perform-requires : goal.perform-requires
perform-requires g c =
    let r = c.requires.counts in
    let same : c.in-Some.cells.now ≡ c.args.network.now = c.in-Some.ensures.cases.same in
    rw same (tested _ _ _ _ r.0 c.in_ok-main.ensures.1 (sym c.in_ok-soundness.ensures) c.in_ok-events.events (r.1.count _ c.in_ok-events.ensures) r.1.list c.if-space-events.false)

pub returns : goal.returns
returns g c = λ read t.
    let same : c.in-Some.cells.now ≡ c.args.network.now = c.in-Some.ensures.cases.same in
    carried _ _ _ _ read c.in_ok-main.ensures.1 (sym c.in_ok-soundness.ensures) c.in_ok-events.events (t.count _ c.in_ok-events.ensures) t.list c.if-space-events.false
    c.in_ok-main.ensures.0 (rw same at c.perform.ensures)

pub unreachable-requires : goal.unreachable-requires
unreachable-requires g c = c.in_default.ensures.cases (sound-length _ (sym c.in_ok-soundness.ensures))
