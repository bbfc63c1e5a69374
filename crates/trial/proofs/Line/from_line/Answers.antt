-- The trial that the line's front chooses says what both in turn do.
use Rattle.std.proofs.lemmas.Result.{err_from_is_err_and}
use Rattle.text.specs.Reading.{mapped}
use Rattle.trial.proofs.Turns.{said_begun, said_other}
use Rattle.trial.proofs.Line.from_line.Goals as goal

pub returns-in_err-from_line : goal.returns-in_err-from_line
unfolding mapped
returns-in_err-from_line c =
    let p = err_from_is_err_and c.from_residual.result c.from_residual.ensures.1 in
    rw (p.1, p.2) (said_begun _ _ c.begins.ensures c.if-begins.true c.in_err-from_line.ensures)

pub returns-then-begins : goal.returns-then-begins
unfolding mapped
returns-then-begins c = said_begun _ _ c.begins.ensures c.if-begins.true c.in_ok-from_line.ensures

pub returns-in_err-from_line-2 : goal.returns-in_err-from_line-2
unfolding mapped
returns-in_err-from_line-2 c =
    let r = c.from_residual-in_err-from_line-2 in
    let p = err_from_is_err_and r.result r.ensures.1 in
    rw (p.1, p.2) (said_other _ _ c.begins.ensures c.if-begins.false c.in_err-from_line-2.ensures)

pub returns : goal.returns
unfolding mapped
returns c = said_other _ _ c.begins.ensures c.if-begins.false c.in_ok-from_line-2.ensures
