use Rattle.std.proofs.lemmas.Result.{err_from_is_err_and}
use Rattle.text.specs.Reading.{mapped}
use Rattle.trial.proofs.OneReader.{line_as_response, line_as_urc}
use Rattle.trial.proofs.straight.said.Goals as goal

pub returns-in_err-read_at : goal.returns-in_err-read_at
unfolding mapped
returns-in_err-read_at c =
    let p = err_from_is_err_and c.from_residual.result c.from_residual.ensures.1 in
    rw (p.1, p.2) (line_as_response _ _ c.row_of-row.ensures _ c.if-row-lt-RESPONSES.true c.in_err-read_at.ensures)

pub returns-then-row-lt-RESPONSES : goal.returns-then-row-lt-RESPONSES
unfolding mapped
returns-then-row-lt-RESPONSES c = line_as_response _ _ c.row_of-row.ensures _ c.if-row-lt-RESPONSES.true c.in_ok-read_at.ensures

pub returns-in_err-read_at-2 : goal.returns-in_err-read_at-2
unfolding mapped
returns-in_err-read_at-2 c =
    let r = c.from_residual-in_err-read_at-2 in
    let p = err_from_is_err_and r.result r.ensures.1 in
    rw (p.1, p.2) (line_as_urc _ _ c.row_of-row.ensures _ c.if-row-lt-RESPONSES.false c.in_err-read_at-2.ensures)

pub returns : goal.returns
unfolding mapped
returns c = line_as_urc _ _ c.row_of-row.ensures _ c.if-row-lt-RESPONSES.false c.in_ok-read_at-2.ensures
