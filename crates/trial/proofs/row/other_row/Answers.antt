use Rattle.trial.proofs.Rows.{is_numbered, other_none, first_classed, last_classed}
use Rattle.trial.proofs.row.other_row.Goals as goal

pub number_row-requires : goal.number_row-requires
number_row-requires c =
    let line = c.args.line.now in
    let first = first_classed line _ _ _ c.classes_of-ends.ensures c.first_byte.ensures in
    (is_numbered line _ first c.if-ends-eq-DIGIT.true, last_classed line _ _ _ c.classes_of-ends.ensures c.last_byte.ensures)

pub returns : goal.returns
returns c =
    let line = c.args.line.now in
    other_none line _ c.requires (first_classed line _ _ _ c.classes_of-ends.ensures c.first_byte.ensures) c.if-ends-eq-DIGIT.false
