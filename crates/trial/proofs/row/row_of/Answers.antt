use Rattle.trial.proofs.Rows.{front_of, letters_text, letters_none}
use Rattle.trial.proofs.row.row_of.Goals as goal

pub returns-then-row-ne-NONE : goal.returns-then-row-ne-NONE
returns-then-row-ne-NONE c =
    let line = c.args.line.now in
    let front = front_of line _ _ _ _ _ c.byte_at-a.ensures c.byte_at-b.ensures c.byte_at-c.ensures c.byte_at-d.ensures c.byte_at-e.ensures in
    letters_text _ _ (c.letter_row-row.ensures _ front) c.if-row-ne-NONE.true

pub other_row-requires : goal.other_row-requires
other_row-requires c =
    let line = c.args.line.now in
    let front = front_of line _ _ _ _ _ c.byte_at-a.ensures c.byte_at-b.ensures c.byte_at-c.ensures c.byte_at-d.ensures c.byte_at-e.ensures in
    letters_none _ _ (c.letter_row-row.ensures _ front) c.if-row-ne-NONE.false
