use borrow.Author.Rules.{rules}
use Rattle.trial.proofs.Rows.{row_close, row_letter, row_short, row_long}
use Rattle.trial.proofs.row.number_row.Goals as goal

pub returns-then-last-eq-OTHER : goal.returns-then-last-eq-OTHER
returns-then-last-eq-OTHER c = search (rules, row_close)

pub returns-then-last-ne-DIGIT : goal.returns-then-last-ne-DIGIT
returns-then-last-ne-DIGIT c = search (rules, row_letter)

pub returns-then-line-lt17 : goal.returns-then-line-lt17
returns-then-line-lt17 c = search (rules, row_short)

pub returns : goal.returns
returns c = search (rules, row_long)
