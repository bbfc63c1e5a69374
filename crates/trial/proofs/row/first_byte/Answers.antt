use borrow.Author.Rules.{rules}
use Rattle.trial.proofs.Rows.{first_plus, first_plain}
use Rattle.trial.proofs.row.first_byte.Goals as goal

pub returns-then-first-eq43 : goal.returns-then-first-eq43
returns-then-first-eq43 c = search (rules, first_plus)

pub returns : goal.returns
returns c = search (rules, first_plain)
