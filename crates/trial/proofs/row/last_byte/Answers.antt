use borrow.Author.Rules.{rules}
use Rattle.trial.proofs.Rows.{last_none}
use Rattle.trial.proofs.row.last_byte.Goals as goal

pub returns-then-n-eq0 : goal.returns-then-n-eq0
returns-then-n-eq0 c = search (rules, last_none)
