use borrow.Author.Rules.{rules}
use Rattle.at_command.proofs.cops.Laws.{field_there, field_absent}
use Rattle.at_command.proofs.cops.field_or.Goals as goal

pub returns-then-n-field_count : goal.returns-then-n-field_count
returns-then-n-field_count c = search (rules, field_there)

pub returns : goal.returns
returns c = search (rules, field_absent)
