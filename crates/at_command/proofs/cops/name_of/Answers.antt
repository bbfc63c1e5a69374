use native.Mathlib.Omega.{arith}
use borrow.Author.Rules.{rules}
use Rattle.at_command.proofs.cops.Laws.{left_fits, third, name_in_line, name_in_fallback}
use Rattle.at_command.proofs.cops.name_of.Goals as goal

pub unquoted_field-requires : goal.unquoted_field-requires
unquoted_field-requires c = search (rules, third)

pub returns-then-field_count-gt2 : goal.returns-then-field_count-gt2
returns-then-field_count-gt2 c = search (rules, name_in_line)

pub overflow_add-result : goal.overflow_add-result
overflow_add-result c = omega (arith, left_fits _ _ _ c.trim_start-start.ensures c.trim-left.ensures.bytes)

pub returns : goal.returns
returns c = search (rules, name_in_fallback)
