use Rattle.std.proofs.Common.{arith, rules}
use Rattle.text.proofs.Parts.{count_le}
use Rattle.text.proofs.Fields.{count_fields}
use Rattle.text.proofs.field.field_count.Goals as goal

pub overflow_add-result : goal.overflow_add-result
overflow_add-result c = omega (arith, c.count_byte.ensures, count_le c.args.b c.args.s.now)

pub returns : goal.returns
returns c = search (rules, count_fields)
