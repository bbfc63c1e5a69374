use Rattle.std.proofs.Common.{rules}
use Rattle.text.proofs.Fields.{field_part}
use Rattle.text.proofs.field.field.Goals as goal

pub returns : goal.returns
returns c = search (rules, field_part)
