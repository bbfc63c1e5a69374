use Rattle.std.proofs.Common.{◌∙◌, rules}
use Rattle.std.proofs.Output.{has_written_of_eq}
use Rattle.console.proofs.Saying.{laid_decimal}
use Rattle.console.proofs.number.DecimalDisplay.fmt.Goals as goal

pub returns-in-Ok-clause-writes : goal.returns-in-Ok-clause-writes
returns-in-Ok-clause-writes g c p r = has_written_of_eq _ _ _ _ _ (c.in-Ok.ensures.cases.0 ∙ c.part.ensures.bytes ∙ laid_decimal _ _ _ _ (search rules) (search rules) c.put_decimal-n.ensures) (c.write_str.ensures.writes p r)
