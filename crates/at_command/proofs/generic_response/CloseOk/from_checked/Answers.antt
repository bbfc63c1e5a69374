use Rattle.std.proofs.Common.{arith}
use Rattle.text.specs.Bytes.{bytes}
use Rattle.at_command.proofs.generic_response.Laws.{ends_length}
use Rattle.at_command.proofs.generic_response.CloseOk.from_checked.Goals as goal

pub overflow_sub-line : goal.overflow_sub-line
overflow_sub-line c = omega (arith, ends_length (bytes ", CLOSE OK") _ _ c.ends_with.ensures c.if-not-ends_with.false)
