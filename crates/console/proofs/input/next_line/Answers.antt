use Rattle.std.proofs.Common.{arith}
use Rattle.console.proofs.Laws.{behind}
use Rattle.console.proofs.input.next_line.Goals as goal

pub returns-then-end-read-clause-line : goal.returns-then-end-read-clause-line
returns-then-end-read-clause-line g c = (omega arith, omega (arith, behind _ _ _ _ c.part-read.ensures))
