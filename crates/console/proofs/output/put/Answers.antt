use Rattle.std.proofs.Common.{arith}
use Rattle.console.proofs.Laws.{left_out, laid}
use Rattle.console.proofs.output.put.Goals as goal

pub returns-then-out-at : goal.returns-then-out-at
returns-then-out-at c = left_out _ _ _ (omega arith)

pub returns : goal.returns
returns c = laid _ _ _ _ _ (omega arith) c.lay.ensures
