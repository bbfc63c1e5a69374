use Rattle.std.proofs.Common.{rules}
use Rattle.console.proofs.Laws.{shown}
use Rattle.console.proofs.output.put_decimal.Goals as goal

pub returns : goal.returns
returns c = search (rules, shown)
