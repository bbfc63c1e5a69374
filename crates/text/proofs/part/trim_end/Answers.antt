use Rattle.std.proofs.Common.{rules}
use Rattle.text.proofs.Trims.{end_part}
use Rattle.text.proofs.part.trim_end.Goals as goal

pub returns : goal.returns
returns c = search (rules, end_part)
