use Rattle.std.proofs.Common.{rules}
use Rattle.text.proofs.Trims.{trim_part}
use Rattle.text.proofs.part.trim.Goals as goal

pub returns : goal.returns
returns c = search (rules, trim_part)
