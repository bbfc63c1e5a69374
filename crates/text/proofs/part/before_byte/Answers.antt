use Rattle.std.proofs.Common.{rules}
use Rattle.text.proofs.Parts.{before_part}
use Rattle.text.proofs.part.before_byte.Goals as goal

pub returns : goal.returns
returns c = search (rules, before_part)
