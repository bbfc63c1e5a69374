use Rattle.std.proofs.Common.{rules}
use Rattle.text.proofs.Parts.{to_end}
use Rattle.text.proofs.part.skip.Goals as goal

pub part-requires : goal.part-requires
part-requires c = search rules

pub returns : goal.returns
returns c = rw to_end at c.part.ensures
