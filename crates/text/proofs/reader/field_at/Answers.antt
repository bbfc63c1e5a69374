use Rattle.std.proofs.Common.{rules}
use Rattle.text.proofs.ReaderPlaces.{at_part}
use Rattle.text.proofs.reader.field_at.Goals as goal

pub returns : goal.returns
returns c = search (rules, at_part)
