use Rattle.std.proofs.Common.{rules}
use Rattle.text.proofs.ReaderPlaces.{next_in, next_out}
use Rattle.text.proofs.reader.next_at.Goals as goal

pub returns-then-e-s : goal.returns-then-e-s
returns-then-e-s c = search (rules, next_in)

pub returns : goal.returns
returns c = search (rules, next_out)
