use Rattle.text.proofs.ReaderStarts.{from_start}
use Rattle.text.proofs.reader.field_starts.Goals as goal

pub returns : goal.returns
returns c = from_start _ _ (rw (c.new.ensures.0, c.new.ensures.1) at c.starts.ensures)
