-- Each turn stores the place behind a byte, and keeps it where the byte is a comma.
use Rattle.text.proofs.ReaderStarts.{Found}
use Rattle.text.proofs.reader.starts_at.Given as goal

abbrev pub invariant-loop-i : goal.invariant-loop-i
invariant-loop-i l = Found l.s l.at l.places l.k l.i
