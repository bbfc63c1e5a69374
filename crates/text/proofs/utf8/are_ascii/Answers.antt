use Rattle.std.proofs.Common.{eqb-true}
use Rattle.text.proofs.Utf8Laws.{ascii_eight}
use Rattle.text.proofs.utf8.are_ascii.Goals as goal

pub returns : goal.returns
returns c t = ascii_eight c.args.eight.now c.fits-eight (rw c.from_le_bytes.ensures at (eqb-true _ 0 t))
