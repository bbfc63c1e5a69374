-- `row` meets its contract: the reader's numbers lie over the zeros.
use Rattle.sim7000.proofs.Rows.{laid}
use Rattle.sim7000.proofs.values.row.Goals as goal

pub returns : goal.returns
returns c = laid _ _ c.copy_from_slice.ensures.after c.requires
