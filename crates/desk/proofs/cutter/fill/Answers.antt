-- `fill` meets its contract: what has room is laid, up to an LF, where no prompt can come of it.
use native.Mathlib.Omega.{arith}
use Rattle.std.proofs.lemmas.Slice.{between_to_end}
use Rattle.desk.proofs.Searching.{filled_to}
use Rattle.desk.proofs.cutter.fill.Goals as goal

pub returns : goal.returns
returns c = let f = c.lay_to_lf.ensures in
    filled_to c.told-line (c.may_prompt.ensures c.if-may_prompt.false) (omega arith) (omega arith) (between_to_end c.args.chunk.now c.args.at _ (omega arith)) c.min.ensures f.few f.clear f.laid
