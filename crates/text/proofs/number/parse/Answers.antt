use Rattle.std.proofs.Common.{sym}
use Rattle.text.specs.says.Number.{base_number}
use Rattle.text.proofs.Numbers.{unsigned_le}
use Rattle.text.proofs.number.parse.Goals as goal

pub narrow-requires : goal.narrow-requires
narrow-requires g c = rw c.MAX.ensures at (unsigned_le (base_number c.args.base) c.MAX.result c.in-Some.n c.args.s.now (sym c.in-Some.ensures))
