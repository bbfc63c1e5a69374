use Rattle.std.proofs.Common.{◌+◌, drop, length-drop, arith}
use Rattle.text.proofs.Copying.{stored}
use Rattle.text.proofs.copy.lay_chunk.Goals as goal

pub returns : goal.returns
returns g c = stored c.args.out.now (drop c.args.i c.args.piece.now) (c.args.at + c.args.i) g.row.N (omega (arith, length-drop c.args.i c.args.piece.now)) (omega arith)
