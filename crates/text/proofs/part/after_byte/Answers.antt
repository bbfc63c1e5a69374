use Rattle.std.proofs.Common.{arith, rules}
use Rattle.text.proofs.Parts.{index_le}
use Rattle.text.proofs.Parts.{index_le, after_part}
use Rattle.text.proofs.part.after_byte.Goals as goal

pub overflow_add-find : goal.overflow_add-find
overflow_add-find c = omega (arith, c.find.ensures, index_le c.args.b c.args.s.now)

pub returns : goal.returns
returns c = search (rules, after_part)
