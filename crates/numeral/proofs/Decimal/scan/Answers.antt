-- Behind the sign, the digits say what the whole text says.
use Rattle.numeral.specs.Numeral.{decimal_of}
use Rattle.numeral.proofs.Signs.{begins}
use Rattle.numeral.proofs.Decimal.scan.Goals as goal

pub returns : goal.returns
unfolding decimal_of
returns c = rw (← begins c.args.s.now 45, ← c.starts_with.ensures.value, ← c.unsigned.ensures) c.digits_from.ensures
