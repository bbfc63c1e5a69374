use Rattle.numeral.proofs.Counting.{numeral_told}
use Rattle.numeral.proofs.is_numeral.Goals as goal

pub returns : goal.returns
returns c = numeral_told _ _ _ c.unsigned.ensures c.is_counted.ensures
