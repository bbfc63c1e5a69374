use Rattle.numeral.proofs.Signs.{behind}
use Rattle.numeral.proofs.unsigned.Goals as goal

pub returns : goal.returns
returns c = behind _ _ _ c.starts_with.ensures.value c.starts_with-2.ensures.value
