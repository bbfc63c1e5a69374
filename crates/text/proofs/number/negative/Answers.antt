use Rattle.text.proofs.Signs.{minus_fits, minus_is}
use Rattle.text.proofs.number.negative.Goals as goal

pub returns-then-m-eq0 : goal.returns-then-m-eq0
returns-then-m-eq0 c = rw c.if-m-eq0.true

pub overflow_sub-result-2 : goal.overflow_sub-result-2
overflow_sub-result-2 c = search minus_fits

pub returns : goal.returns
returns c = search minus_is
