use Rattle.numeral.proofs.Counting.{Counted}
use Rattle.numeral.proofs.is_counted.Given as goal

abbrev pub invariant-loop-c : goal.invariant-loop-c
invariant-loop-c l = Counted l.text l.digits l.points l.c-index
