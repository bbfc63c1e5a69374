use borrow.Author.Rules.{rules}
use Rattle.numeral.proofs.Counting.{counted_none, digits_fit, points_fit, counted_more, sum_fits, counts_told}
use Rattle.numeral.proofs.is_counted.Goals as goal

pub loop-c-init : goal.loop-c-init
loop-c-init c = search (rules, counted_none)

pub overflow_add-digits : goal.overflow_add-digits
overflow_add-digits c = search (rules, digits_fit)

pub overflow_add-points : goal.overflow_add-points
overflow_add-points c = search (rules, points_fit)

pub loop-c-preserved : goal.loop-c-preserved
loop-c-preserved c = search (rules, counted_more)

pub overflow_add-result : goal.overflow_add-result
overflow_add-result c = search (rules, sum_fits)

pub returns : goal.returns
returns c = counts_told _ _ _ _ c.loop-c.invariant c.loop-c-test.false
