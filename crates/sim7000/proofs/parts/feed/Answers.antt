-- `feed` meets its contract, by what the feed of the parts says.
use mathlib.Core.Path.{ap}
use Rattle.std.proofs.lemmas.Result.{err_from_is_err_and}
use Rattle.desk.specs.Says.{answer_says}
use Rattle.sim7000.proofs.Feeding.{feed_refused, feed_heard}
use Rattle.sim7000.proofs.parts.feed.Goals as goal

pub returns-in_err-fed : goal.returns-in_err-fed
returns-in_err-fed c = let a = c.args in
    let made = rw (c.state_in.ensures a.line.now a.sent.now) at c.feed_on-fed.ensures in
    let p = err_from_is_err_and c.from_residual.result c.from_residual.ensures.1 in
    rw (p.1, p.2) (feed_refused _ _ _ _ _ _ _ made (ap answer_says c.in_err-fed.was))

pub returns : goal.returns
returns c = let a = c.args in
    let made = rw (c.state_in.ensures a.line.now a.sent.now) at c.feed_on-fed.ensures in
    rw (c.told_of.ensures, c.numbers_of.ensures c.feed_on-fed.new.line a.sent.now) (feed_heard _ _ _ _ _ _ _ made (ap answer_says c.in_ok-fed.was))
