-- `feed_on` meets its contract: the search, then the ruling on the piece that it stops at.
use mathlib.Core.Path.{ap}
use Rattle.desk.specs.Search.{tray_of}
use Rattle.desk.proofs.Feeding.{fed_ruled}
use Rattle.desk.proofs.feed.feed_on.Goals as goal

pub returns : goal.returns
returns c = fed_ruled _ _ _ c.search-taken.ensures c.if-text-lt256.false (c.rule-heard.ensures.0 _) (ap (tray_of _) c.rule-heard.ensures.1)
