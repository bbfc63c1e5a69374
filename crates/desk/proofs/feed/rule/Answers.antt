-- `rule` meets its contract, by the piece.
use mathlib.Core.Path.{refl}
use Rattle.desk.specs.Says.{kept_says}
use Rattle.desk.proofs.Feeding.{ruled_overlong, ruled_line, laid_front}
use Rattle.desk.proofs.Keeping.{overlong_keeps}
use Rattle.desk.proofs.feed.rule.Goals as goal

pub returns-in-Overlong : goal.returns-in-Overlong
returns-in-Overlong c = let k = kept_says c.args.sent.now c.args.state in
    (λ taken. rw (c.in-Some.is, c.in-Overlong.is) (ruled_overlong k _ _ (overlong_keeps k _ c.size_of.ensures c.next.ensures)), refl)

pub returns-in-Line : goal.returns-in-Line
returns-in-Line c = let fits = rw (c.in-Some.is, c.in-Line.is) at c.requires.0 in
    let room = rw (c.in-Some.is, c.in-Line.is) at c.requires.1 in
    let j = c.rule_line-event.ensures in
    (λ taken. rw (c.in-Some.is, c.in-Line.is) (ruled_line (kept_says c.args.sent.now c.args.state) taken _ c.args.line.now _ fits j.0 (laid_front c.args.line.now c.args.text.now _ _ _ fits room c.lay-end.ensures)), j.1)
