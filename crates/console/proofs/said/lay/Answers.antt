use Rattle.std.proofs.Common.{rules, ◌≡◌, [], ◌++◌, codes}
use Rattle.std.specs.Fmt.{decimal}
use Rattle.desk.specs.Says.{event_says}
use Rattle.console.specs.Said.{number_behind}
use Rattle.console.proofs.Saying.{laid_front, said_alone, said_numbered}
use Rattle.console.proofs.said.lay.Goals as goal

pub returns-in-Stray : goal.returns-in-Stray
returns-in-Stray c =
    let front = laid_front (event_says c.args.heard.event) _ _ _ _ _ c.into.result _ _ _ c.word.ensures c.into.type_inv (search rules) c.put-at.ensures c.put-at-2.ensures c.put_decimal-at.ensures in
    let behind : number_behind (event_says c.args.heard.event) ≡ codes " " ++ decimal c.stray.result = search rules in
    let said = said_numbered (event_says c.args.heard.event) c.into.result c.stray.result _ _ _ _ _ _ c.into.type_inv c.stray.type_inv behind front c.put-at-in-Stray.ensures c.put_decimal.ensures in
    rw c.into.ensures at said

pub returns : goal.returns
returns c =
    let front = laid_front (event_says c.args.heard.event) _ _ _ _ _ c.into.result _ _ _ c.word.ensures c.into.type_inv (search rules) c.put-at.ensures c.put-at-2.ensures c.put_decimal-at.ensures in
    let none : number_behind (event_says c.args.heard.event) ≡ [] = search rules in
    let said = said_alone (event_says c.args.heard.event) c.into.result _ _ none front in
    rw c.into.ensures at said
