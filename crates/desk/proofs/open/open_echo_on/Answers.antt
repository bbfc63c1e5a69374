-- `open_echo_on` meets its contract: the plain open, and what it wrote is kept.
use mathlib.Core.Path.{◌≡◌, ap}
use lib.ListN.{length}
use borrow.Author.Rules.{rules}
use Rattle.at_command.proofs.Commands.{request_numbers}
use Rattle.at_command.specs.Request.{answers_to}
use Rattle.at_command.specs.says.Request.{asked, encoded_says}
use Rattle.desk.specs.Keeps.{command_by}
use Rattle.desk.specs.Rules.{plain_mode, echo_mode}
use Rattle.desk.proofs.Opening.{refused_as, echo_kept}
use Rattle.desk.proofs.open.open_echo_on.Goals as goal

pub returns-in_default : goal.returns-in_default
returns-in_default c = λ line full. let a = c.args in
    let o = c.open_on-opened.ensures line a.sent.now full in
    refused_as _ _ (command_by plain_mode a.request a.first.now a.second.now) _ o (ap encoded_says c.in_default.is) (command_by echo_mode a.request a.first.now a.second.now)

pub returns : goal.returns
returns c = λ line full. let a = c.args in
    let kept : length a.sent.now ≡ 210 = search rules in
    let o = c.open_on-opened.ensures line a.sent.now full in
    let asks = asked a.request a.first.now a.second.now in
    echo_kept _ asks (answers_to asks) a.out.now o (ap encoded_says c.in-Ok.is) (request_numbers a.request a.first.now a.second.now c.well_formed.1.1.0) kept c.part.ensures.bytes c.lay-end.ensures
