-- `open` meets its contract: the request, and the open of the parts.
use mathlib.Core.Path.{refl, sym, ◌∙◌}
use Rattle.text.proofs.Readings.{ok_or_some}
use Rattle.at_command.specs.says.Request.{asked}
use Rattle.desk.specs.Rules.{plain_mode}
use Rattle.sim7000.proofs.Asking.{opens_left}
use Rattle.sim7000.proofs.parts.open.Goals as goal

pub returns : goal.returns
returns c = λ line sent full. let a = c.args in
    let is = ok_or_some (λ q. asked q a.first.now a.second.now) _ a.request _ _ refl (sym c.in_ok-request.was ∙ c.ok_or.ensures.value) in
    let made = rw (c.state_in.ensures line sent) at (c.open_on-opened.ensures line sent full) in
    c.leave.ensures line _ _ ∙ opens_left plain_mode _ line _ sent _ _ is _ made
