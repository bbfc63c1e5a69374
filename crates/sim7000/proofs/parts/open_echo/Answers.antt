-- `open_echo` meets its contract, as `open` does.
use mathlib.Core.Path.{refl, sym, ◌∙◌}
use Rattle.text.proofs.Readings.{ok_or_some}
use Rattle.at_command.specs.says.Request.{asked}
use Rattle.desk.specs.Rules.{echo_mode}
use Rattle.sim7000.proofs.Asking.{opens_left}
use Rattle.sim7000.proofs.parts.open_echo.Goals as goal

pub returns : goal.returns
returns c = λ line full. let a = c.args in
    let is = ok_or_some (λ q. asked q a.first.now a.second.now) _ a.request _ _ refl (sym c.in_ok-request.was ∙ c.ok_or.ensures.value) in
    let made = rw (c.state_in-before.ensures line a.sent.now) at (c.open_echo_on-opened.ensures line full) in
    c.leave.ensures line _ _ ∙ opens_left echo_mode _ line _ _ _ _ is _ made
