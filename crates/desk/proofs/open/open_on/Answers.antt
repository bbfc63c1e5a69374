-- `open_on` meets its contract: the refusals in order, then the writer's answer.
use mathlib.Core.Path.{sym, ap, ◌∙◌}
use Rattle.at_command.proofs.OneRequest.{any_texts}
use Rattle.at_command.specs.says.Request.{encoded_says}
use Rattle.desk.specs.Search.{tray_of}
use Rattle.desk.proofs.Clearing.{clear_empty, clear_not}
use Rattle.desk.proofs.Opening.{some_open, open_busy, open_held, open_refused, open_written}
use Rattle.desk.proofs.open.open_on.Goals as goal

pub returns-then-is_some : goal.returns-then-is_some
returns-then-is_some c = λ bytes sent full. open_busy _ _ _ _ (some_open _ ∙ sym c.is_some.ensures ∙ c.if-is_some.true)

pub returns-then-state-gt0 : goal.returns-then-state-gt0
returns-then-state-gt0 c = λ bytes sent full. open_held _ _ (some_open _ ∙ sym c.is_some.ensures ∙ c.if-is_some.false) _ _ (clear_not _ full c.if-state-gt0.true)

pub returns-in-Err : goal.returns-in-Err
returns-in-Err c = λ bytes sent full. let e = c.encode-answer.ensures in
    open_refused _ _ (some_open _ ∙ sym c.is_some.ensures ∙ c.if-is_some.false) (clear_empty (tray_of bytes c.args.state.len) c.if-state-gt0.false) _ _ (ap encoded_says c.in-Err.is) e.says e.holds

pub returns-in-Ok : goal.returns-in-Ok
returns-in-Ok c = λ bytes sent full. let a = c.args in
    let e = c.encode-answer.ensures in
    rw (c.awaits.ensures ∙ sym (any_texts a.request a.first.now a.second.now))
    (open_written _ _ (some_open _ ∙ sym c.is_some.ensures ∙ c.if-is_some.false) (clear_empty (tray_of bytes c.args.state.len) c.if-state-gt0.false) _ _ (ap encoded_says c.in-Ok.is) e.says e.holds)
