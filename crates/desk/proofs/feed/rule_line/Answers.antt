-- `rule_line` meets its contract: no echo is awaited, the line is the echo, or it comes before it.
use mathlib.Core.Path.{refl, sym, ◌∙◌}
use Rattle.desk.specs.Says.{kept_says}
use Rattle.desk.proofs.Keeping.{says_plain, line_plain, line_echo, line_early}
use Rattle.desk.proofs.feed.rule_line.Goals as goal

pub returns-then-state-eq0 : goal.returns-then-state-eq0
returns-then-state-eq0 c = let a = c.args in
    (line_plain (kept_says a.sent.now a.state) _ c.size_of.ensures c.next.ensures _ c.if-state-eq0.true (says_plain _) c.sort_of.ensures c.judge-command.ensures, refl)

pub returns-then-is_echo : goal.returns-then-is_echo
returns-then-is_echo c = let a = c.args in
    (line_echo (kept_says a.sent.now a.state) _ c.size_of.ensures c.next.ensures _ c.if-state-eq0.false (sym c.is_echo.ensures ∙ c.if-is_echo.true), refl)

pub returns : goal.returns
returns c = let a = c.args in
    (line_early (kept_says a.sent.now a.state) _ c.size_of.ensures c.next.ensures _ c.if-state-eq0.false (sym c.is_echo.ensures ∙ c.if-is_echo.false) c.sort_of-2.ensures c.judge-judged.ensures, refl)
