-- `write` meets its contract: the request, and what its writer promises.
use mathlib.Core.Path.{refl, sym, ◌∙◌}
use Rattle.std.proofs.lemmas.Result.{err_from_is_err_and}
use Rattle.text.proofs.Readings.{ok_or_some}
use Rattle.at_command.specs.says.Request.{asked}
use Rattle.sim7000.proofs.Asking.{writes_refused, writes_size}
use Rattle.sim7000.proofs.request.write.Goals as goal

pub returns-in_err-size : goal.returns-in_err-size
returns-in_err-size c = let a = c.args in
    let is = ok_or_some (λ q. asked q a.first.now a.second.now) _ a.request _ _ refl (sym c.in_ok-request.was ∙ c.ok_or.ensures.value) in
    let p = err_from_is_err_and c.from_residual-in_err-size.result c.from_residual-in_err-size.ensures.1 in
    rw (p.1, p.2) (writes_refused _ _ _ is c.encode.ensures.holds (rw c.in_err-size.was at c.encode.ensures.says))

pub returns : goal.returns
returns c = let a = c.args in
    let is = ok_or_some (λ q. asked q a.first.now a.second.now) _ a.request _ _ refl (sym c.in_ok-request.was ∙ c.ok_or.ensures.value) in
    writes_size _ _ _ is c.encode.ensures.holds (rw c.in_ok-size.was at c.encode.ensures.says)
