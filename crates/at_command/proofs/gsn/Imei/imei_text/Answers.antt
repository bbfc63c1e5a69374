use Rattle.std.proofs.Common.{refl}
use Rattle.std.proofs.lemmas.Result.{err_from_is_err_and}
use Rattle.text.proofs.HandedLaws.{hands_out, hands_none}
use Rattle.at_command.specs.Handed.{imei_handed}
use Rattle.at_command.proofs.gsn.Imei.imei_text.Goals as goal

pub returns-in_err-number : goal.returns-in_err-number
unfolding imei_handed
returns-in_err-number c =
    let p = err_from_is_err_and c.from_residual.result c.from_residual.ensures.1 in
    rw (p.1, p.2) (hands_none _ c.args.line c.args.line _ _ c.in_err-number.ensures)

pub returns : goal.returns
unfolding imei_handed
returns c = hands_out _ c.args.line c.args.line _ _ c.cut.result c.in_ok-number.ensures refl c.cut.ensures
