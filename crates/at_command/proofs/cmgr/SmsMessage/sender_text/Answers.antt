use Rattle.std.proofs.Common.{refl}
use Rattle.std.proofs.lemmas.Result.{err_from_is_err_and}
use Rattle.text.proofs.HandedLaws.{hands_out, hands_none}
use Rattle.at_command.specs.Handed.{sender_handed}
use Rattle.at_command.proofs.cmgr.SmsMessage.sender_text.Goals as goal

pub returns-in_err-message : goal.returns-in_err-message
unfolding sender_handed
returns-in_err-message c =
    let p = err_from_is_err_and c.from_residual.result c.from_residual.ensures.1 in
    rw (p.1, p.2) (hands_none _ c.args.line c.args.line _ _ c.in_err-message.ensures)

pub returns : goal.returns
unfolding sender_handed
returns c = hands_out _ c.args.line c.args.line _ _ c.cut.result c.in_ok-message.ensures refl c.cut.ensures
