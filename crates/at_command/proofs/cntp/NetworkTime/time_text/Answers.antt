use Rattle.std.proofs.lemmas.Result.{err_from_is_err_and}
use Rattle.text.proofs.HandedLaws.{hands_out, hands_none}
use Rattle.at_command.specs.Handed.{time_handed}
use Rattle.at_command.proofs.cntp.Laws.{time_part, time_good}
use Rattle.at_command.proofs.cntp.NetworkTime.time_text.Goals as goal

pub returns-in_err-from_line : goal.returns-in_err-from_line
unfolding time_handed
returns-in_err-from_line c =
    let p = err_from_is_err_and c.from_residual.result c.from_residual.ensures.1 in
    rw (p.1, p.2) (hands_none _ c.args.line c.args.line _ _ c.in_err-from_line.ensures)

pub returns : goal.returns
unfolding time_handed
returns c =
    hands_out _ c.args.line c.args.line _ _ c.cut.result c.in_ok-from_line.ensures (time_good _) (time_part c.args.line c.cut.result _ _ c.unwrap_or-time.ensures c.cut.ensures)
