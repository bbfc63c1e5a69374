use Rattle.std.proofs.lemmas.Result.{err_from_is_err_and}
use Rattle.text.proofs.HandedLaws.{hands_out, hands_none}
use Rattle.at_command.specs.Handed.{name_handed}
use Rattle.at_command.proofs.cops.Laws.{name_cut, name_good}
use Rattle.at_command.proofs.cops.OperatorInfo.name_text.Goals as goal

pub returns-in_err-info : goal.returns-in_err-info
unfolding name_handed
returns-in_err-info c =
    let p = err_from_is_err_and c.from_residual.result c.from_residual.ensures.1 in
    rw (p.1, p.2) (hands_none _ c.args.line c.args.name_fallback _ _ c.in_err-info.ensures)

pub returns : goal.returns
unfolding name_handed
returns c =
    hands_out _ c.args.line c.args.name_fallback _ _ c.cut.result c.in_ok-info.ensures (name_good _) (rw name_cut at c.cut.ensures)
