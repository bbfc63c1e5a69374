-- A refusal of its text, or the command, piece by piece.
use Rattle.std.proofs.lemmas.Result.{err_from_is_err_and}
use Rattle.at_command.specs.Request.{set_manual_operator}
use Rattle.at_command.proofs.Commands.{sends}
use Rattle.at_command.proofs.Pieces.{nothing, on}
use Rattle.at_command.proofs.Writing.{refuses}
use Rattle.at_command.proofs.cops.SetManualOperator.encode.Goals as goal

pub returns-in_err-check_number : goal.returns-in_err-check_number
returns-in_err-check_number c = let a = c.args in
    let p = err_from_is_err_and c.from_residual.result c.from_residual.ensures.1 in
    rw (p.1, p.2) (refuses (set_manual_operator a.plmn.now) _ _ c.in_err-check_number.ensures)

pub returns : goal.returns
returns c = let a = c.args in
    sends (set_manual_operator a.plmn.now) _ _ _ _ tt c.in_ok-check_number.ensures
    (on _ (on _ (on _ (on _ (nothing c.new-command.ensures) c.text.ensures) c.text-2.ensures) c.byte.ensures) c.byte-2.ensures)
    c.write_to.ensures
