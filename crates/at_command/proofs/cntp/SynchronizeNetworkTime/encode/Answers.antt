-- A refusal of its text, or the command, piece by piece.
use Rattle.std.proofs.Common.{arith}
use Rattle.std.proofs.lemmas.Result.{err_from_is_err_and}
use Rattle.at_command.specs.Request.{synchronize_network_time}
use Rattle.at_command.proofs.Commands.{sends}
use Rattle.at_command.proofs.Pieces.{nothing, on}
use Rattle.at_command.proofs.Writing.{refuses}
use Rattle.at_command.proofs.cntp.SynchronizeNetworkTime.encode.Goals as goal

pub returns-in_err-check_texts : goal.returns-in_err-check_texts
returns-in_err-check_texts c = let a = c.args in
    let p = err_from_is_err_and c.from_residual.result c.from_residual.ensures.1 in
    rw (p.1, p.2) (refuses (synchronize_network_time a.ntp_server.now a.self.timezone a.self.cid) _ _ c.in_err-check_texts.ensures)

pub returns : goal.returns
returns c = let a = c.args in
    sends (synchronize_network_time a.ntp_server.now a.self.timezone a.self.cid) _ _ _ _ (omega arith, omega arith) c.in_ok-check_texts.ensures
    (on _ (on _ (on _ (on _ (on _ (on _ (on _ (nothing c.new-command.ensures) c.text.ensures) c.quoted.ensures) c.byte.ensures) c.decimal.ensures) c.byte-2.ensures) c.decimal-2.ensures) c.byte-3.ensures)
    c.write_to.ensures
