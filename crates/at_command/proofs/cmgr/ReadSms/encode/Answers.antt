-- The command, piece by piece.
use Rattle.std.proofs.Common.{refl, arith}
use Rattle.at_command.specs.Request.{read_sms}
use Rattle.at_command.proofs.Commands.{sends}
use Rattle.at_command.proofs.Pieces.{nothing, on}
use Rattle.at_command.proofs.cmgr.ReadSms.encode.Goals as goal

pub returns : goal.returns
returns c = let a = c.args in
    sends (read_sms a.self.index) _ _ _ _ (omega arith) refl
    (on _ (on _ (on _ (nothing c.new-command.ensures) c.text.ensures) c.decimal.ensures) c.byte.ensures)
    c.write_to.ensures
