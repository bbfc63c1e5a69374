-- The format is one digit, which is computed. Assumes nothing.
use Rattle.at_command.specs.Piece.{digits_up_to, decimal}
use Rattle.at_command.proofs.cmgf.SetSmsMessageFormat.encode.Goals as goal

pub returns-in-Pdu : goal.returns-in-Pdu
unfolding decimal digits_up_to
returns-in-Pdu c = rw c.in-Pdu.is c.plain.ensures

pub returns-in-Text : goal.returns-in-Text
unfolding decimal digits_up_to
returns-in-Text c = rw c.in-Text.is c.plain-in-Text.ensures
