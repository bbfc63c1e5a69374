use Rattle.at_command.proofs.Pieces.{all_quoted}
use Rattle.at_command.proofs.write.Command.quoted.Goals as goal

pub returns : goal.returns
returns c = rw (c.byte-2.ensures, c.escaped.ensures, c.byte.ensures) (all_quoted c.args.self.now c.args.piece.now)
