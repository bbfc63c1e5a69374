-- The command is there whole. Assumes nothing.
use mathlib.Core.Path.{refl}
use Rattle.at_command.proofs.Writing.{no_room, laid}
use Rattle.at_command.proofs.write.plain.Goals as goal

pub returns-then-out-command : goal.returns-then-out-command
returns-then-out-command c = no_room c.args.command.now _ _ refl c.if-out-command.true

pub returns : goal.returns
returns c = laid _ _ _ _ c.if-out-command.false c.lay.ensures
