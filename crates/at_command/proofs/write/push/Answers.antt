use Rattle.at_command.proofs.Pieces.{byte_kept, byte_dropped}
use Rattle.at_command.proofs.write.push.Goals as goal

pub returns-then-len-lt-MOST-clause-kept : goal.returns-then-len-lt-MOST-clause-kept
returns-then-len-lt-MOST-clause-kept c = byte_kept 210 _ _ _ c.told-bytes c.if-len-lt-MOST.true

pub returns-clause-kept : goal.returns-clause-kept
returns-clause-kept c = byte_dropped 210 _ _ _ c.told-bytes c.requires c.if-len-lt-MOST.false
