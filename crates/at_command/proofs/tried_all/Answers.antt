use Rattle.std.proofs.Common.{refl, arith}
use Rattle.at_command.specs.Response.{response_text}
use Rattle.at_command.proofs.tried_all.Goals as goal

pub tried-requires : goal.tried-requires
unfolding response_text
tried-requires c = (omega arith, refl)
