use Rattle.std.proofs.Common.{refl}
use Rattle.at_command.proofs.Trial.{trial_ends}
use Rattle.at_command.proofs.ResponseCode.from_checked.Goals as goal

pub returns-in-Ok : goal.returns-in-Ok
returns-in-Ok c = trial_ends _ _ _ c.in-Ok.ensures refl
