use Rattle.at_command.proofs.Trial.{trial_takes, trial_goes_on}
use Rattle.at_command.proofs.tried.Goals as goal

pub returns-in-Ok : goal.returns-in-Ok
returns-in-Ok c = trial_takes _ _ _ c.requires.1 c.requires.0 _ c.in-Ok.ensures

pub returns-in-Err : goal.returns-in-Err
returns-in-Err c = trial_goes_on _ _ _ c.requires.1 c.requires.0 _ _ c.in-Err.ensures c.worse.ensures
