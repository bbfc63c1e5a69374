use Rattle.at_command.proofs.KindPlaces.{kind_there}
use Rattle.at_command.proofs.request.ResponseKind.at.Goals as goal

pub returns : goal.returns
returns c = search kind_there
