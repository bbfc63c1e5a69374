use mathlib.Core.Path.{◌∙◌}
use Rattle.trial.proofs.OneReader.{response_at}
use Rattle.trial.proofs.straight.response.Goals as goal

pub returns : goal.returns
returns c = c.read_at.ensures ∙ response_at _ _ c.row_of.ensures
