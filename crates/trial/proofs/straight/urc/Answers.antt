use mathlib.Core.Path.{◌∙◌}
use Rattle.trial.proofs.OneReader.{urc_at, urc_not}
use Rattle.trial.proofs.straight.urc.Goals as goal

pub returns-then-row-lt-RESPONSES : goal.returns-then-row-lt-RESPONSES
returns-then-row-lt-RESPONSES c = c.read_at.ensures ∙ urc_not _ _ c.row_of-row.ensures c.if-row-lt-RESPONSES.true

pub returns : goal.returns
returns c = c.read_at-2.ensures ∙ urc_at _ _ c.row_of-row.ensures c.if-row-lt-RESPONSES.false
