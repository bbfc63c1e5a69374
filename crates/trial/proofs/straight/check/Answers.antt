use mathlib.Core.Path.{◌∙◌}
use Rattle.trial.proofs.OneReader.{refusal_response, refusal_urc}
use Rattle.trial.proofs.straight.check.Goals as goal

pub returns-then-row-lt-RESPONSES : goal.returns-then-row-lt-RESPONSES
returns-then-row-lt-RESPONSES c = c.refusal_at.ensures ∙ refusal_response _ _ c.requires c.if-row-lt-RESPONSES.true

pub returns : goal.returns
returns c = c.refusal_at-2.ensures ∙ refusal_urc _ _ c.requires c.if-row-lt-RESPONSES.false
