-- The two in order of trial.
use mathlib.Core.Path.{refl, ◌∙◌}
use Rattle.unsolicited.specs.Urc.{gnss, registration}
use Rattle.text.proofs.Readings.{mapped_read, mapped_refused, first_is, first_else, first_none}
use Rattle.unsolicited.proofs.Prefixes.{urc_nested}
use Rattle.unsolicited.proofs.Urc.from_checked.Goals as goal

pub returns-in-Ok : goal.returns-in-Ok
returns-in-Ok c = first_is 3 _ _ _ (mapped_read gnss _ _ c.in-Ok.ensures) ∙ urc_nested _

pub returns-in-Ok-from_checked : goal.returns-in-Ok-from_checked
returns-in-Ok-from_checked c =
    first_else 3 _ _ _ _ _ (mapped_refused gnss _ _ c.in-Err.ensures) refl
    (first_is _ _ _ _ (mapped_read registration _ _ c.in-Ok-from_checked.ensures))
    ∙ urc_nested _

pub returns-in-Err-from_checked : goal.returns-in-Err-from_checked
returns-in-Err-from_checked c =
    first_else 3 _ _ _ _ _ (mapped_refused gnss _ _ c.in-Err.ensures) refl
    (first_else _ _ _ _ _ _ (mapped_refused registration _ _ c.in-Err-from_checked.ensures) c.worse.ensures (first_none _))
    ∙ urc_nested _
