use mathlib.Core.Path.{refl}
use Rattle.std.proofs.Common.{inl, inr}
use Rattle.std.proofs.lemmas.Result.{err_from_is_err_and}
use Rattle.text.specs.Reading.{mapped}
use Rattle.trial.proofs.OneReader.{sort_taken}
use Rattle.trial.proofs.straight.sort_of.Goals as goal

pub returns-in_err-kind : goal.returns-in_err-kind
unfolding mapped
returns-in_err-kind c =
    let p = err_from_is_err_and c.from_residual.result c.from_residual.ensures.1 in
    rw (p.1, p.2) (sort_taken _ _ _ c.in_err-kind.ensures refl)

pub returns-in-Response : goal.returns-in-Response
unfolding mapped
returns-in-Response c = sort_taken _ _ _ c.in_ok-kind.ensures (rw c.in-Response.is)

pub returns-in-GnssReport : goal.returns-in-GnssReport
unfolding mapped
returns-in-GnssReport c =
    elim c.in-GnssReport.is [ inl e ↦ sort_taken _ _ _ c.in_ok-kind.ensures (rw e) | inr e ↦ sort_taken _ _ _ c.in_ok-kind.ensures (rw e) ]
