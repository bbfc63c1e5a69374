use mathlib.Core.Path.{refl}
use Rattle.std.proofs.Common.{arith}
use Rattle.unsolicited.specs.Gnss.{ugnsinf_text}
use Rattle.unsolicited.specs.Registration.{creg_text, cgreg_text, cereg_text}
use Rattle.unsolicited.specs.Urc.{gnss, registration, urc_readings, urc_reading_at}
use Rattle.unsolicited.proofs.ByPlace.{among, said_at, past_last}
use Rattle.unsolicited.proofs.straight.checked_at.Goals as goal
use Rattle.unsolicited.specs.declared.Urc.TheVariants.{GnssReport, NetworkRegistration}

pub returns-in-0 : goal.returns-in-0
unfolding urc_reading_at urc_readings
returns-in-0 c = said_at gnss ugnsinf_text 0 (λ l. refl) _ _ c.in-0.is _ _ c.from_checked.ensures (among gnss _ GnssReport (λ v. refl) _ _ c.map.ensures.cases)

pub returns-in-1 : goal.returns-in-1
unfolding urc_reading_at urc_readings
returns-in-1 c = said_at registration creg_text 1 (λ l. refl) _ _ c.in-1.is _ _ c.from_checked-in-1.ensures (among registration _ NetworkRegistration (λ v. refl) _ _ c.map-in-1.ensures.cases)

pub returns-in-2 : goal.returns-in-2
unfolding urc_reading_at urc_readings
returns-in-2 c = said_at registration cgreg_text 2 (λ l. refl) _ _ c.in-2.is _ _ c.from_checked-in-2.ensures (among registration _ NetworkRegistration (λ v. refl) _ _ c.map-in-2.ensures.cases)

pub returns-in-3 : goal.returns-in-3
unfolding urc_reading_at urc_readings
returns-in-3 c = said_at registration cereg_text 3 (λ l. refl) _ _ c.in-3.is _ _ c.from_checked-in-3.ensures (among registration _ NetworkRegistration (λ v. refl) _ _ c.map-in-3.ensures.cases)

pub returns-in_default : goal.returns-in_default
unfolding urc_reading_at urc_readings
returns-in_default c = past_last _ _ (omega arith)
