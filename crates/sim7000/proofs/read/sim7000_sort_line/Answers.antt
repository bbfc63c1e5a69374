-- `sim7000_sort_line` meets its contract: the reader that takes the line, and its number.
use mathlib.Core.Path.{sym}
use Rattle.sim7000.proofs.Takers.{taker_number_lem}
use Rattle.sim7000.proofs.read.sim7000_sort_line.Goals as goal

pub returns-in-Ok-Response : goal.returns-in-Ok-Response
returns-in-Ok-Response c = rw (c.place.ensures, sym (taker_number_lem _ _ c.taker.ensures), c.in-Ok-Response.is, c.in-Ok-Response.field-0-is)

pub returns-in-Ok-GnssReport : goal.returns-in-Ok-GnssReport
returns-in-Ok-GnssReport c = rw (sym (taker_number_lem _ _ c.taker.ensures), c.in-Ok-GnssReport.is, c.in-Ok-GnssReport.field-0-is)

pub returns-in-Ok-NetworkRegistration : goal.returns-in-Ok-NetworkRegistration
returns-in-Ok-NetworkRegistration c = rw (sym (taker_number_lem _ _ c.taker.ensures), c.in-Ok-NetworkRegistration.is, c.in-Ok-NetworkRegistration.field-0-is)

pub returns-in-Err : goal.returns-in-Err
returns-in-Err c = rw (c.number.ensures, sym (taker_number_lem _ _ c.taker.ensures), c.in-Err.is)
