-- Each return: the row by the bytes that are known there.
use mathlib.Core.Path.{refl}
use borrow.Author.Tests.{ne_eqb}
use Rattle.trial.proofs.Rows.{at_letter}
use Rattle.trial.proofs.row.message_row.Goals as goal

pub returns-then-d-ne71 : goal.returns-then-d-ne71
returns-then-d-ne71 c l f = at_letter 43 67 77 _ _ l f 1 refl (rw (ne_eqb _ 71 c.if-d-ne71.true))

pub returns-then-e-eq70 : goal.returns-then-e-eq70
returns-then-e-eq70 c l f = at_letter 43 67 77 _ _ l f 11 refl (rw (c.if-d-ne71.false, c.if-e-eq70.true))

pub returns : goal.returns
returns c l f = at_letter 43 67 77 _ _ l f 12 refl (rw (c.if-d-ne71.false, ne_eqb _ 70 c.if-e-eq70.false))
