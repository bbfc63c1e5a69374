-- The pattern of the magnitude is read back as the rounded decimal, and its negation is rounded to
-- the negation.
use Rattle.std.proofs.Common.{◌^◌, ap, ◌∙◌}
use lib.Ieee.{binary32, neg}
use Rattle.numeral.proofs.Pattern.{read_back, no_nan, round_other}
use Rattle.numeral.proofs.Decimal.nearest.Goals as goal

pub float_from_bits-magnitude : goal.float_from_bits-magnitude
float_from_bits-magnitude c = no_nan _ _ _ c.magnitude-magnitude.ensures

pub returns-then-self : goal.returns-then-self
returns-then-self c =
    let d = c.args.self in
    rw c.if-self.true
    (ap neg (read_back _ _ _ c.magnitude-magnitude.ensures) ∙ round_other binary32 d.number (10 ^ d.places))

pub returns-else-self : goal.returns-else-self
returns-else-self c = rw c.if-self.false (read_back _ _ _ c.magnitude-magnitude.ensures)
