-- Each of the four answers has the bytes asked for, at the place asked for. Assumes nothing.
use Rattle.std.proofs.Common.{length, refl, rules}
use Rattle.text.specs.Part.{part_of}
use Rattle.text.proofs.Parts.{part_none, part_long, part_back, place_past, place_in}
use Rattle.text.proofs.part.part.Goals as goal

pub returns-then-n-a : goal.returns-then-n-a
returns-then-n-a c = record { bytes = part_none _ _ _ (length c.args.s.now) (search rules); place = place_past c.args.s _ (search rules) }

pub returns-then-n-e : goal.returns-then-n-e
returns-then-n-e c = record { bytes = part_long _ _ _ (search rules); place = place_in c.args.s _ (search rules) }

pub returns-then-e-a : goal.returns-then-e-a
returns-then-e-a c = record { bytes = part_back _ _ _ (search rules); place = place_in c.args.s _ (search rules) }

pub returns : goal.returns
unfolding part_of
returns c = record { bytes = refl; place = place_in c.args.s _ (search rules) }
