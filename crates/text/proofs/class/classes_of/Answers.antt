-- The table is `tabled`'s: its rule is computed once, over all 256 entries, and carried to both lookups.
use Rattle.std.proofs.Common.{refl, rules}
use Rattle.text.specs.Class.{class_number}
use Rattle.text.proofs.Classes.{two_classed}
use Rattle.text.proofs.class.classes_of.Goals as goal

pub returns : goal.returns
unfolding class_number
returns c = two_classed _ refl c.args.first c.args.last (search rules) (search rules)
