use Rattle.std.proofs.Common.{sym, ◌∙◌}
use Rattle.text.proofs.Copying.{least_is}
use Rattle.text.proofs.copy.least.Goals as goal

pub returns : goal.returns
returns c = c.min.ensures ∙ sym (least_is c.args.a c.args.b)
