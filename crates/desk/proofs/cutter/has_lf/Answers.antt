use borrow.Author.Tests.{eqb-true, not-false}
use mathlib.Core.Path.{refl}
use Rattle.desk.proofs.Searching.{no_lf}
use Rattle.desk.proofs.cutter.has_lf.Goals as goal

pub returns : goal.returns
returns c = λ e k h z. no_lf c.args.eight c.requires _ refl (eqb-true _ 0 (not-false _ e)) k h z
