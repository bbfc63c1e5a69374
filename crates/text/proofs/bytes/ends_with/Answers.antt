use Rattle.std.proofs.Common.{sym, ◌∙◌}
use Rattle.text.proofs.Finding.{ends_short, ends_is}
use Rattle.text.proofs.bytes.ends_with.Goals as goal

pub returns-then-s-p : goal.returns-then-s-p
returns-then-s-p c = sym (ends_short _ _ c.if-s-p.true)

pub returns : goal.returns
returns c = c.starts_with.ensures ∙ ends_is _ _ c.if-s-p.false
