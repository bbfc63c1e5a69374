use Rattle.std.proofs.Common.{rules}
use Rattle.text.proofs.Finding.{starts_long, starts_other, starts_same, starts_end}
use Rattle.text.proofs.bytes.starts_with.Goals as goal

pub returns-then-s-p : goal.returns-then-s-p
returns-then-s-p c = search (rules, starts_long)

pub returns-then-s-i : goal.returns-then-s-i
returns-then-s-i c = search (rules, starts_other)

pub loop-i-preserved : goal.loop-i-preserved
loop-i-preserved c = search (rules, starts_same)

pub returns : goal.returns
returns c = search (rules, starts_end)
