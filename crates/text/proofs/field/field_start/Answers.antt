use Rattle.std.proofs.Common.{rules}
use Rattle.text.proofs.Fields.{place_begin, place_past, place_more, place_done}
use Rattle.text.proofs.field.field_start.Goals as goal

pub loop-k-init : goal.loop-k-init
loop-k-init c = search (rules, place_begin)

pub returns-then-s-e : goal.returns-then-s-e
returns-then-s-e c = search (rules, place_past)

pub loop-k-preserved : goal.loop-k-preserved
loop-k-preserved c = search (rules, place_more)

pub returns : goal.returns
returns c = search (rules, place_done)
