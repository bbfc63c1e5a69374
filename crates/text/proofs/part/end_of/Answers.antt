use Rattle.std.proofs.Common.{◌≡◌, ◌+◌, ◌-◌, ◌∙◌, arith, rules}
use Rattle.text.proofs.Trims.{end_begin, end_stop, end_first, end_second, end_none}
use Rattle.text.proofs.part.end_of.Goals as goal
use Rattle.text.proofs.part.end_of.Goals.{else-s-i-via-then-s-i+else-s-i-2, else-s-i-via-else-s-i}

pub loop-i-init : goal.loop-i-init
loop-i-init c = search (rules, end_begin)

pub returns-then-s-i-2 : goal.returns-then-s-i-2
returns-then-s-i-2 c =
    let z : c.loop-i.i - 1 + 1 ≡ c.loop-i.i = omega arith in
    z ∙ end_stop c.args.s.now c.args.a c.args.b c.loop-i.i c.loop-i.auto.i c.loop-i.invariant c.loop-i-test.true c.if-s-i.true c.if-s-i-2.true

pub loop-i-preserved : goal.loop-i-preserved
loop-i-preserved c = elim c.else-s-i.branch [
  | else-s-i-via-then-s-i+else-s-i-2 w ↦ search (rules, end_second)
  | else-s-i-via-else-s-i w ↦ search (rules, end_first)
]

pub returns : goal.returns
returns c = search (rules, end_none)
