use Rattle.std.proofs.Common.{take_all, sym, ◌∙◌, ap, arith, count_by, eqb}
use Rattle.text.proofs.Finding.{count_is}
use Rattle.text.proofs.bytes.count_few.Goals as goal

pub returns : goal.returns
returns c =
    let a = c.args in
    let z = take_all c.loop-x.x-index a.s.now (omega arith) in
    c.loop-x.invariant ∙ ap (count_by (λ x. eqb x a.b)) z ∙ sym (count_is a.b a.s.now)
