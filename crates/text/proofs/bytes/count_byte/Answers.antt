use Rattle.std.proofs.Common.{arith, ◌∙◌}
use Rattle.std.specs.Slice.Iter.{chunks_rest}
use Rattle.text.proofs.Finding.{count_turn, count_none}
use Rattle.text.proofs.Parts.{count_le}
use Rattle.text.proofs.bytes.count_byte.Goals as goal

pub overflow_add-n : goal.overflow_add-n
overflow_add-n c =
    let z = count_turn c.args.b c.loop-few.n c.from-n.result c.args.s.now _ _ _ c.loop-few.invariant.count c.in-Some.ensures.steps.1.0 (c.from-n.ensures ∙ c.count_few-in-loop-few.ensures) in
    record { fits = omega (arith, z, count_le c.args.b c.args.s.now) }

pub loop-few-preserved : goal.loop-few-preserved
loop-few-preserved c = record {
  size = c.in-Some.ensures.steps.0 ∙ c.loop-few.invariant.size;
  count = count_turn c.args.b c.loop-few.n c.from-n.result c.args.s.now _ _ _ c.loop-few.invariant.count c.in-Some.ensures.steps.1.0 (c.from-n.ensures ∙ c.count_few-in-loop-few.ensures);
}

pub returns : goal.returns
returns c = count_none c.args.b c.loop-few.n c.args.s.now (chunks_rest c.loop-few.few-iterator) c.loop-few.invariant.count c.in-None.ensures.steps.1.0
