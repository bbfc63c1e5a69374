use Rattle.std.proofs.Common.{take, arith}
use Rattle.std.proofs.lemmas.List.{length-take}
use Rattle.at_command.proofs.Pieces.{escaped_one, escaped_two, none_escaped}
use Rattle.at_command.proofs.write.push_text.Goals as goal
use Rattle.at_command.proofs.write.push_text.Goals.{then-is_marked, else-is_marked}

pub loop-x-init : goal.loop-x-init
loop-x-init c = (c.requires, none_escaped (take c.args.len c.args.bytes.now) (omega (arith, length-take c.args.len c.args.bytes.now)))

pub loop-x-preserved : goal.loop-x-preserved
loop-x-preserved c =
    let s = take c.args.len c.args.bytes.now in
    let k = c.push-end-in-loop-x.ensures in
    elim c.if-is_marked.branch [
      | then-is_marked w ↦ (
        k.most,
        rw (k.kept, w.end-is, w.bytes-is, w.push-end.ensures.kept, c.loop-x.invariant.1)
            (escaped_two s c.args.piece.now c.loop-x.x-index c.loop-x-test.true _ c.is_marked.ensures w.if-is_marked.true),
      )
      | else-is_marked w ↦ (
        k.most,
        rw (k.kept, w.end-is, w.bytes-is, c.loop-x.invariant.1)
            (escaped_one s c.args.piece.now c.loop-x.x-index c.loop-x-test.true _ c.is_marked.ensures w.if-is_marked.false),
      )
    ]
