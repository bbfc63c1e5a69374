use Rattle.std.proofs.Common.{◌≡◌, ◌+◌, take, set, get_or, length, length-set, sym, ap, ◌∙◌, arith}
use Rattle.std.proofs.lemmas.List.{length-take}
use Rattle.at_command.proofs.Pieces.{byte_kept, escaped_one, escaped_two, none_escaped}
use Rattle.at_command.proofs.write.lay_text.Goals as goal
use Rattle.at_command.proofs.write.lay_text.Goals.{then-is_marked, else-is_marked}

pub loop-x-init : goal.loop-x-init
loop-x-init c = (omega arith, none_escaped (take c.args.len c.args.bytes.now) (omega (arith, length-take c.args.len c.args.bytes.now)))

pub loop-x-preserved : goal.loop-x-preserved
loop-x-preserved c =
    let s = take c.args.len c.args.bytes.now in
    let b = c.loop-x.bytes in
    let n = c.loop-x.end in
    let x = get_or c.args.piece.now c.loop-x.x-index 0 in
    let so_far = c.loop-x.invariant in
    let long = c.if-is_marked.array_long in
    elim c.if-is_marked.branch [
      | then-is_marked w ↦
          let two : length (set b n 92) ≡ 210 = ap length (sym w.bytes-is) ∙ long in
          let one : length b ≡ 210 = sym (length-set b n 92) ∙ two in (
            omega (arith, so_far.0, w.end-is),
            rw (w.end-is, w.bytes-is, byte_kept 210 (n + 1) x (set b n 92) two (omega (arith, so_far.0)), byte_kept 210 n 92 b one (omega (arith, so_far.0)), so_far.1)
                (escaped_two s c.args.piece.now c.loop-x.x-index c.loop-x-test.true _ c.is_marked.ensures w.if-is_marked.true),
          )
      | else-is_marked w ↦
          let one : length b ≡ 210 = ap length (sym w.bytes-is) ∙ long in (
            omega (arith, so_far.0, w.end-is),
            rw (w.end-is, w.bytes-is, byte_kept 210 n x b one (omega (arith, so_far.0)), so_far.1)
                (escaped_one s c.args.piece.now c.loop-x.x-index c.loop-x-test.true _ c.is_marked.ensures w.if-is_marked.false),
          )
    ]
