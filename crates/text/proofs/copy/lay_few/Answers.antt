use Rattle.std.proofs.Common.{ℕ, ◌+◌, List, set, get_or, ap, ◌∙◌, arith}
use Rattle.text.proofs.Copying.{lay_both, lay_more}
use Rattle.text.proofs.copy.lay_few.Goals as goal

pub returns-then-n-ge8 : goal.returns-then-n-ge8
returns-then-n-ge8 c =
    lay_both c.args.out.now c.args.piece.now c.args.at 8 c.args.n (omega arith) (omega arith) (omega arith) (omega arith) c.lay_chunk.ensures c.lay_chunk-then-n-ge8.ensures

pub returns-then-n-ge4 : goal.returns-then-n-ge4
returns-then-n-ge4 c =
    lay_both c.args.out.now c.args.piece.now c.args.at 4 c.args.n (omega arith) (omega arith) (omega arith) (omega arith) c.lay_chunk-then-n-ge4.ensures c.lay_chunk-then-n-ge4-2.ensures

pub loop-i-preserved : goal.loop-i-preserved
loop-i-preserved c =
    ap (λ (l : List ℕ). set l (c.args.at + c.loop-i.i) (get_or c.args.piece.now c.loop-i.i 0)) c.loop-i.invariant
    ∙ lay_more c.args.out.now c.args.piece.now c.args.at c.loop-i.i (omega arith) (omega arith)
