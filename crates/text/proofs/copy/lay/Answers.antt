use Rattle.std.proofs.Common.{◌+◌, ◌-◌, ◌*◌, arith}
use Rattle.text.proofs.Copying.{lay_none, lay_on, lay_end}
use Rattle.text.proofs.copy.lay.Goals as goal

pub returns-then-out-at : goal.returns-then-out-at
returns-then-out-at c = lay_none _ _ _ (omega arith)

pub returns-then-n-lt16 : goal.returns-then-n-lt16
returns-then-n-lt16 c = lay_end _ _ _ _ c.min-n.ensures c.lay_few.ensures

pub loop-k-preserved : goal.loop-k-preserved
loop-k-preserved c =
    let k = c.loop-k.k in
    lay_on _ _ _ (16 * k) (16 * k) 16 (16 * (k + 1)) (omega arith) (omega arith) (omega arith) (omega arith) (omega arith) c.loop-k.invariant c.lay_chunk.ensures

pub returns : goal.returns
returns c =
    let n = c.min-n.result in
    lay_end _ _ _ n c.min-n.ensures
    (lay_on _ _ _ (16 * c.loop-k.k) (n - 16) 16 n (omega arith) (omega arith) (omega arith) (omega arith) (omega arith) c.loop-k.invariant c.lay_chunk-2.ensures)
