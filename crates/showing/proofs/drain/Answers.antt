use Rattle.std.proofs.Common.{◌<◌, length, length-drop, arith, rules}
use Rattle.showing.proofs.Draining.{turn_end, turned}
use Rattle.showing.proofs.drain.Goals as goal

pub loop-rest-smaller : goal.loop-rest-smaller
loop-rest-smaller g c =
    let h : 0 < length c.loop-rest.rest.now = search rules in
    let t = turned _ _ _ _ _ _ _ c.feed_lent-answer.ensures c.loop-rest.invariant.room _ c.in_ok-taken.ensures h c.loop-rest.invariant.left in
    rw (c.skip-rest.ensures.bytes, length-drop) (omega (arith, t.some, h))

pub loop-rest-preserved : goal.loop-rest-preserved
loop-rest-preserved g c =
    let h : 0 < length c.loop-rest.rest.now = search rules in
    let t = turned _ _ _ _ _ _ _ c.feed_lent-answer.ensures c.loop-rest.invariant.room _ c.in_ok-taken.ensures h c.loop-rest.invariant.left in
    record { room = omega arith; left = rw c.skip-rest.ensures.bytes t.on }

pub returns : goal.returns
returns g c = turn_end _ _ _ (search rules) c.loop-rest.invariant.left
