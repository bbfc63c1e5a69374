use Rattle.std.proofs.Common.{◌≡◌, ◌*◌, leb, length, position, arith, rules, tests}
use Rattle.std.proofs.lemmas.Iterator.{YieldsList-from_slice}
use Rattle.std.proofs.lemmas.Iterator.Search.{position_from_yields_List}
use Rattle.text.proofs.Utf8Laws.{left_at, ascii_few, eight_more, last_eight}
use Rattle.text.proofs.utf8.behind_ascii.Goals as goal

pub returns-in_default : goal.returns-in_default
returns-in_default c =
    let s = c.args.s.now in
    let e : c.position.result ≡ position (leb 0x80) s = position_from_yields_List (leb 0x80) _ _ _ c.position.ensures.ran (YieldsList-from_slice s cc) (λ x b q k. search (rules, tests)) in
    ascii_few s c.unwrap_or-few.result c.position.result c.unwrap_or-few.ensures e

pub returns-then-not-are_ascii : goal.returns-then-not-are_ascii
returns-then-not-are_ascii c = left_at c.args.s.now (8 * c.loop-i.i) c.loop-i.invariant

pub loop-i-preserved : goal.loop-i-preserved
loop-i-preserved c =
    let e = c.as_chunks.ensures in
    eight_more c.args.s.now c.loop-i.i c.loop-i.invariant c.as_chunks.result.0.now e.front e.front_len c.loop-i-test.true (c.are_ascii.ensures c.if-not-are_ascii.false)

pub returns-then-are_ascii : goal.returns-then-are_ascii
returns-then-are_ascii c =
    let l = c.in-Some.ensures.cases in
    last_eight c.args.s.now c.loop-i.i c.loop-i.invariant _ l.0 (omega (arith, c.as_chunks.ensures.front_len)) (omega (arith, c.as_chunks.ensures.front_len)) l.1.same
    (c.are_ascii-2.ensures c.if-are_ascii.true)

pub returns : goal.returns
returns c =
    let z : c.loop-i.i ≡ length c.as_chunks.result.0.now = omega arith in
    left_at c.args.s.now (8 * length c.as_chunks.result.0.now) (rw z at c.loop-i.invariant)
