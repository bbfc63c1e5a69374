use Rattle.std.proofs.Common.{◌≡◌, ℕ, ◌-◌, ◌<◌, get_or, length, length-drop, take, drop, ap, sym, ◌∙◌, arith}
use Rattle.std.proofs.lemmas.List.{length-take}
use lib.Seq.{get_or-take, get_or-drop}
use Rattle.desk.proofs.Searching.{passed_eight, passed_one}
use Rattle.desk.proofs.cutter.lay_to_lf.Goals as goal

pub loop-k-preserved : goal.loop-k-preserved
loop-k-preserved c =
    let p = c.loop-k.invariant in
    (omega (arith, p.0), passed_eight p.1 c.requires c.loop-k.k p.0 c.loop-k-test.true (c.has_lf.ensures c.if-has_lf.false))

pub loop-b-preserved : goal.loop-b-preserved
loop-b-preserved c =
    let n = c.loop-k.n in
    let part = c.args.part.now in
    let most = length part - n in
    let p = c.loop-b.invariant in
    let long = length-take most (drop n part) in
    let more : c.loop-b.b-index < most = omega (arith, length-drop n part) in
    let byte : get_or (take most (drop n part)) c.loop-b.b-index 0 ≡ get_or part c.loop-b.n 0 =
    get_or-take most (drop n part) c.loop-b.b-index 0 more ∙ get_or-drop n part c.loop-b.b-index 0 ∙ ap (λ (k : ℕ). get_or part k 0) (sym p.0) in
    (omega (arith, p.0), rw byte (passed_one p.1 c.requires (omega (arith, p.0)) (λ z. c.if-b-eq10.false (byte ∙ z))))
