use Rattle.std.proofs.Common.{◌≡◌, ◌+◌, ◌-◌, eqb, length, take, drop, position, ap, ◌∙◌, rules, tests}
use Rattle.std.proofs.lemmas.Iterator.{YieldsList-from_slice}
use Rattle.std.proofs.lemmas.Iterator.Search.{position_from_yields_List}
use Rattle.text.proofs.Finding.{found_in}
use Rattle.text.proofs.bytes.find.Goals as goal

pub returns : goal.returns
returns c =
    let a = c.args in
    let rest = take (length a.s.now - a.from) (drop a.from a.s.now) in
    let e : c.position.result ≡ position (λ x. eqb x a.b) rest = position_from_yields_List (λ x. eqb x a.b) _ _ _ c.position.ensures.ran (YieldsList-from_slice rest cc) (λ x b q k. search (rules, tests)) in
    ap (λ n. a.from + n) (c.unwrap_or.ensures ∙ found_in a.b a.s.now a.from c.position.result e)
