use Rattle.std.proofs.Common.{◌≡◌, eqb, not, position, ◌∙◌, rules, tests}
use Rattle.std.proofs.lemmas.Iterator.{YieldsList-from_slice}
use Rattle.std.proofs.lemmas.Iterator.Search.{position_from_yields_List}
use Rattle.text.proofs.Trims.{start_is}
use Rattle.text.proofs.part.trim_start.Goals as goal

pub returns : goal.returns
returns c =
    let a = c.args in
    let e : c.position.result ≡ position (λ x. not (eqb x a.b)) a.s.now = position_from_yields_List (λ x. not (eqb x a.b)) _ _ _ c.position.ensures.ran (YieldsList-from_slice a.s.now cc) (λ x b q k. search (rules, tests)) in
    rw e at c.unwrap_or.ensures ∙ start_is a.b a.s.now
