use Rattle.std.proofs.Common.{rules, tests, ◌∙◌, sym}
use Rattle.std.proofs.lemmas.Iterator.{YieldsList-from_slice}
use Rattle.std.proofs.lemmas.Iterator.Search.{all_from_yields_List}
use Rattle.text.specs.Digit.{is_digit}
use Rattle.text.proofs.Finding.{within_is}
use Rattle.text.proofs.bytes.all_digits.Goals as goal

pub returns : goal.returns
returns c = let a = c.args in
    all_from_yields_List is_digit _ _ _ c.all.ensures.ran (YieldsList-from_slice a.s.now cc) (λ x b q k. search (rules, tests)) ∙ sym (within_is 48 57 a.s.now)
