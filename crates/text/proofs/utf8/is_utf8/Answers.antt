use Rattle.std.proofs.Common.{sym, ◌∙◌, eqb-true}
use Rattle.text.proofs.Utf8Laws.{utf8_none}
use Rattle.text.proofs.utf8.is_utf8.Goals as goal

pub returns-then-is_empty : goal.returns-then-is_empty
returns-then-is_empty c =
    let e = eqb-true _ 0 (sym c.is_empty.ensures ∙ c.if-is_empty.true) in
    c.if-is_empty.true ∙ sym (c.behind_ascii-rest.ensures ∙ utf8_none _ e)
