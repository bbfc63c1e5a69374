-- Twelve tests, then one of all.
use Rattle.unsolicited.proofs.Reports.{refusal_is}
use Rattle.unsolicited.proofs.ugnsinf.Fields.is_readable.Goals as goal

pub returns : goal.returns
returns c d =
    refusal_is _ _ _ _ _ _ _ _ _ _ _ _ _ c.is_float.ensures c.is_float-2.ensures c.is_float-3.ensures c.is_float_or_empty.ensures c.is_float_or_empty-2.ensures c.is_float_or_empty-3.ensures c.is_float_or_empty-4.ensures c.is_float_or_empty-5.ensures c.is_count_or_empty.ensures c.is_count_or_empty-2.ensures c.is_count_or_empty-3.ensures c.is_count_or_empty-4.ensures d
