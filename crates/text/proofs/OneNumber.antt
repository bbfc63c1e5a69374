-- No second answer of an integer reader meets its contract.
use Rattle.std.proofs.Common.{◌≡◌}
use Rattle.std.specs.Prelude as Std
use mathlib.Core.Option.{Option}
use Rattle.text.specs.says.Refusal.{option_said, ParsedKeeps}
use Rattle.text.proofs.One.{one_answer, option, back_option}

-- one answer: number::parse_u8, number::parse_u16, number::parse_u32, number::parse_u64
-- one answer: number::parse_hex_u16, number::parse_hex_u32, number::parse_i32
pub one_parsed : {A : Type 0} (a b : Std.Option A) (o : Option A) → ParsedKeeps o a → ParsedKeeps o b → a ≡ b
one_parsed = one_answer option_said (option Std.Some Std.None (λ n. n)) back_option
