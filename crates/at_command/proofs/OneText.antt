-- No second answer meets the contract of a call that hands out a text: neither other bytes, nor another place, nor another number.
use mathlib.Core.List.{List}
use Prim.Native.Nat.{ℕ}
use denote.Ref.{Bor}
use Rattle.text.specs.Handed.{Handed}
use Rattle.text.specs.Same.{SameText}
use Rattle.text.specs.says.Handed.{TextKeeps}
use Rattle.std.specs.Prelude.{Result}
use Rattle.text.specs.declared.refusal.Refusal.{Refusal}
use Rattle.text.proofs.One.{one_text}

-- one answer: gsn::Imei::imei_text, cntp::NetworkTime::time_text, cmgr::SmsMessage::sender_text, cops::OperatorInfo::name_text
pub one_text_handed : (line fallback : Bor (List ℕ)) (text : Handed) (a b : Result (Bor (List ℕ)) Refusal) → TextKeeps line fallback text a → TextKeeps line fallback text b → SameText a b
one_text_handed = one_text
