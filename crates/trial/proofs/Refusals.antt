-- What a response reader refuses, it refuses with 3 or 4 (document 01, "Refusal numbers"), and so does their trial.
use Prim.Native.Nat.{ℕ}
use mathlib.Core.List.{List}
use Rattle.text.specs.Reading.{Reading}
use Rattle.text.proofs.Yields.{Yields, AllYield, then, yields_only, yields_sized, yields_fitting, yields_either, yields_need, yields_mapped, yields_first}
use Rattle.at_command.specs.Ccid.{card_text, iccid_text}
use Rattle.at_command.specs.Cmgf.{cmgf_text}
use Rattle.at_command.specs.Cmgr.{cmgr_fields, cmgr_text}
use Rattle.at_command.specs.Cntp.{cntp_rest, cntp_text}
use Rattle.at_command.specs.Cops.{cops_fields, cops_text}
use Rattle.at_command.specs.Cpsi.{cpsi_fields, cpsi_text}
use Rattle.at_command.specs.Csq.{csq_codes, csq_rest, csq_text}
use Rattle.at_command.specs.Generic.{ok_text, error_text, prompt_text, close_text}
use Rattle.at_command.specs.Gsn.{imei_text}
use Rattle.at_command.specs.Httptofs.{httptofs_text}
use Rattle.at_command.specs.Response.{Response, readings, response_text}

pub data Known : ℕ → Type 0 where
  three : Known 3
  four : Known 4

abbrev pub Refuses : {A : Type 0} → Reading A → Type 0
Refuses {A} = Yields (λ (a : A). Unit {0}) Known

any : Unit {0}
any = tt

ruleset parts = (any, three, four, yields_only, yields_sized, yields_fitting, yields_either, yields_need, yields_mapped)

module _ (l : List ℕ) where
  pub all_known : AllYield (λ (r : Response). Unit {0}) Known (readings l)
  unfolding readings ok_text error_text prompt_text close_text iccid_text card_text csq_text csq_rest csq_codes cpsi_text cpsi_fields cops_text cops_fields cntp_text cntp_rest httptofs_text imei_text cmgf_text cmgr_text cmgr_fields
  all_known =
      then (search parts depth 9)
      (then (search parts depth 9)
      (then (search parts depth 9)
      (then (search parts depth 9)
      (then (search parts depth 9)
      (then (search parts depth 9)
      (then (search parts depth 9)
      (then (search parts depth 9)
      (then (search parts depth 9)
      (then (search parts depth 9)
      (then (search parts depth 9)
      (then (search parts depth 9)
      (then (search parts depth 9)
      tt))))))))))))

  pub responses_refuse : Refuses (response_text l)
  unfolding response_text
  responses_refuse = yields_first (λ (r : Response). Unit {0}) Known 3 (readings l) three all_known
