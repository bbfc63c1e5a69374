-- An open that is not refused leaves in the buffer what the writer writes there, and refuses with 8, with 9 or as the writer does; so what the writer's contract
-- promises of an operator, an open's does too.
use Prim.Native.Nat.{ℕ}
use mathlib.Core.Path.{◌≡◌, refl, sym, ap, subst, ◌∙◌}
use mathlib.Core.List.{List, []}
use native.Mathlib.Omega.{arith}
use lib.ListN.{length, replicate}
use Rattle.text.specs.Reading.{Reading, read, refused, mapped}
use Rattle.text.proofs.Yields.{Yields}
use Rattle.at_command.specs.ManualOperator.{OperatorAnswer}
use Rattle.at_command.specs.Request.{Asked, set_manual_operator, encode_reading, Writes}
use Rattle.at_command.proofs.ManualOperator.{NotSix, never_six, operators_written}
use Rattle.desk.specs.Judge.{Command}
use Rattle.desk.specs.Desk.{State, Opened, opened}
use Rattle.desk.specs.Demand.{accepts}
use Rattle.desk.specs.ManualOperator.{OperatorsOpened}
use Rattle.desk.proofs.Opening.{open_accepted, open_yields}

module _ (s : State) (c : Command) (out : List ℕ) {o : Opened} where
  open_writes : (a : Asked) {n : ℕ} → o ≡ opened s c (encode_reading a (length out)) out → o.answer ≡ read n → Writes a out (read n) o.out
  unfolding mapped
  open_writes a is size =
      let w = open_accepted s out c (encode_reading a (length out)) (ap (λ (x : Opened). accepts x.answer) (sym is) ∙ ap accepts size) in
      let all = is ∙ w.each c in
      rw w.gives (record { says = sym size ∙ ap (λ (x : Opened). x.answer) all; holds = ap (λ (x : Opened). x.out) all })

  pub operator_opened : (plmn : List ℕ) → o ≡ opened s c (encode_reading (set_manual_operator plmn) (length out)) out → OperatorAnswer plmn o.answer o.out
  operator_opened plmn is = go o.answer refl
    where
      go : (x : Reading ℕ) → o.answer ≡ x → OperatorAnswer plmn x o.out
      go (read n) e = operators_written plmn out (read n) o.out (open_writes (set_manual_operator plmn) is e)
      go (refused k) e =
          subst (Yields (λ (m : ℕ). Unit {0}) NotSix) (ap (λ (x : Opened). x.answer) (sym is) ∙ e)
          (open_yields NotSix s c (encode_reading (set_manual_operator plmn) (length out)) out (λ z. omega arith) (λ z. omega arith) (never_six plmn (length out)))

-- an open in parts keeps its contract whatever the line is: any will do
pub operators_opened : (plmn second out out' : List ℕ) → OperatorsOpened plmn second out out'
operators_opened plmn second out out' =
    record {
      value = λ mode d r kept. operator_opened _ _ out plmn kept;
      lent = λ mode d d' r kept. operator_opened _ _ out plmn kept;
      parts = λ state r kept. operator_opened _ _ out plmn (kept (replicate 257 0) [] refl);
      echo_parts = λ state sent r sent' kept. operator_opened _ _ out plmn (kept (replicate 257 0) refl);
    }
