-- The exported calls write a manual operator as the writer and the desk do (specs/ManualOperator.antt).
use Prim.Native.Nat.{ℕ}
use mathlib.Core.Path.{◌≡◌, refl, sym, ap}
use mathlib.Core.List.{List, []}
use lib.ListN.{length, take, replicate}
use Rattle.text.specs.Reading.{Reading, read, refused, mapped}
use Rattle.at_command.specs.ManualOperator.{OperatorCommand}
use Rattle.at_command.specs.Request.{set_manual_operator, encode_reading}
use Rattle.at_command.proofs.ManualOperator.{operators_written}
use Rattle.desk.specs.Rules.{Mode, plain_mode, echo_mode, command_for}
use Rattle.desk.proofs.ManualOperator.{operator_opened}
use Rattle.sim7000.specs.Command.{asked_by, WriteLeft, write_left, write_leaves, writes, open_left, opens}
use Rattle.sim7000.specs.ManualOperator.{OperatorsExported}
use Rattle.sim7000.specs.Parts.{desk_in}
use Rattle.sim7000.proofs.Demand.{encode_numbered, read_back}

module _ (number code : ℕ) (first second out out' : List ℕ) (size size' : ℕ) where
  operator_written : write_left 0 out' size' ≡ writes (asked_by 4 number code first second) out size → OperatorCommand first (take size' out')
  unfolding asked_by writes mapped
  operator_written = go (encode_reading (set_manual_operator first) (length out)) refl
    where
      go : (w : Reading (List ℕ)) → encode_reading (set_manual_operator first) (length out) ≡ w → write_left 0 out' size' ≡ write_leaves w out size → OperatorCommand first (take size' out')
      go (refused k) e is = let n = encode_numbered (set_manual_operator first) (length out) in absurd ((rw e at n) (sym (ap (λ (x : WriteLeft). x.answer) is)))
      go (read c) e is =
          operators_written first out (read size') out' (rw e (record { says = ap (λ (x : WriteLeft). read x.size) is; holds = ap (λ (x : WriteLeft). x.out) is }))

  operator_begun : (mode : Mode) (line state sent state' sent' : List ℕ) → open_left 0 state' sent' out' size' ≡ opens mode (asked_by 4 number code first second) line state sent out size
      → OperatorCommand first (take size' out')
  unfolding asked_by
  operator_begun mode line state sent state' sent' kept =
      let o = read_back mode line state sent 4 number code first second out size (set_manual_operator first) refl 0 state' sent' out' size' kept refl in
      rw o.outs (rw o.answers at (operator_opened (desk_in line state sent) (command_for mode (set_manual_operator first)) out first refl))

  pub operators_exported : OperatorsExported number code first second out out' size size'
  operators_exported =
      record {
        written = operator_written;
        opened = λ state state' kept. operator_begun plain_mode (replicate 257 0) state [] state' [] (kept (replicate 257 0) [] refl);
        echoed = λ state sent state' sent' kept. operator_begun echo_mode (replicate 257 0) state sent state' sent' (kept (replicate 257 0) refl);
      }
