-- The command of a manual operator, and the answers of its writer (specs/ManualOperator.antt). Assumes nothing.
use Prim.Native.Nat.{ℕ}
use mathlib.Core.Path.{◌≡◌, refl, ap, subst}
use mathlib.Core.Logic.{◌⊎◌, inl, inr, ⊎_elim}
use mathlib.Core.Bool.{true, false}
use mathlib.Core.List.{List, ◌++◌, append_assoc}
use native.Mathlib.Omega.{arith}
use lib.Dec.{ltb}
use lib.ListN.{length, drop}
use lib.Seq.{take-append_seam}
use borrow.Author.Tests.{ltb-true, ltb-false, not-false}
use Rattle.text.specs.Bytes.{bytes, within, all_digits}
use Rattle.text.specs.Reading.{Reading, read, refused, mapped}
use Rattle.text.proofs.Ascii.{within_free, digits_printable}
use Rattle.text.proofs.Tests.{never, both, neither, and_left, and_right, at_least, at_most}
use Rattle.text.proofs.Yields.{Yields, yields_cond}
use Rattle.at_command.specs.Request.{set_manual_operator, command_of, operator_number, fitting, encode_reading, written}
use Rattle.at_command.specs.ManualOperator.{OperatorCommand, OperatorAnswer, OperatorsWritten, OperatorsAnswered}
use Rattle.at_command.proofs.Commands.{encode_gives}

five_or_six : (n : ℕ) → within 5 6 n ≡ true → (n ≡ 5) ⊎ (n ≡ 6)
five_or_six n e =
    let low = at_least 5 6 n e in
    let high = at_most 5 6 n e in
    ⊎_elim (λ f. let l = ltb-true n 6 f in inl (omega arith)) (λ f. let l = ltb-false n 6 f in inr (omega arith)) (both (ltb n 6))

command_is : (plmn : List ℕ) → operator_number plmn ≡ true → OperatorCommand plmn (command_of (set_manual_operator plmn))
command_is plmn e =
    let d = and_right (within 5 6 (length plmn)) _ e in
    record { is = ap (λ (t : List ℕ). bytes "AT+COPS=1,2,\"" ++ t) (append_assoc plmn (bytes "\"") (bytes "\r")); size = five_or_six (length plmn) (and_left _ (all_digits plmn) e); digits = d; unquoted = within_free 48 57 34 (omega arith) plmn d }

pub operators_answered : OperatorsAnswered
operators_answered plmn room =
    ⊎_elim (λ (l : ltb 6 (length plmn) ≡ true). rw l)
    (λ (l : ltb 6 (length plmn) ≡ false).
    ⊎_elim
    (λ (m : operator_number plmn ≡ true).
    let f = digits_printable plmn (and_right (within 5 6 (length plmn)) _ m) in
    rw (l, m, f))
    (λ (m : operator_number plmn ≡ false). rw (l, m))
    (both (operator_number plmn)))
    (both (ltb 6 (length plmn)))

abbrev pub NotSix : ℕ → Type 0
NotSix k = k ≡ 6 → ⊥

pub never_six : (plmn : List ℕ) (room : ℕ) → Yields (λ (w : List ℕ). Unit {0}) NotSix (encode_reading (set_manual_operator plmn) room)
never_six plmn room =
    rw (operators_answered plmn room)
    (yields_cond _ NotSix (ltb 6 (length plmn)) (refused 5) _ (λ e z. omega arith)
    (λ e. yields_cond _ NotSix (operator_number plmn) (fitting (command_of (set_manual_operator plmn)) room) (refused 12)
    (λ f. yields_cond _ NotSix (ltb room (length (command_of (set_manual_operator plmn)))) (refused 7) (read (command_of (set_manual_operator plmn))) (λ g z. omega arith) (λ g. tt))
    (λ f z. omega arith)))

pub operators_written : OperatorsWritten
unfolding mapped
operators_written plmn before answer after w = go (encode_reading (set_manual_operator plmn) (length before)) refl answer w.says w.holds
  where
    go : (r : Reading (List ℕ)) → encode_reading (set_manual_operator plmn) (length before) ≡ r → (x : Reading ℕ) → x ≡ mapped length r → after ≡ written r before → OperatorAnswer plmn x after
    go (refused j) e (refused k) s h = let is : k ≡ j = cc in rw is (subst (Yields (λ (c : List ℕ). Unit {0}) NotSix) e (never_six plmn (length before)))
    go (refused j) e (read n) s h = never (cc)
    go (read c) e (refused k) s h = never (cc)
    go (read c) e (read n) s h =
        let g = encode_gives (set_manual_operator plmn) (length before) e in
        let size : n ≡ length c = cc in
        let number = not-false (operator_number plmn) (neither _ false g.texts.numbered).0 in
        rw (h, size, take-append_seam c (drop (length c) before), g.is) (command_is plmn number)
