-- Lent parts are a desk: a reset of the numbers, and the number of at most two answers read back.
use Prim.Native.Nat.{ℕ, ◌+◌, ◌-◌, ◌*◌, ◌/◌, ◌%◌, ◌≤◌}
use mathlib.Core.Path.{◌≡◌, refl, sym, ap, ◌∙◌}
use mathlib.Core.Bool.{Bool, true, false, cond}
use mathlib.Core.List.{List, [], ◌∷◌}
use native.Mathlib.Omega.{arith}
use lib.Dec.{ltb, eqb}
use lib.ListN.{length, get_or}
use Rattle.at_command.specs.Kind.{Kind, generic_ok, sim_error, write_prompt, close_ok, iccid, signal_quality, system_info, operator_info, network_time, download_info, imei, sms_message_format, sms_message, place_of, kind_at}
use Rattle.at_command.proofs.KindPlaces.{at_place, place_few}
use Rattle.text.specs.Copy.{least}
use Rattle.desk.specs.Judge.{Command}
use Rattle.desk.specs.Ordinal.{capped}
use Rattle.desk.specs.Desk.{Kept, State, judge_kept, reset_state, fed}
use Rattle.desk.proofs.Numbering.{capped_again}
use Rattle.desk.proofs.Feeding.{fed_command}
use Rattle.desk.proofs.Lives.{fed_few}
use Rattle.desk.proofs.Unchanged.{fed_sent}
use Rattle.sim7000.specs.Parts.{awaited_in, number_of, desk_in, numbers_of, resets}
use Rattle.sim7000.proofs.Commands.{awaited_two}

-- a reset of the numbers is a reset of the desk
pub reset_says : (line state sent : List ℕ) → desk_in line (resets state) sent ≡ reset_state (desk_in line state sent)
unfolding awaited_in capped least
reset_says line state sent = refl

-- ---- the number of at most two answers is read back

one_back : (k : Kind) → awaited_in (1 + place_of k) ≡ k ∷ []
unfolding awaited_in kind_at
one_back generic_ok = refl
one_back sim_error = refl
one_back write_prompt = refl
one_back close_ok = refl
one_back iccid = refl
one_back signal_quality = refl
one_back system_info = refl
one_back operator_info = refl
one_back network_time = refl
one_back download_info = refl
one_back imei = refl
one_back sms_message_format = refl
one_back sms_message = refl

two_back : (a b : Kind) → awaited_in (14 + 13 * place_of a + place_of b) ≡ a ∷ b ∷ []
two_back a b =
    let n = 14 + 13 * place_of a + place_of b in
    let p = place_few a in
    let q = place_few b in
    let x : (14 + 13 * place_of a + place_of b - 14) / 13 ≡ place_of a = omega arith in
    let y : (14 + 13 * place_of a + place_of b - 14) % 13 ≡ place_of b = omega arith in
    ap (λ (c : Command). c.awaited) (sym (awaited_two n (λ (e : n ≡ 0). omega arith) (omega arith) (omega arith) (sym (at_place a) ∙ ap kind_at (sym x)) (sym (at_place b) ∙ ap kind_at (sym y))))

pub number_back : (ks : List Kind) → length ks ≤ 2 → awaited_in (number_of ks) ≡ ks
unfolding awaited_in
number_back [] h = refl
number_back (a ∷ []) h = one_back a
number_back (a ∷ b ∷ []) h = two_back a b
number_back (a ∷ b ∷ k ∷ ks) h = absurd (omega arith)

-- a count that is no greater than the greatest ordinal is read as it is
abbrev Countable : Kept → Type 0
Countable k = capped k.counted ≡ k.counted

pub state_back : (s : State) → length s.command.awaited ≤ 2 → Countable s.command → desk_in s.wire.bytes (numbers_of s) s.command.sent ≡ s
state_back s h n = rw (number_back s.command.awaited h, n)

in_few : (n : ℕ) → length (awaited_in n) ≤ 2
unfolding awaited_in
in_few n = go (eqb n 0) (ltb n 14) (ltb n 183)
  where
    go : (t u v : Bool) → length (cond t [] (cond u (kind_at (n - 1) ∷ []) (cond v (kind_at ((n - 14) / 13) ∷ kind_at ((n - 14) % 13) ∷ []) []))) ≤ 2
    go true u v = omega arith
    go false true v = omega arith
    go false false true = omega arith
    go false false false = omega arith

module _ (line state sent chunk text : List ℕ) where
  fed_two : length (fed (desk_in line state sent) chunk text).state.command.awaited ≤ 2
  fed_two = let h = fed_few (desk_in line state sent) chunk text in
      let g = in_few (get_or state 1 0) in
      omega arith

  fed_countable : Countable (fed (desk_in line state sent) chunk text).state.command
  unfolding judge_kept
  fed_countable = fed_command Countable (desk_in line state sent) chunk text (capped_again (get_or state 3 0)) (λ l. capped_again _)

  -- the numbers that a feed leaves are read back, beside what was sent, which it leaves
  pub fed_back : let s = (fed (desk_in line state sent) chunk text).state in desk_in s.wire.bytes (numbers_of s) sent ≡ s
  fed_back =
      let s = (fed (desk_in line state sent) chunk text).state in
      ap (desk_in s.wire.bytes (numbers_of s)) (sym (fed_sent (desk_in line state sent) chunk text)) ∙ state_back s fed_two fed_countable
