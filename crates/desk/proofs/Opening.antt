-- Laws of an open: its refusals in order, and what the writer's answer makes of it.
use Prim.Native.Nat.{ℕ, ◌+◌, ◌≤◌}
use mathlib.Core.Path.{◌≡◌, refl, sym, ap, ◌∙◌}
use mathlib.Core.Bool.{Bool, true, false}
use mathlib.Core.Logic.{⊎_elim}
use mathlib.Core.List.{List, [], ◌∷◌, ◌++◌}
use Rattle.std.specs.Prelude.{Option, Some, None, is_some}
use native.Mathlib.Nat.{zero-add}
use native.Mathlib.Omega.{arith}
use lib.ListN.{length, drop}
use lib.Seq.{take-append_seam}
use Rattle.text.specs.Reading.{Reading, read, refused, mapped}
use Rattle.at_command.specs.Request.{Asked, get_signal_quality, show_iccid, get_imei, get_operator_info, set_manual_operator, set_automatic_operator, get_system_info, synchronize_network_time, execute, download_to_file_system, get_sms_message_format, set_sms_message_format, read_sms, Numbers, command_of, encode_reading, answers_to, written}
use Rattle.at_command.specs.Kind.{Kind}
use Rattle.at_command.specs.declared.request.Awaits.{Awaits}
use Rattle.at_command.specs.declared.request.Awaits.TheVariants.{One, Two}
use Rattle.at_command.proofs.Commands.{command_size, encode_gives}
use Rattle.text.specs.Part.{part_of}
use Rattle.text.specs.Copy.{LayKeeps}
use Rattle.text.proofs.Copying.{whole_holds}
use Rattle.text.proofs.Parts.{from_start}
use Rattle.desk.specs.Cut.{View, dropping, held}
use Rattle.desk.specs.Judge.{Command, awaiting, echoing, is_open}
use Rattle.desk.specs.Desk.{command_kept, keep, State, view_of, is_clear, Opened, allowed, opened_with, opened}
use Rattle.desk.specs.Demand.{accepts}
use Rattle.desk.specs.Says.{command_says}
use Rattle.text.proofs.Tests.{both, never}
use Rattle.text.proofs.Yields.{Yields, yields_cond}

-- the code asks whether there are answers that are awaited
pub some_open : (c : Option Awaits) → is_open (command_says c) ≡ is_some c
some_open None = refl
some_open (Some (One a)) = refl
some_open (Some (Two a b)) = refl

-- ---- the refusals, and the answer

module _ (s : State) (c : Command) where
  pub open_busy : (command : Reading (List ℕ)) (out : List ℕ) → is_open (command_kept s.command) ≡ true → record { state = s; answer = refused 8; out = out } ≡ opened s c command out
  unfolding opened
  open_busy command out e = rw e

  module _ (idle : is_open (command_kept s.command) ≡ false) where
    pub open_held : (command : Reading (List ℕ)) (out : List ℕ) → is_clear (view_of s.wire) ≡ false → record { state = s; answer = refused 9; out = out } ≡ opened s c command out
    unfolding opened
    open_held command out e = rw (idle, e)

    module _ (clear : is_clear (view_of s.wire) ≡ true) where
      open_on : (command : Reading (List ℕ)) (out : List ℕ) → opened_with s c command out ≡ opened s c command out
      unfolding opened
      open_on command out = rw (idle, clear)

      -- the code's answer is the writer's
      module _ {answer : Reading ℕ} {after : List ℕ} where
        pub open_refused : (command : Reading (List ℕ)) (out : List ℕ) {k : ℕ} → answer ≡ refused k → answer ≡ mapped length command → after ≡ written command out
            → record { state = s; answer = answer; out = after } ≡ opened s c command out
        unfolding mapped
        open_refused (read w) out is e f = never (cc)
        open_refused (refused k) out is e f = rw (e, f) (open_on (refused k) out)

        pub open_written : (command : Reading (List ℕ)) (out : List ℕ) {n : ℕ} → answer ≡ read n → answer ≡ mapped length command → after ≡ written command out
            → record { state = record { wire = s.wire; command = keep c s.command }; answer = answer; out = after } ≡ opened s c command out
        unfolding mapped
        open_written (read w) out is e f = rw (e, f) (open_on (read w) out)
        open_written (refused k) out is e f = never (cc)

-- ---- an open that is refused, and one that is not: the command makes no difference but in what is kept

pub no_answer : {A : Type 0} {t : Bool} → t ≡ true → t ≡ false → A
no_answer e f = let z : true ≡ false = sym e ∙ f in never (cc)

clear_view : (v : View) → is_clear v ≡ true → v ≡ held []
clear_view dropping e = no_answer e refl
clear_view (held []) e = refl
clear_view (held (b ∷ bs)) e = no_answer e refl

module _ (s : State) (out : List ℕ) where
  -- a refusal leaves the desk and the output buffer, whichever command was to be opened
  with_refuses : (c c' : Command) (w : Reading (List ℕ)) {k : ℕ} → (opened_with s c w out).answer ≡ refused k → opened_with s c' w out ≡ record { state = s; answer = refused k; out = out }
  with_refuses c c' (read w) e = never (cc)
  with_refuses c c' (refused j) e = rw e

  open_refuses : (c c' : Command) (w : Reading (List ℕ)) {k : ℕ} → (opened s c w out).answer ≡ refused k → opened s c' w out ≡ record { state = s; answer = refused k; out = out }
  unfolding opened
  open_refuses c c' w e = with_refuses c c' (allowed s w) e

  module _ (c : Command) (w : Reading (List ℕ)) {o : Opened} {k : ℕ} (is : o ≡ opened s c w out) (e : o.answer ≡ refused k) where
    refuses : (c' : Command) → opened s c' w out ≡ record { state = s; answer = refused k; out = out }
    refuses c' = open_refuses c c' w (ap (λ (x : Opened). x.answer) (sym is) ∙ e)

    pub opened_same : (o.state ≡ s) × (o.out ≡ out)
    opened_same = let r = is ∙ refuses c in (ap (λ (x : Opened). x.state) r, ap (λ (x : Opened). x.out) r)

    pub refused_as : (c' : Command) → o ≡ opened s c' w out
    refused_as c' = is ∙ refuses c ∙ sym (refuses c')

  -- the writer gave these bytes, and nothing was held
  pub record Accepted (w : Reading (List ℕ)) : Type 0 where
    pub clear : view_of s.wire ≡ held []
    pub command : List ℕ
    pub gives : w ≡ read command
    pub each : (c : Command) → opened s c w out ≡ opened_with s c (read command) out

  by_writer : (c : Command) (w : Reading (List ℕ)) → view_of s.wire ≡ held [] → ((c : Command) → opened s c w out ≡ opened_with s c w out) → accepts (opened_with s c w out).answer ≡ true → Accepted w
  by_writer c (read w) v each a = record { clear = v; command = w; gives = refl; each = each }
  by_writer c (refused k) v each a = no_answer a refl

  pub open_accepted : (c : Command) (w : Reading (List ℕ)) → accepts (opened s c w out).answer ≡ true → Accepted w
  unfolding opened
  open_accepted c w a =
      ⊎_elim (λ (e : is_open (command_kept s.command) ≡ true). no_answer a (rw e))
      (λ (e : is_open (command_kept s.command) ≡ false).
      ⊎_elim
      (λ (f : is_clear (view_of s.wire) ≡ true). by_writer c w (clear_view (view_of s.wire) f) (λ d. rw (e, f)) (rw (e, f) at a))
      (λ (f : is_clear (view_of s.wire) ≡ false). no_answer a (rw (e, f)))
      (both (is_clear (view_of s.wire))))
      (both (is_open (command_kept s.command)))

-- what holds of 8, of 9 and of the writer's refusals holds of an open's
pub open_yields : (R : ℕ → Type 0) (s : State) (c : Command) (w : Reading (List ℕ)) (out : List ℕ) → R 8 → R 9 → Yields (λ (x : List ℕ). Unit {0}) R w → Yields (λ (n : ℕ). Unit {0}) R (opened s c w out).answer
unfolding opened
open_yields R s c w out p q h =
    go (allowed s w) (yields_cond _ R (is_open (command_kept s.command)) (refused 8) _ (λ e. p) (λ e. yields_cond _ R (is_clear (view_of s.wire)) w (refused 9) (λ f. h) (λ f. q)))
  where
    go : (v : Reading (List ℕ)) → Yields (λ (x : List ℕ). Unit {0}) R v → Yields (λ (n : ℕ). Unit {0}) R (opened_with s c v out).answer
    go (read command) y = tt
    go (refused k) y = y

read_same : {m n : ℕ} → read m ≡ read n → m ≡ n
read_same e = cc

-- what was written is laid in the bytes that are kept, as `open_echo_on` does it after a plain open
module _ (s : State) (a : Asked) (ks : List Kind) (out : List ℕ) {o : Opened} {n : ℕ} (is : o ≡ opened s (awaiting ks) (encode_reading a (length out)) out) (size : o.answer ≡ read n)
    (numbers : Numbers a) (full : length s.command.sent ≡ 210) where
  pub echo_kept : {piece sent' : List ℕ} {e : ℕ} → piece ≡ part_of o.out 0 n → LayKeeps piece 0 s.command.sent e sent'
      → record { state = record { wire = o.state.wire; command = record { sent = sent'; size = n; awaited = o.state.command.awaited; counted = o.state.command.counted } }; answer = o.answer; out = o.out }
      ≡ opened s (echoing (command_of a) ks) (encode_reading a (length out)) out
  echo_kept {piece} {sent'} front laid =
      let w = open_accepted s out (awaiting ks) (encode_reading a (length out)) (ap (λ (x : Opened). accepts x.answer) (sym is) ∙ ap accepts size) in
      let g = encode_gives a (length out) w.gives in
      let all : o ≡ opened_with s (awaiting ks) (read (command_of a)) out = is ∙ w.each (awaiting ks) ∙ ap (λ (x : List ℕ). opened_with s (awaiting ks) (read x) out) g.is in
      let count : n ≡ length (command_of a) = read_same (sym size ∙ ap (λ (x : Opened). x.answer) all) in
      let bytes : piece ≡ command_of a = front ∙ from_start o.out n ∙ rw (all, count) (take-append_seam (command_of a) (drop (length (command_of a)) out)) in
      let few = command_size a numbers g.texts.short in
      let kept : sent' ≡ command_of a ++ drop (length (command_of a)) s.command.sent =
      whole_holds piece 0 s.command.sent _ sent' (let z = ap length bytes in omega arith) laid
      ∙ ap (λ (x : List ℕ). x ++ drop (0 + length x) s.command.sent) bytes
      ∙ ap (λ (m : ℕ). command_of a ++ drop m s.command.sent) (zero-add (length (command_of a))) in
      rw (all, count, kept, w.each (echoing (command_of a) ks), g.is)

-- ---- a request awaits at most two answers

pub answers_few : (a : Asked) → length (answers_to a) ≤ 2
answers_few get_signal_quality = omega arith
answers_few show_iccid = omega arith
answers_few get_imei = omega arith
answers_few get_operator_info = omega arith
answers_few (set_manual_operator plmn) = omega arith
answers_few set_automatic_operator = omega arith
answers_few get_system_info = omega arith
answers_few (synchronize_network_time server timezone cid) = omega arith
answers_few execute = omega arith
answers_few (download_to_file_system url path) = omega arith
answers_few get_sms_message_format = omega arith
answers_few (set_sms_message_format format) = omega arith
answers_few (read_sms index) = omega arith
