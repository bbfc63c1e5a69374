-- No reader accepts a command, with its CR or without (document 02, CR 4); nor any other line that begins with "A".
use Prim.Native.Nat.{ℕ, ◌≤◌}
use mathlib.Core.Path.{◌≡◌, refl, ap, sym, ◌∙◌}
use mathlib.Core.Bool.{Bool, true, false, cond}
use mathlib.Core.List.{List, ◌++◌}
use native.Mathlib.Omega.{arith}
use lib.Dec.{eqb}
use lib.ListN.{length, replicate}
use Rattle.text.specs.Bytes.{bytes, starts_with, all_within}
use Rattle.text.specs.Line.{line_check, checked}
use Rattle.text.specs.Reading.{Reading, read, refused, mapped, each, first_of}
use Rattle.text.proofs.Ascii.{check_ascii}
use Rattle.text.proofs.Begins.{begins_with}
use Rattle.text.proofs.Tests.{never}
use Rattle.at_command.specs.Response.{Response}
use Rattle.at_command.specs.Request.{body_of, command_of}
use Rattle.at_command.proofs.Commands.{body_begins, command_begins, body_size, command_size, body_ascii, command_ascii, encode_gives}
use Rattle.at_command.proofs.NoResponse.{reserved, no_readings, no_operator}
use Rattle.unsolicited.specs.Urc.{Unsolicited, urc_readings, begins}
use Rattle.trial.specs.Answer.{Said, response, unsolicited, all_readings, said_text, line_said}
use Rattle.trial.specs.Commands.{NoneReads, CommandsUnread}
use Rattle.trial.specs.Sort.{Sort, sort_of, line_sort}
use Rattle.trial.proofs.Apart.{urcs_not}

-- of a line that begins so
module _ (l : List ℕ) (e : starts_with (bytes "A") l ≡ true) where
  is_reserved : reserved l ≡ true
  unfolding reserved
  is_reserved = begins_with (λ (s : List ℕ). reserved s ≡ true) (bytes "A") l (λ t. refl) e

  all_unread : all_readings l ≡ replicate 17 (refused 3)
  unfolding all_readings begins starts_with mapped
  all_unread =
      ap (λ (rs : List (Reading Response)). each response rs ++ each unsolicited (urc_readings l)) (no_readings l is_reserved)
      ∙ ap (λ (us : List (Reading Unsolicited)). each response (replicate 13 (refused 3)) ++ each unsolicited us) (urcs_not l (begins_with (λ (s : List ℕ). begins s ≡ false) (bytes "A") l (λ t. refl) e))

  trial_refuses : said_text l ≡ refused 3
  unfolding said_text first_of
  trial_refuses = ap (first_of 3) all_unread

  -- whatever its size and its bytes, it is never sorted: the check refuses it, with 1 or 2, or the readers do, with 3
  pub never_sorted : (s : Sort) → line_sort l ≡ read s → ⊥
  unfolding line_sort line_said checked mapped
  never_sorted s h = go (eqb (line_check l) 0) (ap (λ (r : Reading Said). mapped sort_of (cond (eqb (line_check l) 0) r (refused (line_check l)))) (sym trial_refuses) ∙ h)
    where
      go : (t : Bool) → mapped sort_of (cond t (refused 3) (refused (line_check l))) ≡ read s → ⊥
      go true k = never (cc)
      go false k = never (cc)

  pub none_reads : length l ≤ 256 → all_within 0 0x7F l ≡ true → NoneReads l
  none_reads h a = record { passes = check_ascii l h a; refuse = all_unread; operator = no_operator l is_reserved }

-- what a line that none reads says, and what it is to a desk
module _ (l : List ℕ) (h : NoneReads l) where
  pub unread_said : line_said l ≡ refused 3
  unfolding line_said checked said_text first_of
  unread_said = rw h.passes (ap (first_of 3) h.refuse)

  pub unread_sort : line_sort l ≡ refused 3
  unfolding line_sort mapped
  unread_sort = ap (mapped sort_of) unread_said

-- every command does so: it begins with "AT+"
pub at_front : (l : List ℕ) → starts_with (bytes "AT+") l ≡ true → starts_with (bytes "A") l ≡ true
unfolding starts_with
at_front l = begins_with (λ (s : List ℕ). starts_with (bytes "A") s ≡ true) (bytes "AT+") l (λ t. refl)

pub commands_unread : CommandsUnread
commands_unread a room w n e =
    let g = encode_gives a room e in
    let c = command_size a n g.texts.short in
    let b = body_size a n g.texts.short in (
      rw g.is (none_reads (command_of a) (at_front (command_of a) (command_begins a)) (omega arith) (command_ascii a g.texts.fit)),
      none_reads (body_of a) (at_front (body_of a) (body_begins a)) (omega arith) (body_ascii a g.texts.fit),
    )
