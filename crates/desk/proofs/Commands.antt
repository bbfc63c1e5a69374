-- No reader accepts the echo of a command that a writer gives: so it is no unsolicited line, and Echo stands in place of a Stray 3 alone.
use Prim.Native.Nat.{ℕ, ◌≤◌}
use mathlib.Core.Path.{◌≡◌, refl, sym, ap, subst, ◌∙◌}
use mathlib.Core.Bool.{Bool, true, false}
use mathlib.Core.Logic.{⊎_elim}
use mathlib.Core.List.{List}
use mathlib.Core.Option.{Option, none, some}
use native.Mathlib.Omega.{arith}
use lib.ListN.{length, length-append}
use Rattle.text.specs.Bytes.{bytes, same, starts_with}
use Rattle.text.specs.Reading.{read, refused}
use Rattle.text.proofs.Begins.{same_is}
use Rattle.text.proofs.Tests.{both}
use Rattle.at_command.specs.Request.{Asked, Numbers, body_of, command_of, encode_reading}
use Rattle.at_command.proofs.Commands.{body_begins, command_begins, encode_gives}
use Rattle.trial.specs.Sort.{unsolicited, line_sort}
use Rattle.trial.proofs.Commands.{never_sorted, at_front, commands_unread, unread_sort}
use Rattle.desk.specs.Cut.{bare}
use Rattle.desk.specs.Judge.{table, is_echo}
use Rattle.desk.specs.Examples.{EchoForStray}
use Rattle.desk.specs.Rules.{Mode, plain_mode, echo_mode, command_for}
use Rattle.desk.proofs.Cutting.{bare_snoc}
use Rattle.desk.proofs.Keeping.{SomeByte}
use Rattle.desk.proofs.Opening.{answers_few}

-- the line is the echo that is awaited, if one is
abbrev pub echoes : Option (List ℕ) → List ℕ → Bool
echoes none l = false
echoes (some sent) l = is_echo sent l

-- no unsolicited line is
abbrev pub Apart : Option (List ℕ) → Type 0
Apart o = (l : List ℕ) → line_sort l ≡ read unsolicited → echoes o l ≡ false

module _ (a : Asked) where
  command_bare : bare (command_of a) ≡ body_of a
  command_bare = bare_snoc (body_of a) 13

  -- what holds of the command and of the command without its CR holds of its echo
  echo_is : (P : List ℕ → Type 0) (l : List ℕ) → is_echo (command_of a) l ≡ true → P (command_of a) → P (body_of a) → P l
  unfolding is_echo
  echo_is P l e p q =
      ⊎_elim (λ f. subst P (sym (same_is l (command_of a) f)) p) (λ f. subst P (sym (same_is l (body_of a) (ap (same l) (sym command_bare) ∙ (rw f at e)))) q) (both (same l (command_of a)))

  pub echo_front : (l : List ℕ) → is_echo (command_of a) l ≡ true → starts_with (bytes "A") l ≡ true
  echo_front l f = at_front l (echo_is (λ s. starts_with (bytes "AT+") s ≡ true) l f (command_begins a) (body_begins a))

  echo_apart : Apart (some (command_of a))
  echo_apart l e =
      ⊎_elim
      (λ f. absurd (never_sorted l (echo_front l f) unsolicited e))
      (λ f. f)
      (both (is_echo (command_of a) l))

-- what equals a command that a writer gave, with its CR or without, is refused with 3
pub echo_refused : (a : Asked) (room : ℕ) (w : List ℕ) → Numbers a → encode_reading a room ≡ read w → (l : List ℕ) → is_echo w l ≡ true → line_sort l ≡ refused 3
echo_refused a room w n e l is =
    let u = commands_unread a room w n e in
    let g = (encode_gives a room e).is in
    echo_is a (λ s. line_sort s ≡ refused 3) l (ap (λ (s : List ℕ). is_echo s l) (sym g) ∙ is) (ap line_sort (sym g) ∙ unread_sort w u.0) (unread_sort (body_of a) u.1)

pub echo_for_stray : EchoForStray
unfolding table
echo_for_stray a room w n e l is c = rw (echo_refused a room w n e l is)

pub command_apart : (mode : Mode) (a : Asked) → Apart (command_for mode a).echo
command_apart plain_mode a = λ l e. refl
command_apart echo_mode a = echo_apart a

pub command_some : (mode : Mode) (a : Asked) → SomeByte (command_for mode a).echo
command_some plain_mode a = tt
command_some echo_mode a = omega (arith, length-append (body_of a) (bytes "\r"))

-- a request awaits at most two answers, in both modes
pub command_few : (mode : Mode) (a : Asked) → length (command_for mode a).awaited ≤ 2
command_few plain_mode a = answers_few a
command_few echo_mode a = answers_few a
