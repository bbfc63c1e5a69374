-- A command that is kept is read back: what the desk keeps after a line, or after an open, is the command that the rules have there.
use Prim.Native.Nat.{ℕ, suc, ◌<◌}
use mathlib.Core.Path.{◌≡◌, refl, sym, ap, ◌∙◌}
use mathlib.Core.Bool.{true, false}
use mathlib.Core.Logic.{⊎_elim}
use mathlib.Core.List.{List, [], ◌∷◌, ◌++◌}
use mathlib.Core.Option.{Option, none, some}
use Rattle.std.specs.Prelude as P
use native.Mathlib.Omega.{arith}
use lib.ListN.{length, take, drop, length-append, length-take}
use lib.Seq.{length-take-le, take-append_seam}
use lib.Dec.{ltb, eqb}
use borrow.Author.Tests.{le-ltb, ltb-false, eqb-false, ne_eqb}
use Rattle.text.specs.Reading.{Reading}
use Rattle.text.proofs.Tests.{both}
use Rattle.trial.specs.Sort.{Sort, line_sort}
use Rattle.desk.specs.Machine.{judge_all}
use Rattle.desk.specs.Ordinal.{capped, Numbered, number}
use Rattle.desk.specs.Lines.{Line, overlong}
use Rattle.desk.specs.Judge.{Echo, Seen, Command, awaiting, idle, Ruling, table, is_echo, ruling, judge}
use Rattle.desk.specs.Desk.{Kept, echo_in, command_kept, sent_in, size_in, keep, judge_kept}
use Rattle.desk.specs.Search.{Judges}
use Rattle.desk.specs.Says.{command_says}
use Rattle.at_command.specs.declared.request.Awaits.{Awaits}
use Rattle.desk.proofs.Numbering.{number_capped}
use Rattle.desk.proofs.Judging.{table_plain, ruled_echo, ruled_early, echo_after}

-- an echo that is awaited has a byte
abbrev pub SomeByte : Option (List ℕ) → Type 0
SomeByte none = Unit {0}
SomeByte (some sent) = 0 < length sent

echo_back : (o : Option (List ℕ)) (old : List ℕ) → SomeByte o → echo_in (sent_in o old) (size_in o) ≡ o
echo_back none old h = refl
echo_back (some sent) old h =
    rw (ne_eqb (length sent) 0 (λ e. omega arith), le-ltb (length (sent ++ drop (length sent) old)) (length sent) (omega (arith, length-append sent (drop (length sent) old))))
    (rw (take-append_seam sent (drop (length sent) old)))

pub keep_back : (c : Command) (k : Kept) → SomeByte c.echo → command_kept (keep c k) ≡ c
keep_back c k h = rw (echo_back c.echo k.sent h)

-- ---- what is kept

module _ (sent : List ℕ) (size : ℕ) where
  -- none is awaited, or so many bytes at the front
  echo_cases : (P : Option (List ℕ) → Type 0) → P none → (0 < size → length (take size sent) ≡ size → P (some (take size sent))) → P (echo_in sent size)
  echo_cases P p q =
      ⊎_elim (λ (e : eqb size 0 ≡ true). rw e p)
      (λ (e : eqb size 0 ≡ false). rw e
      (⊎_elim (λ (f : ltb (length sent) size ≡ true). rw f p)
      (λ (f : ltb (length sent) size ≡ false). rw f (q (let z = eqb-false size 0 e in omega arith) (length-take-le size sent (ltb-false (length sent) size f))))
      (both (ltb (length sent) size))))
      (both (eqb size 0))

  -- and the size of what is awaited says the same
  echo_again : echo_in sent (size_in (echo_in sent size)) ≡ echo_in sent size
  echo_again =
      echo_cases (λ o. echo_in sent (size_in o) ≡ o) refl (λ h e. rw (e, ne_eqb size 0 (λ z. omega arith), le-ltb (length sent) size (omega (arith, length-take size sent))))

-- what is kept after a line is the command after it
pub keep_judged : (k : Kept) (l : Line) → command_kept (judge_kept k l).command ≡ (judge line_sort (command_kept k) l).command
unfolding judge_kept
keep_judged k l = rw (echo_after line_sort (λ o. echo_in k.sent (size_in o) ≡ o) refl (command_kept k) (echo_again k.sent k.size) l)

-- the lines that the desk judges are told as the rules tell them, and numbered
pub judge_numbered : (k : Kept) (ls : List Line) → judge_all judge_kept k ls ≡ number k.counted (judge_all (judge line_sort) (command_kept k) ls)
unfolding judge_all number judge_kept
judge_numbered k [] = refl
judge_numbered k (l ∷ ls) =
    let k' = (judge_kept k l).command in
    ap (λ (es : List (Numbered Seen)). (judge_kept k l).event ∷ es)
    (judge_numbered k' ls
    ∙ number_capped (suc k.counted) (judge_all (judge line_sort) (command_kept k') ls)
    ∙ ap (λ (c : Command). number (suc k.counted) (judge_all (judge line_sort) c ls)) (keep_judged k l))

-- ---- as the code has the size of the echo that is awaited

module _ (k : Kept) (size : ℕ) (is : size ≡ size_in (echo_in k.sent k.size)) where
  none_awaited : size ≡ 0 → echo_in k.sent k.size ≡ none
  none_awaited z = echo_cases k.sent k.size (λ o. size_in o ≡ 0 → o ≡ none) (λ e. refl) (λ h n e. absurd (omega arith)) (sym is ∙ z)

  some_awaited : (size ≡ 0 → ⊥) → (echo_in k.sent k.size ≡ some (take size k.sent)) × (length (take size k.sent) ≡ size)
  some_awaited f =
      echo_cases k.sent k.size
      (λ o. size ≡ size_in o → echo_in k.sent k.size ≡ o → (echo_in k.sent k.size ≡ some (take size k.sent)) × (length (take size k.sent) ≡ size))
      (λ e g. absurd (f e))
      (λ h n e g. let same : size ≡ k.size = e ∙ n in rw same (g, n))
      is refl

  -- and the count
  module _ {counted : ℕ} (next : counted ≡ capped (suc k.counted)) where
    -- an overlong line leaves the command
    pub overlong_keeps : record { sent = k.sent; size = size; awaited = k.awaited; counted = counted } ≡ (judge_kept k overlong).command
    unfolding judge_kept judge
    overlong_keeps = rw (next, is)

    module _ (l : List ℕ) where
      pub line_plain : size ≡ 0 → {c : Command} {s : Reading Sort} {j : Ruling} → c ≡ awaiting k.awaited → s ≡ line_sort l → j ≡ table c s
          → Judges k l (record { sent = k.sent; size = size; awaited = j.command.awaited; counted = counted }) j.event
      unfolding judge_kept judge ruling
      line_plain z c s e = rw (next, none_awaited z, table_plain k.awaited (line_sort l), e, c, s, z)

      module _ (more : size ≡ 0 → ⊥) where
        pub line_echo : is_echo (take size k.sent) l ≡ true → Judges k l (record { sent = k.sent; size = 0; awaited = k.awaited; counted = counted }) Echo
        unfolding judge_kept judge
        line_echo t = rw (next, (some_awaited more).0, ruled_echo line_sort (take size k.sent) k.awaited l t)

        pub line_early : is_echo (take size k.sent) l ≡ false → {s : Reading Sort} {j : Ruling} → s ≡ line_sort l → j ≡ table idle s
            → Judges k l (record { sent = k.sent; size = size; awaited = k.awaited; counted = counted }) j.event
        unfolding judge_kept judge
        line_early t s e =
            let a = some_awaited more in
            rw (next, a.0, ruled_early line_sort (take size k.sent) k.awaited l t, e, s, a.1)

-- the code's command is the answers that are awaited
pub says_plain : (c : P.Option Awaits) → command_says c ≡ awaiting (command_says c).awaited
says_plain P.None = refl
says_plain (P.Some a) = refl
