-- Demand 3: a feed that keeps its contract is a feed of the desk's machine, an open that succeeds leaves nothing of the past, and so a session shows what the rules give.
use Prim.Native.Nat.{ℕ}
use mathlib.Core.Path.{◌≡◌, refl, sym, ap, subst, ◌∙◌}
use mathlib.Core.Bool.{true}
use mathlib.Core.Logic.{⊎_elim}
use mathlib.Core.List.{List, ◌++◌, map}
use mathlib.Core.Option.{Option, none, some}
use lib.ListN.{length, take, drop}
use lib.Seq.{take-append_seam}
use lib.Dec.{ltb}
use Rattle.text.specs.Reading.{Reading, read}
use Rattle.at_command.specs.Request.{Asked}
use Rattle.at_command.specs.says.Request.{asked}
use Rattle.desk.specs.Cut.{View, cut_one}
use Rattle.trial.specs.Sort.{line_sort}
use Rattle.desk.specs.Machine.{shown, tells, feed, told, taken, judge_all}
use Rattle.desk.specs.Ordinal.{Numbered, number, unnumbered}
use Rattle.desk.specs.Lines.{line_of, cutter}
use Rattle.desk.specs.Judge.{Seen, Command, judge}
use Rattle.desk.specs.Rules.{Mode, plain_mode, echo_mode, command_for, events_of, rules_of, Plain, plain, fresh}
use Rattle.desk.specs.Desk.{Tray, view_of, buffered, command_kept, judge_kept, State, viewed, desk, heard_of, text_of, Fed, heard, fed, Opened, opened}
use Rattle.desk.specs.Says.{state_in, state_of, fed_says, parts_says, opened_says, opened_parts_says, fed_lent_says, opened_lent_says}
use Rattle.desk.specs.Demand.{Turn, Openings, Feeds, accepts, taken_by, seen_by, bytes_of, seen_of, May, Run, ends, feeds, Session, Demand3, Demand3Slipped, Demand3Early}
use Rattle.desk.specs.Calls as By
use Rattle.desk.specs.Calls.{DeskOpens, DeskFeeds}
use Rattle.text.proofs.Tests.{both}
use Rattle.desk.proofs.Machine.{told_tells, tells_along, judged_tells}
use Rattle.desk.proofs.Cutting.{view_lay}
use Rattle.desk.proofs.Commands.{Apart, command_apart, command_some}
use Rattle.desk.proofs.Numbering.{number_out}
use Rattle.desk.proofs.Keeping.{keep_back, judge_numbered}
use Rattle.desk.proofs.Opening.{no_answer, open_accepted}
use Rattle.desk.proofs.Slips.{slips_leave, Good, returns, slipped_events, early_leaves}

-- ---- the buffers show in nothing that is told

pub same_lines : (t : Tray) (b : ℕ) → cutter (view_of t) b ≡ record { state = view_of (buffered t b).state; tell = (buffered t b).tell }
unfolding cutter buffered
same_lines t b = ap (λ (v : View). record { state = v; tell = line_of (cut_one (view_of t) b).piece }) (sym (view_lay t b))

pub same_told : (t : Tray) (bytes : List ℕ) → tells cutter (view_of t) bytes ≡ tells buffered t bytes
same_told t bytes = tells_along buffered cutter view_of same_lines t bytes

-- the desk tells what the rules tell of the bytes from its view on, numbered from its count on
by_view : (s : State) (bytes : List ℕ) → tells desk s bytes ≡ number s.command.counted (tells plain (viewed s) bytes)
by_view s bytes =
    let c = command_kept s.command in
    judged_tells judge_kept buffered s bytes
    ∙ judge_numbered s.command (tells buffered s.wire bytes)
    ∙ ap (number s.command.counted)
    (ap (judge_all (judge line_sort) c) (sym (same_told s.wire bytes)) ∙ sym (judged_tells (judge line_sort) cutter (viewed s) bytes))

plain_ruled : (c : Command) (bytes : List ℕ) → tells plain (fresh c) bytes ≡ events_of c bytes
plain_ruled c bytes = judged_tells (judge line_sort) cutter (fresh c) bytes

-- ---- a feed that is not refused is a feed of the machine, as its caller sees it

heard_taken : (n : ℕ) (o : Option (Numbered Seen)) → taken_by (read (heard_of n o)) ≡ n
heard_taken n none = refl
heard_taken n (some x) = refl

heard_seen : (n : ℕ) (o : Option (Numbered Seen)) (text : List ℕ) → seen_by (read (heard_of n o)) (text_of o text) ≡ o
heard_seen n none text = refl
heard_seen n (some x) text =
    ap (λ (s : List ℕ). some (record { ordinal = x.ordinal; tell = record { event = x.tell.event; line = s } })) (take-append_seam x.tell.line (drop (length x.tell.line) text))

abbrev pub IsFeed : State → List ℕ → Fed → Type 0
IsFeed s chunk f = feed desk s chunk ≡ record { taken = taken_by f.answer; tell = seen_by f.answer f.text; state = f.state }

heard_feed : (s : State) (chunk text : List ℕ) → IsFeed s chunk (heard (feed desk s chunk) text)
heard_feed s chunk text =
    let f = feed desk s chunk in
    rw (heard_taken f.taken f.tell, heard_seen f.taken f.tell text)

fed_feed : (s : State) (chunk text : List ℕ) → accepts (fed s chunk text).answer ≡ true → IsFeed s chunk (fed s chunk text)
unfolding fed
fed_feed s chunk text a = ⊎_elim (λ e. no_answer a (rw e)) (λ e. rw e (heard_feed s chunk text)) (both (ltb (length text) 256))

pub kept_feed : (s : State) (chunk text : List ℕ) (f : Fed) → f ≡ fed s chunk text → accepts f.answer ≡ true → IsFeed s chunk f
kept_feed s chunk text f e a =
    subst (λ (g : Fed). IsFeed s chunk g) (sym e) (fed_feed s chunk text (ap (λ (g : Fed). accepts g.answer) (sym e) ∙ a))

-- ---- an open that is not refused leaves nothing of the past

-- the command is open, nothing is held, no line is counted; and no unsolicited line is the echo that is awaited
pub record Begins (c : Command) (s : State) : Type 0 where
  pub view : viewed s ≡ fresh c
  pub none : s.command.counted ≡ 0
  pub apart : Apart c.echo

-- from there on the desk tells what the rules give
module _ {c : Command} {s : State} (begins : Begins c s) (bytes : List ℕ) where
  begun_tells : tells desk s bytes ≡ number 0 (tells plain (fresh c) bytes)
  begun_tells = by_view s bytes ∙ ap (λ (p : Plain). number s.command.counted (tells plain p bytes)) begins.view ∙ rw begins.none

  pub begun_ruled : tells desk s bytes ≡ rules_of c bytes
  begun_ruled = begun_tells ∙ ap (number 0) (plain_ruled c bytes)

-- of a request, in both modes
module _ (mode : Mode) (a : Asked) (s : State) (out : List ℕ) (w : Reading (List ℕ)) where
  pub open_begins : accepts (opened s (command_for mode a) w out).answer ≡ true → Begins (command_for mode a) (opened s (command_for mode a) w out).state
  open_begins fine =
      let c = command_for mode a in
      let is = open_accepted s out c w fine in
      record { view = rw (is.each c, is.clear, keep_back c s.command (command_some mode a)); none = rw (is.each c); apart = command_apart mode a }

  pub opened_for : (o : Opened) → o ≡ opened s (command_for mode a) w out → accepts o.answer ≡ true → Begins (command_for mode a) o.state
  opened_for o e fine = subst (λ (p : Opened). Begins (command_for mode a) p.state) (sym e) (open_begins (ap (λ (p : Opened). accepts p.answer) (sym e) ∙ fine))

-- ---- demand 3 of every family of calls of which this holds

pub record Sound (Opens : Openings) (Fed : Feeds) : Type 0 where
  pub opens : (s s' : State) (c : Command) → Opens s c s' → Begins c s'
  pub feeds : (s s' : State) (t : Turn) → Fed s t s' → feed desk s t.chunk ≡ record { taken = t.taken; tell = t.seen; state = s' }

module _ (Opens : Openings) (Fed : Feeds) (sound : Sound Opens Fed) where
  abbrev chunks_of : List Turn → List (List ℕ)
  chunks_of ts = map (λ (t : Turn). t.chunk) ts

  run_told : {s : State} {ts : List Turn} → Run Fed s ts → seen_of ts ≡ told desk s (chunks_of ts)
  unfolding seen_of told
  run_told ends = refl
  run_told {s} (feeds {s' = s'} {t = t} call more) = rw (sound.feeds s s' t call) (ap (shown t.seen) (run_told more))

  run_taken : {s : State} {ts : List Turn} → Run Fed s ts → bytes_of ts ≡ taken desk s (chunks_of ts)
  unfolding bytes_of taken
  run_taken ends = refl
  run_taken {s} (feeds {s' = s'} {t = t} call more) = rw (sound.feeds s s' t call) (ap (λ (l : List ℕ). take t.taken t.chunk ++ l) (run_taken more))

  -- a session tells what the machine tells of its bytes
  session_tells : {c : Command} (a : Session Opens Fed c) → seen_of a.turns ≡ tells desk a.opened (bytes_of a.turns)
  session_tells a = run_told a.runs ∙ told_tells desk a.opened (chunks_of a.turns) ∙ ap (tells desk a.opened) (sym (run_taken a.runs))

  session_begins : {c : Command} (a : Session Opens Fed c) → Begins c a.opened
  session_begins {c} a = sound.opens a.before a.opened c a.opens

  pub session_ruled : {c : Command} (a : Session Opens Fed c) → seen_of a.turns ≡ rules_of c (bytes_of a.turns)
  session_ruled a = session_tells a ∙ begun_ruled (session_begins a) (bytes_of a.turns)

  -- and with the ordinals left out
  session_plain : {c : Command} (a : Session Opens Fed c) {bytes : List ℕ} → bytes_of a.turns ≡ bytes → unnumbered (seen_of a.turns) ≡ tells plain (fresh c) bytes
  session_plain {c} a e =
      ap unnumbered (session_tells a ∙ begun_tells (session_begins a) (bytes_of a.turns))
      ∙ number_out 0 (tells plain (fresh c) (bytes_of a.turns))
      ∙ ap (tells plain (fresh c)) e

  pub same_bytes : Demand3 Opens Fed
  same_bytes c a b t = (session_ruled a ∙ ap (rules_of c) t ∙ sym (session_ruled b), session_ruled a)

  pub with_slips : Demand3Slipped Opens Fed
  with_slips c a b k own all =
      let good = (session_begins a).apart in
      rw (session_plain a own, session_plain b all, sym (slipped_events k good)) (slips_leave plain May Good returns k good)

  pub with_early : Demand3Early Opens Fed
  with_early sent ks a b before w rest whole₁ none₁ whole₂ none₂ own all =
      rw (session_plain a own, session_plain b all) (early_leaves sent ks before w rest whole₁ none₁ whole₂ none₂)

-- ---- the desk's own calls: in both modes, by value, lent and in parts

desk_opens : (s s' : State) (c : Command) → DeskOpens s c s' → Begins c s'
desk_opens s s' c (By.value mode d request first second out r out' kept a) = opened_for mode (asked request first second) (state_of d) out _ (opened_says r out') kept a
desk_opens s s' c (By.lent mode d request first second out d' r out' kept a) = opened_for mode (asked request first second) (state_of d) out _ (opened_lent_says d' r out') kept a
desk_opens s s' c (By.parts line state sent request first second out r out' full kept a) =
    opened_for plain_mode (asked request first second) (state_in line state sent) out _ (opened_parts_says r line sent out') (kept line sent full) a
desk_opens s s' c (By.echo_parts line state sent request first second out r sent' out' full kept a) =
    opened_for echo_mode (asked request first second) (state_in line state sent) out _ (opened_parts_says r line sent' out') (kept line full) a

desk_feeds : (s s' : State) (t : Turn) → DeskFeeds s t s' → feed desk s t.chunk ≡ record { taken = t.taken; tell = t.seen; state = s' }
desk_feeds s s' t (By.value d chunk text r text' kept a) = kept_feed (state_of d) chunk text (fed_says r text') kept a
desk_feeds s s' t (By.lent d chunk text d' r text' kept a) = kept_feed (state_of d) chunk text (fed_lent_says d' r text') kept a
desk_feeds s s' t (By.parts line state sent chunk text r line' text' kept a) = kept_feed (state_in line state sent) chunk text (parts_says r line' sent text') kept a

pub desk_sound : Sound DeskOpens DeskFeeds
desk_sound = record { opens = desk_opens; feeds = desk_feeds }

pub demand3 : Demand3 DeskOpens DeskFeeds
demand3 = same_bytes DeskOpens DeskFeeds desk_sound

pub demand3_slipped : Demand3Slipped DeskOpens DeskFeeds
demand3_slipped = with_slips DeskOpens DeskFeeds desk_sound

pub demand3_early : Demand3Early DeskOpens DeskFeeds
demand3_early = with_early DeskOpens DeskFeeds desk_sound
