-- Demand 3 is not empty: from every desk that is idle and holds nothing there is a session of every request that its writer does not refuse, and it takes any bytes.
use Prim.Native.Nat.{ℕ, zero, suc, ◌≤◌}
use mathlib.Core.Path.{◌≡◌, refl, sym, ap, subst, ◌∙◌}
use mathlib.Core.Bool.{true, false}
use mathlib.Core.List.{List, [], ◌∷◌, ◌++◌}
use Rattle.std.specs.Prelude.{Option, Some, None, Result, Ok, Err}
use Rattle.text.specs.declared.refusal.Refusal.{Refusal}
use Rattle.text.specs.declared.refusal.Refusal.TheVariants.{TextBufferTooSmall}
use native.Mathlib.Omega.{arith}
use lib.ListN.{length, take, drop, replicate, length-drop, take-append-drop}
use borrow.Author.Tests.{le-ltb, leb-true}
use Rattle.text.specs.Reading.{Reading, read, refused}
use Rattle.at_command.specs.Kind.{Kind, generic_ok, sim_error, write_prompt, close_ok, iccid, signal_quality, system_info, operator_info, network_time, download_info, imei, sms_message_format, sms_message}
use Rattle.at_command.specs.Request.{get_signal_quality, command_of, encode_reading}
use Rattle.at_command.specs.says.Request.{asked, kind_says}
use Rattle.at_command.specs.declared.request.Awaits.{Awaits}
use Rattle.at_command.specs.declared.request.Awaits.TheVariants.{One, Two}
use Rattle.at_command.specs.declared.request.Request.{Request}
use Rattle.at_command.specs.declared.request.Request.TheVariants.{GetSignalQuality}
use Rattle.at_command.proofs.OneRequest.{kind}
use Rattle.desk.specs.Machine.{Stop, feed}
use Rattle.desk.specs.Ordinal.{Numbered}
use Rattle.desk.specs.Judge as J
use Rattle.desk.specs.Judge.{Seen, Command, is_open}
use Rattle.desk.specs.Desk as D
use Rattle.desk.specs.Desk.{State, view_of, command_kept, keep, judge_kept, desk, quiet, event, fed, is_clear, opened}
use Rattle.desk.specs.Says.{command_says, event_says, feed_says, answer_says, state_of}
use Rattle.desk.specs.Keeps.{command_by, opened_by}
use Rattle.desk.specs.Rules.{Mode}
use Rattle.desk.specs.Demand.{Turn, Openings, Feeds, accepts, turn_of, bytes_of, Run, ends, feeds, Lives}
use Rattle.desk.specs.Calls as By
use Rattle.desk.specs.Calls.{DeskOpens, DeskFeeds}
use Rattle.desk.specs.declared.Desk.{Desk}
use Rattle.desk.specs.declared.feed.Feed.{Feed}
use Rattle.desk.proofs.Machine.{feed_some}
use Rattle.desk.proofs.Judging.{Few, judge_few}
use Rattle.desk.proofs.Feeding.{fed_cases, fed_command}
use Rattle.desk.proofs.Commands.{command_few}
use Rattle.desk.proofs.Demand.{Sound, desk_sound}
use Rattle.desk.proofs.One.{command_in, event_in, heard_in, desk_in}

-- ---- feeds that can go on from every good desk take any bytes

pub record Served (Fed : Feeds) (Good : State → Type 0) (s : State) (chunk : List ℕ) : Type 0 where
  pub turn : Turn
  pub next : State
  pub call : Fed s turn next
  pub whole : turn.chunk ≡ chunk
  pub good : Good next

module _ (Opens : Openings) (Fed : Feeds) (sound : Sound Opens Fed) (Good : State → Type 0) (serves : (s : State) (chunk : List ℕ) → Good s → Served Fed Good s chunk) where
  record Through (s : State) (bytes : List ℕ) : Type 0 where
    pub turns : List Turn
    pub run : Run Fed s turns
    pub all : bytes_of turns ≡ bytes

  through : (most : ℕ) (s : State) (bytes : List ℕ) → Good s → length bytes ≤ most → Through s bytes
  unfolding bytes_of
  through zero s [] g h = record { turns = []; run = ends; all = refl }
  through zero s (b ∷ bs) g h = absurd (omega arith)
  through (suc most) s [] g h = record { turns = []; run = ends; all = refl }
  through (suc most) s (b ∷ bs) g h =
      let v = serves s (b ∷ bs) g in
      let n = v.turn.taken in
      let is : (feed desk s (b ∷ bs)).taken ≡ n =
      ap (λ (c : List ℕ). (feed desk s c).taken) (sym v.whole) ∙ ap (λ (f : Stop State (Numbered Seen)). f.taken) (sound.feeds s v.next v.turn v.call) in
      let few : length (drop n (b ∷ bs)) ≤ most = omega (arith, feed_some desk s b bs, is, length-drop n (b ∷ bs)) in
      let rest = through most v.next (drop n (b ∷ bs)) v.good few in
      let all-taken = ap (λ (l : List ℕ). take n l ++ bytes_of rest.turns) v.whole ∙ ap (λ (l : List ℕ). take n (b ∷ bs) ++ l) rest.all ∙ take-append-drop n (b ∷ bs) in
      record { turns = v.turn ∷ rest.turns; run = feeds v.call rest.run; all = all-taken }

  pub lives : (s s' : State) (c : Command) → Opens s c s' → Good s' → Lives Opens Fed s c
  lives s s' c call good bytes =
      let r = through (length bytes) s' bytes good (omega arith) in
      (record { before = s; opened = s'; opens = call; turns = r.turns; runs = r.run }, (refl, r.all))

-- ---- a feed leaves at most as many answers as it finds

pub fed_few : (s : State) (chunk text : List ℕ) → Few s.command.awaited (fed s chunk text).state.command.awaited
unfolding judge_kept
fed_few s chunk text = fed_command (λ k. Few s.command.awaited k.awaited) s chunk text (omega arith) (judge_few (command_kept s.command))

-- a feed with room for the line is not refused
pub fed_accepts : (s : State) (chunk text : List ℕ) → 256 ≤ length text → accepts (fed s chunk text).answer ≡ true
unfolding fed
fed_accepts s chunk text h = rw (le-ltb (length text) 256 h)

-- ---- the desk's own calls, by value

kind_says_lem : (k : Kind) → kind_says (kind k) ≡ k
kind_says_lem generic_ok = refl
kind_says_lem sim_error = refl
kind_says_lem write_prompt = refl
kind_says_lem close_ok = refl
kind_says_lem iccid = refl
kind_says_lem signal_quality = refl
kind_says_lem system_info = refl
kind_says_lem operator_info = refl
kind_says_lem network_time = refl
kind_says_lem download_info = refl
kind_says_lem imei = refl
kind_says_lem sms_message_format = refl
kind_says_lem sms_message = refl

command_says_lem : (ks : List Kind) → length ks ≤ 2 → (command_says (command_in ks)).awaited ≡ ks
unfolding command_in
command_says_lem [] h = refl
command_says_lem (a ∷ []) h = rw (kind_says_lem a)
command_says_lem (a ∷ b ∷ []) h = rw (kind_says_lem a, kind_says_lem b)
command_says_lem (a ∷ b ∷ k ∷ ks) h = absurd (omega arith)

state_says : (s : State) → length s.command.awaited ≤ 2 → state_of (desk_in s) ≡ s
unfolding desk_in
state_says s h =
    ap (λ (ks : List Kind). record { wire = s.wire; command = record { sent = s.command.sent; size = s.command.size; awaited = ks; counted = s.command.counted } })
    (command_says_lem s.command.awaited h)

-- every event is what some event of the code says, and every telling what some feed does
event_says_lem : (e : J.Event) → event_says (event_in e) ≡ e
unfolding event_in
event_says_lem J.Overlong = refl
event_says_lem (J.Stray n) = refl
event_says_lem J.Failed = refl
event_says_lem J.Taken = refl
event_says_lem J.Done = refl
event_says_lem J.Short = refl
event_says_lem J.Unsolicited = refl
event_says_lem J.Echo = refl

heard_says_lem : (h : D.Heard) → feed_says (heard_in h) ≡ h
unfolding heard_in
heard_says_lem (quiet n) = refl
heard_says_lem (event e ordinal n size) = ap (λ (x : J.Event). event x ordinal n size) (event_says_lem e)

-- the answer of a feed, as the code has it: no feed is refused with another number than 10
unfoldable answer_in : Reading D.Heard → Result Feed Refusal
answer_in (refused k) = Err TextBufferTooSmall
answer_in (read h) = Ok (heard_in h)

answer_known : (s : State) (chunk text : List ℕ) → let a = (fed s chunk text).answer in answer_says (answer_in a) ≡ a
unfolding answer_in
answer_known s chunk text = fed_cases (λ a k. answer_says (answer_in a) ≡ a) s chunk text refl (λ n o. ap read (heard_says_lem _))

two_at_most : (c : Option Awaits) → length (command_says c).awaited ≤ 2
two_at_most None = omega arith
two_at_most (Some (One a)) = omega arith
two_at_most (Some (Two a b)) = omega arith

-- the state of some desk
record Desks (s : State) : Type 0 where
  pub desk : Desk
  pub is : state_of desk ≡ s

serve : (text : List ℕ) → 256 ≤ length text → (d : Desk) (chunk : List ℕ) → Served DeskFeeds Desks (state_of d) chunk
serve text room d chunk =
    let f = fed (state_of d) chunk text in
    let few : length f.state.command.awaited ≤ 2 = omega (arith, fed_few (state_of d) chunk text, two_at_most d.state.command) in
    record {
      turn = turn_of chunk (answer_says (answer_in f.answer)) f.text;
      next = state_of (desk_in f.state);
      call =
          By.value d chunk text (record { desk = desk_in f.state; answer = answer_in f.answer }) f.text (rw (state_says f.state few, answer_known (state_of d) chunk text))
          (ap accepts (answer_known (state_of d) chunk text) ∙ fed_accepts (state_of d) chunk text room);
      whole = refl;
      good = record { desk = desk_in f.state; is = refl };
    }

-- an open of an idle desk that holds nothing, with a command that the writer gives
module _ (s : State) (c : Command) (w out : List ℕ) (closed : is_open (command_kept s.command) ≡ false) (clear : is_clear (view_of s.wire) ≡ true) where
  pub open_accepts : {written : Reading (List ℕ)} → written ≡ read w
      → ((opened s c written out).answer ≡ read (length w)) × ((opened s c written out).state ≡ record { wire = s.wire; command = keep c s.command })
  unfolding opened
  open_accepts e = rw (e, closed, clear) (refl, refl)

pub desk_lives : (mode : Mode) (d : Desk) (request : Request) (first second out text command : List ℕ) → is_open (command_kept (state_of d).command) ≡ false → is_clear (view_of (state_of d).wire) ≡ true
    → encode_reading (asked request first second) (length out) ≡ read command → 256 ≤ length text → Lives DeskOpens DeskFeeds (state_of d) (command_by mode request first second)
desk_lives mode d request first second out text command closed clear e room =
    let o = opened_by mode (state_of d) request first second out in
    let made = open_accepts (state_of d) (command_by mode request first second) command out closed clear e in
    let few : length o.state.command.awaited ≤ 2 = rw made.1 (command_few mode (asked request first second)) in
    lives DeskOpens DeskFeeds desk_sound Desks (λ s chunk g. subst (λ (x : State). Served DeskFeeds Desks x chunk) g.is (serve text room g.desk chunk)) (state_of d) (state_of (desk_in o.state))
    (command_by mode request first second)
    (By.value mode d request first second out (record { desk = desk_in o.state; answer = Ok (length command) }) o.out (rw (state_says o.state few, ← made.0)) refl)
    (record { desk = desk_in o.state; is = refl })

-- for one, AT+CSQ with buffers of 256 bytes, from any such desk
pub csq_lives : (mode : Mode) (d : Desk) → is_open (command_kept (state_of d).command) ≡ false → is_clear (view_of (state_of d).wire) ≡ true
    → Lives DeskOpens DeskFeeds (state_of d) (command_by mode GetSignalQuality [] [])
csq_lives mode d closed clear = desk_lives mode d GetSignalQuality [] [] (replicate 256 0) (replicate 256 0) (command_of get_signal_quality) closed clear refl (leb-true 256 256 refl)
