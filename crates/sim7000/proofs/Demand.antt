-- Demand 3 holds of sessions with exported calls, in both modes: an exported call that keeps its contract is the desk's own on the desk that the lent parts are.
use Prim.Native.Nat.{ℕ}
use mathlib.Core.Path.{◌≡◌, refl, sym, ap, subst, ◌∙◌}
use mathlib.Core.List.{List}
use mathlib.Core.Option.{some}
use native.Mathlib.Omega.{arith}
use lib.Dec.{eqb, ltb}
use lib.ListN.{length, get_or}
use borrow.Author.Tests.{eqb-false}
use Rattle.text.specs.Reading.{Reading, read, refused}
use Rattle.text.proofs.Yields.{Yields, yields_cond}
use Rattle.at_command.specs.Request.{Asked, texts_of, refusal_of, command_of, fitting, encode_reading}
use Rattle.desk.specs.Machine.{feed}
use Rattle.desk.specs.Judge as J
use Rattle.desk.specs.Judge.{Command}
use Rattle.desk.specs.Rules.{Mode, plain_mode, echo_mode, command_for}
use Rattle.desk.specs.Desk.{keep, State, desk, Heard, quiet, event, Fed, fed, Opened}
use Rattle.desk.specs.Demand.{Turn, accepts, taken_by, seen_by, Demand3, Demand3Slipped, Demand3Early}
use Rattle.desk.proofs.Commands.{command_few}
use Rattle.desk.proofs.Numbering.{capped_few}
use Rattle.desk.proofs.Opening.{open_accepted, open_yields}
use Rattle.desk.proofs.Unchanged.{fed_stays}
use Rattle.desk.proofs.Demand.{Begins, Sound, desk_sound, kept_feed, opened_for, same_bytes, with_slips, with_early}
use Rattle.sim7000.specs.Parts.{desk_in, numbers_of, told_of, FeedLeft, feeds, ExportFeedKeeps}
use Rattle.sim7000.specs.Command.{asked_by, OpenLeft, open_left, opened_on, opens}
use Rattle.sim7000.specs.Calls.{seen_in, ExportOpens, ExportFeeds}
use Rattle.sim7000.specs.Calls as By
use Rattle.sim7000.proofs.Desks.{state_back, fed_back}

-- ---- a feed

-- what is told is read as the answer
told_taken : (h : Heard) → taken_by (read h) ≡ get_or (told_of h) 1 0
told_taken (quiet n) = refl
told_taken (event e ordinal n size) = refl

told_seen : (h : Heard) (text : List ℕ) → seen_by (read h) text ≡ seen_in (told_of h) text
told_seen (quiet n) text = refl
told_seen (event J.Unsolicited ordinal n size) text = refl
told_seen (event J.Taken ordinal n size) text = refl
told_seen (event J.Done ordinal n size) text = refl
told_seen (event J.Short ordinal n size) text = refl
told_seen (event J.Failed ordinal n size) text = refl
told_seen (event (J.Stray k) ordinal n size) text = refl
told_seen (event J.Overlong ordinal n size) text = refl
told_seen (event J.Echo ordinal n size) text = refl

-- a feed is refused with 10 alone
fed_ten : (s : State) (chunk text : List ℕ) {k : ℕ} → (fed s chunk text).answer ≡ refused k → k ≡ 10
fed_ten s chunk text e = let f = ap (λ (x : Fed). x.answer) (fed_stays s chunk text e).0 in cc

module _ (line state sent chunk text told : List ℕ) where
  abbrev Own : Fed
  Own = fed (desk_in line state sent) chunk text

  -- what a feed that is not refused leaves
  pub record Heeded (line' state' text' told' : List ℕ) : Type 0 where
    pub heard : Heard
    pub answers : Own.answer ≡ read heard
    pub lines : line' ≡ Own.state.wire.bytes
    pub states : state' ≡ numbers_of Own.state
    pub texts : text' ≡ Own.text
    pub tells : told' ≡ told_of heard

  pub heeded : (r : ℕ) (line' state' text' told' : List ℕ) → ExportFeedKeeps line state sent chunk text told r line' state' text' told' → r ≡ 0 → Heeded line' state' text' told'
  unfolding feeds
  heeded r line' state' text' told' kept fine = go Own.answer refl
    where
      go : (a : Reading Heard) → Own.answer ≡ a → Heeded line' state' text' told'
      go (refused k) e =
          let ten = fed_ten (desk_in line state sent) chunk text e in
          let is : r ≡ k = ap (λ (x : FeedLeft). x.answer) (rw e at kept) in
          absurd (omega (arith, is, ten, fine))
      go (read h) e =
          let k = rw e at kept in
          record {
            heard = h;
            answers = e;
            lines = ap (λ (x : FeedLeft). x.line) k;
            states = ap (λ (x : FeedLeft). x.state) k;
            texts = ap (λ (x : FeedLeft). x.text) k;
            tells = ap (λ (x : FeedLeft). x.told) k;
          }

  as_told : (h : Heard) {line' state' text' told' : List ℕ} → Own.answer ≡ read h → line' ≡ Own.state.wire.bytes → state' ≡ numbers_of Own.state → text' ≡ Own.text → told' ≡ told_of h
      → feed desk (desk_in line state sent) chunk ≡ record { taken = get_or told' 1 0; tell = seen_in told' text'; state = desk_in line' state' sent }
  as_told h e l s t w =
      kept_feed (desk_in line state sent) chunk text Own refl (ap accepts e)
      ∙ rw (e, l, s, t, w, fed_back line state sent chunk text, told_taken h, told_seen h Own.text)

  pub exported_feed : (r : ℕ) (line' state' text' told' : List ℕ) → ExportFeedKeeps line state sent chunk text told r line' state' text' told' → r ≡ 0
      → feed desk (desk_in line state sent) chunk ≡ record { taken = get_or told' 1 0; tell = seen_in told' text'; state = desk_in line' state' sent }
  exported_feed r line' state' text' told' kept fine =
      let m = heeded r line' state' text' told' kept fine in
      as_told m.heard m.answers m.lines m.states m.texts m.tells

-- ---- an open

-- no refusal is 0
abbrev pub NotZero : ℕ → Type 0
NotZero k = k ≡ 0 → ⊥

pub encode_numbered : (a : Asked) (room : ℕ) → Yields (λ (w : List ℕ). Unit {0}) NotZero (encode_reading a room)
encode_numbered a room =
    yields_cond _ NotZero (eqb (refusal_of (texts_of a)) 0) (fitting (command_of a) room) _
    (λ e. yields_cond _ NotZero (ltb room (length (command_of a))) (refused 7) (read (command_of a)) (λ f z. omega arith) (λ f. tt))
    (eqb-false _ 0)

-- in both modes
module _ (mode : Mode) (line state sent : List ℕ) (request number code : ℕ) (first second out : List ℕ) (size : ℕ) (a : Asked) (asks : asked_by request number code first second ≡ some a) where
  abbrev pub Begun : Opened
  Begun = opened_on mode a line state sent out

  -- what an open that is not refused leaves: the size and the command that the desk's own gives, and parts that are read back as the desk that it opened
  pub record ReadBack (state' sent' out' : List ℕ) (size' : ℕ) : Type 0 where
    pub answers : Begun.answer ≡ read size'
    pub outs : out' ≡ Begun.out
    pub back : desk_in line state' sent' ≡ Begun.state

  pub read_back : (r : ℕ) (state' sent' out' : List ℕ) (size' : ℕ) → open_left r state' sent' out' size' ≡ opens mode (asked_by request number code first second) line state sent out size → r ≡ 0
      → ReadBack state' sent' out' size'
  unfolding opens
  read_back r state' sent' out' size' kept fine = go Begun.answer refl
    where
      go : (x : Reading ℕ) → Begun.answer ≡ x → ReadBack state' sent' out' size'
      go (refused k) e =
          let named = open_yields NotZero (desk_in line state sent) (command_for mode a) (encode_reading a (length out)) out (λ z. omega arith) (λ z. omega arith) (encode_numbered a (length out)) in
          let is : r ≡ k = ap (λ (x : OpenLeft). x.answer) (rw (asks, e) at kept) in
          absurd ((rw e at named) (sym is ∙ fine))
      go (read n) e =
          let left = rw (asks, e) at kept in
          let states : state' ≡ numbers_of Begun.state = ap (λ (x : OpenLeft). x.state) left in
          let sents : sent' ≡ Begun.state.command.sent = ap (λ (x : OpenLeft). x.sent) left in
          let s = desk_in line state sent in
          let made = open_accepted s out (command_for mode a) (encode_reading a (length out)) (ap accepts e) in
          record {
            answers = e ∙ ap (λ (x : OpenLeft). read x.size) (sym left);
            outs = ap (λ (x : OpenLeft). x.out) left;
            back = rw (states, sents, made.each (command_for mode a)) (state_back (record { wire = s.wire; command = keep (command_for mode a) s.command }) (command_few mode a) (capped_few 0 (omega arith)));
          }

  exported_open : (r : ℕ) (state' sent' out' : List ℕ) (size' : ℕ) → open_left r state' sent' out' size' ≡ opens mode (asked_by request number code first second) line state sent out size → r ≡ 0
      → Begins (command_for mode a) (desk_in line state' sent')
  exported_open r state' sent' out' size' kept fine =
      let o = read_back r state' sent' out' size' kept fine in
      subst (Begins (command_for mode a)) (sym o.back) (opened_for mode a (desk_in line state sent) out (encode_reading a (length out)) Begun refl (ap accepts o.answers))

-- ---- demand 3

export_opens : (s s' : State) (c : Command) → ExportOpens s c s' → Begins c s'
export_opens s s' c (By.own o) = desk_sound.opens s s' c o
export_opens s s' c (By.exported line state sent request number code first second out size r state' out' size' a full asks kept fine) =
    exported_open plain_mode line state sent request number code first second out size a asks r state' sent out' size' (kept line sent full) fine
export_opens s s' c (By.echo_exported line state sent request number code first second out size r state' sent' out' size' a full asks kept fine) =
    exported_open echo_mode line state sent request number code first second out size a asks r state' sent' out' size' (kept line full) fine

export_feeds : (s s' : State) (t : Turn) → ExportFeeds s t s' → feed desk s t.chunk ≡ record { taken = t.taken; tell = t.seen; state = s' }
export_feeds s s' t (By.own f) = desk_sound.feeds s s' t f
export_feeds s s' t (By.exported line state sent chunk text told r line' state' text' told' kept fine) = exported_feed line state sent chunk text told r line' state' text' told' kept fine

pub export_sound : Sound ExportOpens ExportFeeds
export_sound = record { opens = export_opens; feeds = export_feeds }

pub demand3 : Demand3 ExportOpens ExportFeeds
demand3 = same_bytes ExportOpens ExportFeeds export_sound

pub demand3_slipped : Demand3Slipped ExportOpens ExportFeeds
demand3_slipped = with_slips ExportOpens ExportFeeds export_sound

pub demand3_early : Demand3Early ExportOpens ExportFeeds
demand3_early = with_early ExportOpens ExportFeeds export_sound
