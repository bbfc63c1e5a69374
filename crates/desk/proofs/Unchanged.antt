-- What a caller leans on besides demand 3: what stays as it was, and the prompt.
use Prim.Native.Nat.{ℕ, suc, ◌<◌}
use mathlib.Core.Path.{◌≡◌, refl, sym, ap, ◌∙◌}
use mathlib.Core.Bool.{true, false}
use mathlib.Core.Logic.{⊎_elim}
use mathlib.Core.List.{List, [], ◌∷◌, ◌++◌}
use mathlib.Core.Option.{Option, none, some, map}
use Rattle.std.specs.Prelude.{Result}
use lib.ListN.{length, replicate}
use lib.Dec.{ltb}
use borrow.Author.Tests.{ltb-true}
use Rattle.text.specs.Bytes.{bytes, same, starts_with, ends_with}
use Rattle.text.specs.Reading.{Reading, read, refused}
use Rattle.at_command.specs.says.Request.{encoded_says}
use Rattle.at_command.specs.declared.request.Request.{Request}
use Rattle.text.specs.declared.refusal.Refusal.{Refusal}
use Rattle.desk.specs.Cut.{held, bare, cut_one}
use Rattle.trial.specs.Sort.{line_sort}
use Rattle.desk.specs.Machine.{tells, feed, command_of, event_of}
use Rattle.desk.specs.Ordinal.{capped, Numbered}
use Rattle.desk.specs.Lines as L
use Rattle.desk.specs.Lines.{Line, overlong, cutter, lines_of}
use Rattle.desk.specs.Judge.{Event, Overlong, Seen, idle, judge}
use Rattle.desk.specs.Rules.{fresh, Mode}
use Rattle.desk.specs.Desk.{Kept, command_kept, judge_kept, State, buffered, viewed, desk, new_state, reset_state, Heard, quiet, event, heard_of, text_of, Fed, fed}
use Rattle.desk.specs.Says.{answer_says, state_in, state_of, fed_says, parts_says}
use Rattle.desk.specs.Keeps.{FeedKeeps, FeedLentKeeps, FeedOnKeeps, OpenKeeps, OpenLentKeeps, OpenOnKeeps, OpenEchoOnKeeps}
use Rattle.desk.specs.declared.State.{State as StateCode}
use Rattle.desk.specs.declared.Desk.{Desk}
use Rattle.desk.specs.declared.feed.Fed.{Fed as FedCode}
use Rattle.desk.specs.declared.feed.Feed.{Feed}
use Rattle.desk.specs.declared.feed.FedParts.{FedParts}
use Rattle.desk.specs.declared.open.Opened.{Opened as OpenedCode}
use Rattle.desk.specs.declared.open.OpenedParts.{OpenedParts}
use Rattle.text.proofs.Tests.{both, never}
use Rattle.desk.proofs.One.{same_desk, same_state}
use Rattle.desk.proofs.Machine.{judged_feed}
use Rattle.desk.proofs.Judging.{ruling_event}
use Rattle.desk.proofs.Feeding.{fed_cases, fed_command}
use Rattle.desk.proofs.Opening.{opened_same}

-- ---- a refusing call changes neither the desk nor a lent byte: by value, of a lent desk, and of a desk that is lent in parts

pub fed_stays : (s : State) (chunk text : List ℕ) {k : ℕ} → (fed s chunk text).answer ≡ refused k
    → (fed s chunk text ≡ record { state = s; answer = refused 10; text = text }) × (length text < 256)
unfolding fed
fed_stays s chunk text e =
    ⊎_elim (λ (f : ltb (length text) 256 ≡ true). (rw f, ltb-true (length text) 256 f))
    (λ (f : ltb (length text) 256 ≡ false). let g = rw f at e in never (cc))
    (both (ltb (length text) 256))

module _ (s : State) (chunk text : List ℕ) (f : Fed) (is : f ≡ fed s chunk text) {k : ℕ} (e : f.answer ≡ refused k) where
  pub fed_same : (f.state ≡ s) × (f.text ≡ text)
  fed_same = let same = (fed_stays s chunk text (ap (λ (x : Fed). x.answer) (sym is) ∙ e)).0 in
      (ap (λ (x : Fed). x.state) (is ∙ same), ap (λ (x : Fed). x.text) (is ∙ same))

pub feed_refused : (d : Desk) (chunk text : List ℕ) (r : FedCode) (text' : List ℕ) {k : ℕ} → FeedKeeps d chunk text r text' → answer_says r.answer ≡ refused k
    → (r.desk ≡ d) × (text' ≡ text)
feed_refused d chunk text r text' kept e = let s = fed_same (state_of d) chunk text (fed_says r text') kept e in (same_desk r.desk d s.0, s.1)

pub feed_lent_refused : (d : Desk) (chunk text : List ℕ) (d' : Desk) (r : Result Feed Refusal) (text' : List ℕ) {k : ℕ} → FeedLentKeeps d chunk text d' r text' → answer_says r ≡ refused k
    → (d' ≡ d) × (text' ≡ text)
feed_lent_refused d chunk text d' r text' kept e = feed_refused d chunk text (record { desk = d'; answer = r }) text' kept e

pub feed_on_refused : (line : List ℕ) (state : StateCode) (sent chunk text : List ℕ) (r : FedParts) (line' text' : List ℕ) {k : ℕ}
    → FeedOnKeeps line state sent chunk text r line' text' → answer_says r.answer ≡ refused k
    → (line' ≡ line) × (r.state ≡ state) × (text' ≡ text)
feed_on_refused line state sent chunk text r line' text' kept e =
    let s = fed_same (state_in line state sent) chunk text (parts_says r line' sent text') kept e in
    (ap (λ (x : State). x.wire.bytes) s.0, same_state r.state state s.0, s.1)

-- in both modes
pub open_refused : (mode : Mode) (d : Desk) (request : Request) (first second out : List ℕ) (r : OpenedCode) (out' : List ℕ) {k : ℕ} → OpenKeeps mode d request first second out r out'
    → encoded_says r.answer ≡ refused k → (r.desk ≡ d) × (out' ≡ out)
open_refused mode d request first second out r out' kept e = let s = opened_same (state_of d) out _ _ kept e in (same_desk r.desk d s.0, s.1)

pub open_lent_refused : (mode : Mode) (d : Desk) (request : Request) (first second out : List ℕ) (d' : Desk) (r : Result ℕ Refusal) (out' : List ℕ) {k : ℕ}
    → OpenLentKeeps mode d request first second out d' r out' → encoded_says r ≡ refused k → (d' ≡ d) × (out' ≡ out)
open_lent_refused mode d request first second out d' r out' kept e = open_refused mode d request first second out (record { desk = d'; answer = r }) out' kept e

pub open_on_refused : (state : StateCode) (request : Request) (first second out : List ℕ) (r : OpenedParts) (out' : List ℕ) {k : ℕ}
    → OpenOnKeeps state request first second out r out' → encoded_says r.answer ≡ refused k → (r.state ≡ state) × (out' ≡ out)
open_on_refused state request first second out r out' kept e =
    let line : List ℕ = replicate 257 0 in
    let s = opened_same (state_in line state []) out _ _ (kept line [] refl) e in
    (same_state r.state state s.0, s.1)

pub open_echo_on_refused : (state : StateCode) (sent : List ℕ) (request : Request) (first second out : List ℕ) (r : OpenedParts) (sent' out' : List ℕ) {k : ℕ}
    → OpenEchoOnKeeps state sent request first second out r sent' out' → encoded_says r.answer ≡ refused k → (r.state ≡ state) × (sent' ≡ sent) × (out' ≡ out)
open_echo_on_refused state sent request first second out r sent' out' kept e =
    let line : List ℕ = replicate 257 0 in
    let s = opened_same (state_in line state sent) out _ _ (kept line refl) e in
    (same_state r.state state s.0, ap (λ (x : State). x.command.sent) s.0, s.1)

-- ---- a new desk, and one that was reset, is idle, awaits no echo and holds nothing: the next byte starts a line, and no line is counted

pub new_fresh : (viewed new_state ≡ fresh idle) × (new_state.command.counted ≡ 0)
new_fresh = (refl, refl)

pub reset_fresh : (s : State) → (viewed (reset_state s) ≡ fresh idle) × ((reset_state s).command.counted ≡ 0)
reset_fresh s = (refl, refl)

-- ---- a feed with no event leaves the command and the count; with one the ordinal is the next, and the count after it

pub quiet_keeps : (s : State) (chunk text : List ℕ) {m : ℕ} → (fed s chunk text).answer ≡ read (quiet m) → (fed s chunk text).state.command ≡ s.command
quiet_keeps s chunk text {m} = fed_cases (λ a k. a ≡ read (quiet m) → k ≡ s.command) s chunk text (λ e. refl) by
  where
    by : (n : ℕ) (o : Option Line) → let r = map (judge_kept s.command) o in read (heard_of n (event_of r)) ≡ read (quiet m) → command_of s.command r ≡ s.command
    by n none e = refl
    by n (some l) e = never (cc)

abbrev pub NextOrdinal : Kept → Reading Heard → Kept → Type 0
NextOrdinal k a k' = (x : Event) (ordinal m size : ℕ) → a ≡ read (event x ordinal m size) → (ordinal ≡ capped (suc k.counted)) × (k'.counted ≡ ordinal)

pub heard_counts : (s : State) (chunk text : List ℕ) → NextOrdinal s.command (fed s chunk text).answer (fed s chunk text).state.command
unfolding judge_kept
heard_counts s chunk text = fed_cases (NextOrdinal s.command) s chunk text (λ x ordinal m size e. never (cc)) by
  where
    by : (n : ℕ) (o : Option Line) → let r = map (judge_kept s.command) o in NextOrdinal s.command (read (heard_of n (event_of r))) (command_of s.command r)
    by n none x ordinal m size e = never (cc)
    by n (some l) x ordinal m size e = let is : capped (suc s.command.counted) ≡ ordinal = cc in (sym is, is)

-- ---- a feed changes nothing in the bytes that are kept

pub fed_sent : (s : State) (chunk text : List ℕ) → (fed s chunk text).state.command.sent ≡ s.command.sent
unfolding judge_kept
fed_sent s chunk text = fed_command (λ k. k.sent ≡ s.command.sent) s chunk text refl (λ l. refl)

-- ---- the text buffer stays without an event, and at Overlong

module _ (n : ℕ) (text : List ℕ) where
  quiet_text : (o : Option (Numbered Seen)) {m : ℕ} → read (heard_of n o) ≡ read (quiet m) → text_of o text ≡ text
  quiet_text none e = refl
  quiet_text (some x) e = never (cc)

  overlong_text : (k : Kept) (o : Option Line) {ordinal m size : ℕ} → read (heard_of n (event_of (map (judge_kept k) o))) ≡ read (event Overlong ordinal m size)
      → text_of (event_of (map (judge_kept k) o)) text ≡ text
  unfolding judge_kept judge
  overlong_text k none e = never (cc)
  overlong_text k (some overlong) e = refl
  overlong_text k (some (L.line l)) e = absurd (ruling_event line_sort (command_kept k).echo k.awaited l (cc))

module _ (s : State) (chunk text : List ℕ) where
  quiet_same : {m : ℕ} → (fed s chunk text).answer ≡ read (quiet m) → (fed s chunk text).text ≡ text
  unfolding fed
  quiet_same e =
      ⊎_elim (λ (f : ltb (length text) 256 ≡ true). rw f)
      (λ (f : ltb (length text) 256 ≡ false). let g = rw f at e in rw f (quiet_text (feed desk s chunk).taken text (feed desk s chunk).tell g))
      (both (ltb (length text) 256))

  overlong_same : {ordinal m size : ℕ} → (fed s chunk text).answer ≡ read (event Overlong ordinal m size) → (fed s chunk text).text ≡ text
  unfolding fed
  overlong_same e =
      let j = judged_feed judge_kept buffered chunk s in
      ⊎_elim (λ (f : ltb (length text) 256 ≡ true). rw f)
      (λ (f : ltb (length text) 256 ≡ false).
      let g = rw (f, j) at e in
      rw (f, j) (overlong_text (feed buffered s.wire chunk).taken text s.command (feed buffered s.wire chunk).tell g))
      (both (ltb (length text) 256))

  -- of any feed: `kept` is its contract
  module _ (f : Fed) (kept : f ≡ fed s chunk text) where
    pub quiet_stays : {m : ℕ} → f.answer ≡ read (quiet m) → f.text ≡ text
    quiet_stays e = ap (λ (x : Fed). x.text) kept ∙ quiet_same (ap (λ (x : Fed). x.answer) (sym kept) ∙ e)

    pub overlong_stays : {ordinal m size : ℕ} → f.answer ≡ read (event Overlong ordinal m size) → f.text ≡ text
    overlong_stays e = ap (λ (x : Fed). x.text) kept ∙ overlong_same (ap (λ (x : Fed). x.answer) (sym kept) ∙ e)

-- ---- a prompt is a line at once

pub prompt_line : (rest : List ℕ) → lines_of (bytes "> " ++ rest) ≡ L.line (bytes "> ") ∷ lines_of rest
unfolding tells cutter cut_one bare same starts_with ends_with
prompt_line rest = refl

pub prompt_taken : (rest : List ℕ) → feed cutter (held []) (bytes "> " ++ rest) ≡ record { taken = 2; tell = some (L.line (bytes "> ")); state = held [] }
unfolding feed cutter cut_one bare same starts_with ends_with
prompt_taken rest = refl
