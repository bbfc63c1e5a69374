-- No second answer keeps the contract of a call: what the code's types say on paper can be read back.
use Prim.Native.Nat.{ℕ}
use mathlib.Core.Path.{◌≡◌, refl, sym, ap, ◌∙◌}
use mathlib.Core.List.{List, [], ◌∷◌}
use Rattle.std.specs.Prelude.{Option, Some, None, Result}
use lib.ListN.{replicate}
use Rattle.text.specs.declared.refusal.Refusal.{Refusal}
use Rattle.text.proofs.One.{one_reading}
use Rattle.at_command.specs.Kind.{Kind}
use Rattle.at_command.specs.says.Request.{encoded_says}
use Rattle.at_command.specs.declared.request.Awaits.{Awaits}
use Rattle.at_command.specs.declared.request.Awaits.TheVariants.{One, Two}
use Rattle.at_command.specs.declared.request.Request.{Request}
use Rattle.at_command.proofs.OneRequest.{kind, kind_back}
use Rattle.desk.specs.Judge as J
use Rattle.desk.specs.Desk as D
use Rattle.desk.specs.Desk.{quiet, event}
use Rattle.desk.specs.Says.{command_says, event_says, feed_says, answer_says, state_in, state_of, opened_parts_says}
use Rattle.desk.specs.Keeps.{NewKeeps, ResetKeeps, FeedKeeps, FeedLentKeeps, FeedOnKeeps, OpenKeeps, OpenLentKeeps, OpenOnKeeps, OpenEchoOnKeeps}
use Rattle.desk.specs.Rules.{Mode}
use Rattle.desk.specs.declared.Event.{Event}
use Rattle.desk.specs.declared.Event.TheVariants as E
use Rattle.desk.specs.declared.State.{State}
use Rattle.desk.specs.declared.Desk.{Desk}
use Rattle.desk.specs.declared.feed.Heard.{Heard}
use Rattle.desk.specs.declared.feed.Feed.{Feed}
use Rattle.desk.specs.declared.feed.Fed.{Fed}
use Rattle.desk.specs.declared.feed.FedParts.{FedParts}
use Rattle.desk.specs.declared.open.Opened.{Opened}
use Rattle.desk.specs.declared.open.OpenedParts.{OpenedParts}

-- ---- read back

-- a command awaits at most two answers
unfoldable pub command_in : List Kind → Option Awaits
command_in [] = None
command_in (a ∷ []) = Some (One (kind a))
command_in (a ∷ b ∷ ks) = Some (Two (kind a) (kind b))

command_back : (c : Option Awaits) → command_in (command_says c).awaited ≡ c
unfolding command_in
command_back None = refl
command_back (Some (One a)) = rw (kind_back a)
command_back (Some (Two a b)) = rw (kind_back a, kind_back b)

unfoldable pub event_in : J.Event → Event
event_in J.Overlong = E.Overlong
event_in (J.Stray n) = E.Stray n
event_in J.Failed = E.Failed
event_in J.Taken = E.Taken
event_in J.Done = E.Done
event_in J.Short = E.Short
event_in J.Unsolicited = E.Unsolicited
event_in J.Echo = E.Echo

event_back : (e : Event) → event_in (event_says e) ≡ e
unfolding event_in
event_back E.Overlong = refl
event_back (E.Stray n) = refl
event_back E.Failed = refl
event_back E.Taken = refl
event_back E.Done = refl
event_back E.Short = refl
event_back E.Unsolicited = refl
event_back E.Echo = refl

unfoldable pub heard_in : D.Heard → Feed
heard_in (quiet n) = record { taken = n; heard = None }
heard_in (event e ordinal n size) = record { taken = n; heard = Some (record { event = event_in e; ordinal = ordinal; size = size }) }

heard_back : (f : Feed) → heard_in (feed_says f) ≡ f
unfolding heard_in
heard_back f = by f.heard
  where
    by : (h : Option Heard) → heard_in (feed_says (record { taken = f.taken; heard = h })) ≡ record { taken = f.taken; heard = h }
    by None = refl
    by (Some h) = ap (λ (e : Event). record { taken = f.taken; heard = Some (record { event = e; ordinal = h.ordinal; size = h.size }) }) (event_back h.event)

-- the state, and the desk that has it
abbrev pub state_from : D.State → State
state_from s = record { len = s.wire.len; command = command_in s.command.awaited; echo = s.command.size; counted = s.command.counted }

unfoldable pub desk_in : D.State → Desk
desk_in s = record { line = s.wire.bytes; sent = s.command.sent; state = state_from s }

state_back : (line sent : List ℕ) (s : State) → state_from (state_in line s sent) ≡ s
state_back line sent s = rw (command_back s.command)

desk_back : (d : Desk) → desk_in (state_of d) ≡ d
unfolding desk_in
desk_back d = rw (state_back d.line d.sent d.state)

-- ---- one answer

pub same_desk : (d d' : Desk) → state_of d ≡ state_of d' → d ≡ d'
same_desk d d' e = sym (desk_back d) ∙ ap desk_in e ∙ desk_back d'

-- the buffers that it stands with make no difference
pub same_state : (s s' : State) {line sent line' sent' : List ℕ} → state_in line s sent ≡ state_in line' s' sent' → s ≡ s'
same_state s s' {line} {sent} {line'} {sent'} e = sym (state_back line sent s) ∙ ap state_from e ∙ state_back line' sent' s'

same_answer : (a b : Result Feed Refusal) → answer_says a ≡ answer_says b → a ≡ b
same_answer a b e = one_reading feed_says heard_in heard_back a b _ e refl

same_encoded : (a b : Result ℕ Refusal) → encoded_says a ≡ encoded_says b → a ≡ b
same_encoded a b e = one_reading (λ n. n) (λ n. n) (λ n. refl) a b _ e refl

-- one answer: Desk::new
pub one_new : (r q : Desk) → NewKeeps r → NewKeeps q → r ≡ q
one_new r q e f = same_desk r q (e ∙ sym f)

-- of `reset_lent` the desk behind the reference
-- one answer: Desk::reset, Desk::reset_lent
pub one_reset : (d r q : Desk) → ResetKeeps d r → ResetKeeps d q → r ≡ q
one_reset d r q e f = same_desk r q (e ∙ sym f)

-- with the output buffer
-- one answer: Desk::open_in, Desk::open, Desk::open_echo
pub one_open : (mode : Mode) (d : Desk) (request : Request) (first second out : List ℕ) (r q : Opened) (out' out'' : List ℕ) → OpenKeeps mode d request first second out r out'
    → OpenKeeps mode d request first second out q out'' → (r ≡ q) × (out' ≡ out'')
one_open mode d request first second out r q out' out'' e f =
    let g = e ∙ sym f in
    let desk = same_desk r.desk q.desk (ap (λ (y : D.Opened). y.state) g) in
    let answer = same_encoded r.answer q.answer (ap (λ (y : D.Opened). y.answer) g) in
    (rw (desk, answer), ap (λ (y : D.Opened). y.out) g)

-- with the desk behind the reference and the output buffer
-- one answer: Desk::open_in_lent, Desk::open_lent, Desk::open_echo_lent
pub one_open_lent : (mode : Mode) (d : Desk) (request : Request) (first second out : List ℕ) (d' d'' : Desk) (r q : Result ℕ Refusal) (out' out'' : List ℕ)
    → OpenLentKeeps mode d request first second out d' r out' → OpenLentKeeps mode d request first second out d'' q out'' → (d' ≡ d'') × (r ≡ q) × (out' ≡ out'')
one_open_lent mode d request first second out d' d'' r q out' out'' e f =
    let g = e ∙ sym f in
    (same_desk d' d'' (ap (λ (y : D.Opened). y.state) g), same_encoded r q (ap (λ (y : D.Opened). y.answer) g), ap (λ (y : D.Opened). y.out) g)

same_parts : (r q : OpenedParts) {line sent sent' out out' : List ℕ} → opened_parts_says r line sent out ≡ opened_parts_says q line sent' out' → r ≡ q
same_parts r q g =
    let state = same_state r.state q.state (ap (λ (y : D.Opened). y.state) g) in
    let answer = same_encoded r.answer q.answer (ap (λ (y : D.Opened). y.answer) g) in
    rw (state, answer)

-- with the output buffer
-- one answer: open_on
pub one_open_on : (state : State) (request : Request) (first second out : List ℕ) (r q : OpenedParts) (out' out'' : List ℕ)
    → OpenOnKeeps state request first second out r out' → OpenOnKeeps state request first second out q out'' → (r ≡ q) × (out' ≡ out'')
one_open_on state request first second out r q out' out'' e f =
    let g = e (replicate 257 0) [] refl ∙ sym (f (replicate 257 0) [] refl) in
    (same_parts r q g, ap (λ (y : D.Opened). y.out) g)

-- with the bytes that are kept and the output buffer
-- one answer: open_echo_on
pub one_open_echo_on : (state : State) (sent : List ℕ) (request : Request) (first second out : List ℕ) (r q : OpenedParts) (sent' sent'' out' out'' : List ℕ)
    → OpenEchoOnKeeps state sent request first second out r sent' out' → OpenEchoOnKeeps state sent request first second out q sent'' out''
    → (r ≡ q) × (sent' ≡ sent'') × (out' ≡ out'')
one_open_echo_on state sent request first second out r q sent' sent'' out' out'' e f =
    let g = e (replicate 257 0) refl ∙ sym (f (replicate 257 0) refl) in
    (same_parts r q g, ap (λ (y : D.Opened). y.state.command.sent) g, ap (λ (y : D.Opened). y.out) g)

-- with the text buffer
-- one answer: Desk::feed
pub one_feed : (d : Desk) (chunk text : List ℕ) (r q : Fed) (text' text'' : List ℕ) → FeedKeeps d chunk text r text' → FeedKeeps d chunk text q text'' → (r ≡ q) × (text' ≡ text'')
one_feed d chunk text r q text' text'' e f =
    let g = e ∙ sym f in
    let desk = same_desk r.desk q.desk (ap (λ (y : D.Fed). y.state) g) in
    let answer = same_answer r.answer q.answer (ap (λ (y : D.Fed). y.answer) g) in
    (rw (desk, answer), ap (λ (y : D.Fed). y.text) g)

-- with the desk behind the reference and the text buffer
-- one answer: Desk::feed_lent
pub one_feed_lent : (d : Desk) (chunk text : List ℕ) (d' d'' : Desk) (r q : Result Feed Refusal) (text' text'' : List ℕ) → FeedLentKeeps d chunk text d' r text'
    → FeedLentKeeps d chunk text d'' q text'' → (d' ≡ d'') × (r ≡ q) × (text' ≡ text'')
one_feed_lent d chunk text d' d'' r q text' text'' e f =
    let g = e ∙ sym f in
    (same_desk d' d'' (ap (λ (y : D.Fed). y.state) g), same_answer r q (ap (λ (y : D.Fed). y.answer) g), ap (λ (y : D.Fed). y.text) g)

-- with the lent array and the text buffer
-- one answer: feed_on
pub one_feed_on : (line : List ℕ) (state : State) (sent chunk text : List ℕ) (r q : FedParts) (line' line'' text' text'' : List ℕ)
    → FeedOnKeeps line state sent chunk text r line' text' → FeedOnKeeps line state sent chunk text q line'' text'' → (r ≡ q) × (line' ≡ line'') × (text' ≡ text'')
one_feed_on line state sent chunk text r q line' line'' text' text'' e f =
    let g = e ∙ sym f in
    let state = same_state r.state q.state (ap (λ (y : D.Fed). y.state) g) in
    let answer = same_answer r.answer q.answer (ap (λ (y : D.Fed). y.answer) g) in
    (rw (state, answer), ap (λ (y : D.Fed). y.state.wire.bytes) g, ap (λ (y : D.Fed). y.text) g)
