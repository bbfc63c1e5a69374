-- An event's ordinal counts the lines of the bytes that were fed (specs/Traced.antt): since it was opened or reset, a desk's count is that of the lines it was fed, and
-- its buffer holds what the cutter holds after these bytes.
use Prim.Native.Nat.{ℕ, suc}
use mathlib.Core.Path.{◌≡◌, refl, sym, ap, subst, ◌∙◌}
use mathlib.Core.List.{List, [], ◌∷◌, ◌++◌, append-nil}
use mathlib.Core.Option.{Option, none, some, map}
use native.Mathlib.Omega.{arith}
use lib.ListN.{length, take, length-append}
use Rattle.trial.specs.Sort.{line_sort}
use Rattle.text.proofs.Tests.{never}
use Rattle.desk.specs.Cut.{View, held}
use Rattle.desk.specs.Machine.{Stop, shown, tells, after, feed, command_of, event_of}
use Rattle.desk.specs.Ordinal.{capped, Numbered, numbered}
use Rattle.desk.specs.Lines.{Line, overlong, line, cutter, lines_of}
use Rattle.desk.specs.Judge.{Seen, Command, ruling, judge}
use Rattle.desk.specs.Judge as J
use Rattle.desk.specs.Rules.{Plain}
use Rattle.desk.specs.Desk.{State, Tray, command_kept, view_of, buffered, judge_kept, new_state, reset_state}
use Rattle.desk.specs.Says.{state_of}
use Rattle.desk.specs.Demand.{Turn, Openings, Feeds}
use Rattle.desk.specs.Traced.{own_line, Traced, Since, opened, reset, fed, EventsTraced, QuietTraced}
use Rattle.desk.specs.Calls as By
use Rattle.desk.specs.Calls.{DeskOpens, DeskFeeds, DeskResets}
use Rattle.desk.proofs.Machine.{tells_join, after_join, feed_tells, feed_after, after_along, judged_feed}
use Rattle.desk.proofs.Numbering.{capped_few, capped_many, capped_next}
use Rattle.desk.proofs.Judging.{ruling_event}
use Rattle.desk.proofs.Demand.{same_lines, same_told, Sound, desk_sound}

-- the line that is judged is the event's own
judged_own : (c : Command) (l : Line) → own_line (judge line_sort c l).event ≡ l
unfolding judge
judged_own c overlong = refl
judged_own c (line l) = go (ruling line_sort c.echo c.awaited l).event refl
  where
    go : (e : J.Event) → (ruling line_sort c.echo c.awaited l).event ≡ e → own_line (record { event = e; line = l }) ≡ line l
    go J.Overlong f = absurd (ruling_event line_sort c.echo c.awaited l f)
    go (J.Stray n) f = refl
    go J.Failed f = refl
    go J.Taken f = refl
    go J.Done f = refl
    go J.Short f = refl
    go J.Unsolicited f = refl
    go J.Echo f = refl

-- ---- where a desk stands that was fed these bytes

pub record Stands (bytes : List ℕ) (s : State) : Type 0 where
  pub holds : view_of s.wire ≡ after cutter (held []) bytes
  pub counts : s.command.counted ≡ capped (length (lines_of bytes))

-- no byte yet, nothing held, and no line counted
pub stands_first : (s : State) → view_of s.wire ≡ held [] → s.command.counted ≡ 0 → Stands [] s
unfolding tells after
stands_first s v n = record { holds = v; counts = n ∙ sym (capped_few 0 (omega arith)) }

-- what a search tells, after these bytes
module _ (before : List ℕ) (s : State) (at : Stands before s) (chunk : List ℕ) where
  abbrev Search : Stop Tray Line
  Search = feed buffered s.wire chunk

  abbrev Bytes : List ℕ
  Bytes = take Search.taken chunk

  search_lines : lines_of (before ++ Bytes) ≡ lines_of before ++ shown Search.tell []
  search_lines =
      tells_join cutter (held []) before Bytes
      ∙ ap (λ (v : View). lines_of before ++ tells cutter v Bytes) (sym at.holds)
      ∙ ap (λ (ls : List Line). lines_of before ++ ls) (same_told s.wire Bytes ∙ feed_tells buffered s.wire chunk)

  search_holds : view_of Search.state ≡ after cutter (held []) (before ++ Bytes)
  search_holds =
      ap view_of (sym (feed_after buffered s.wire chunk))
      ∙ sym (after_along buffered cutter view_of same_lines s.wire Bytes)
      ∙ ap (λ (v : View). after cutter v Bytes) at.holds
      ∙ sym (after_join cutter (held []) before Bytes)

  no_line : Search.tell ≡ none → lines_of (before ++ Bytes) ≡ lines_of before
  no_line e = search_lines ∙ ap (λ (o : Option Line). lines_of before ++ shown o []) e ∙ append-nil (lines_of before)

  a_line : (l : Line) → Search.tell ≡ some l → lines_of (before ++ Bytes) ≡ lines_of before ++ l ∷ []
  a_line l e = search_lines ∙ ap (λ (o : Option Line). lines_of before ++ shown o []) e

  abbrev Next : Option Line → State
  Next o = record { wire = Search.state; command = command_of s.command (map (judge_kept s.command) o) }

  -- one line more, where one is told
  one_more : (l : Line) → length (lines_of before ++ l ∷ []) ≡ suc (length (lines_of before))
  one_more l = omega (arith, length-append (lines_of before) (l ∷ []))

  ordinal_is : (l : Line) → capped (suc s.command.counted) ≡ capped (length (lines_of before ++ l ∷ []))
  ordinal_is l = ap (λ (n : ℕ). capped (suc n)) at.counts ∙ capped_next (length (lines_of before)) ∙ ap capped (sym (one_more l))

  stands_on : (o : Option Line) → Search.tell ≡ o → Stands (before ++ Bytes) (Next o)
  unfolding judge_kept
  stands_on none e = record { holds = search_holds; counts = at.counts ∙ ap (λ (ls : List Line). capped (length ls)) (sym (no_line e)) }
  stands_on (some l) e = record { holds = search_holds; counts = ordinal_is l ∙ ap (λ (ls : List Line). capped (length ls)) (sym (a_line l e)) }

  heard_traced : (o : Option Line) → Search.tell ≡ o → (x : Numbered Seen) → event_of (map (judge_kept s.command) o) ≡ some x → Traced before Bytes x
  unfolding judge_kept
  heard_traced none e x f = never (cc)
  heard_traced (some l) e x f =
      let c = command_kept s.command in
      let is : numbered s.command.counted (judge line_sort c l).event ≡ x = cc in
      let own : own_line x.tell ≡ l = ap (λ (y : Numbered Seen). own_line y.tell) (sym is) ∙ judged_own c l in
      let lines = a_line l e in
      let ordinal : x.ordinal ≡ capped (length (lines_of (before ++ Bytes))) =
      ap (λ (y : Numbered Seen). y.ordinal) (sym is) ∙ ordinal_is l ∙ ap (λ (ls : List Line). capped (length ls)) (sym lines) in
      record { lines = rw own lines; counts = λ h. ordinal ∙ capped_few _ h; stays = λ h. ordinal ∙ capped_many _ h }

  quiet_traced : (o : Option Line) → Search.tell ≡ o → event_of (map (judge_kept s.command) o) ≡ none → lines_of (before ++ Bytes) ≡ lines_of before
  quiet_traced none e f = no_line e
  quiet_traced (some l) e f = never (cc)

-- ---- of every family of calls of which this holds

module _ (Opens : Openings) (Resets : State → Type 0) (Fed : Feeds) (sound : Sound Opens Fed) (resets : (s : State) → Resets s → Stands [] s) where
  -- what holds of the search holds of the feed that is one
  by_search : (P : ℕ → Option (Numbered Seen) → State → Type 0) (s s' : State) (t : Turn) → Fed s t s'
      → (let f = feed buffered s.wire t.chunk in
      let r = map (judge_kept s.command) f.tell in
      P f.taken (event_of r) (record { wire = f.state; command = command_of s.command r }))
      → P t.taken t.seen s'
  by_search P s s' t call p =
      subst (λ (f : Stop State (Numbered Seen)). P f.taken f.tell f.state) (sym (judged_feed judge_kept buffered t.chunk s) ∙ sound.feeds s s' t call) p

  since_stands : {bytes : List ℕ} {s : State} → Since Opens Resets Fed bytes s → Stands bytes s
  since_stands (opened {s} {s'} {c} call) = let begins = sound.opens s s' c call in stands_first s' (ap (λ (p : Plain). p.wire) begins.view) begins.none
  since_stands (reset {s} call) = resets s call
  since_stands (fed {bytes} {s} {s'} {t} more call) =
      by_search (λ n o s''. Stands (bytes ++ take n t.chunk) s'') s s' t call (stands_on bytes s (since_stands more) t.chunk _ refl)

  pub events_traced : EventsTraced Opens Resets Fed
  events_traced before s s' t since call =
      by_search (λ n o s''. (x : Numbered Seen) → o ≡ some x → Traced before (take n t.chunk) x) s s' t call (heard_traced before s (since_stands since) t.chunk _ refl)

  pub quiets_traced : QuietTraced Opens Resets Fed
  quiets_traced before s s' t since call =
      by_search (λ n o s''. o ≡ none → lines_of (before ++ take n t.chunk) ≡ lines_of before) s s' t call (quiet_traced before s (since_stands since) t.chunk _ refl)

-- ---- the desk's own calls

pub desk_resets : (s : State) → DeskResets s → Stands [] s
desk_resets s (By.new d kept) = subst (Stands []) (sym kept) (stands_first new_state refl refl)
desk_resets s (By.reset d d' kept) = subst (Stands []) (sym kept) (stands_first (reset_state (state_of d)) refl refl)

pub desk_traced : EventsTraced DeskOpens DeskResets DeskFeeds
desk_traced = events_traced DeskOpens DeskResets DeskFeeds desk_sound desk_resets

pub desk_quiet : QuietTraced DeskOpens DeskResets DeskFeeds
desk_quiet = quiets_traced DeskOpens DeskResets DeskFeeds desk_sound desk_resets
