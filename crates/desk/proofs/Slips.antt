-- Bytes slipped in: what they tell, struck out, leaves what the machine tells without them; and complete unsolicited lines, and before an echo any but the echo,
-- may be slipped into a desk's bytes.
use Prim.Native.Nat.{ℕ}
use mathlib.Core.Path.{◌≡◌, refl, sym, ap, subst, ◌∙◌}
use mathlib.Core.Bool.{true, false}
use mathlib.Core.List.{List, [], ◌∷◌, ◌++◌, append-nil}
use mathlib.Core.Option.{Option, none, some, map}
use lib.Dec.{eqb}
use Rattle.text.specs.Reading.{read}
use Rattle.at_command.specs.Kind.{Kind}
use Rattle.text.specs.Bytes.{bytes, same, starts_with, ends_with}
use Rattle.desk.specs.Cut.{View, dropping, held, bare, cut_one}
use Rattle.trial.specs.Sort.{unsolicited, line_sort}
use Rattle.desk.specs.Machine.{Machine, shown, tells, after, Ruled, command_of, judged, judge_all, command_after}
use Rattle.desk.specs.Lines.{Line, overlong, line, cutter, lines_of, Whole}
use Rattle.desk.specs.Judge.{Unsolicited, Overlong, Seen, Command, awaiting, echoing, idle, is_echo, ruling, judge}
use Rattle.desk.specs.Rules.{events_of, Plain, plain, fresh}
use Rattle.desk.specs.Slips.{Leaves, keep, strike, Script, end, byte, slip, own_bytes, all_bytes}
use Rattle.desk.specs.Slips as Struck
use Rattle.desk.specs.Demand.{NoEcho, May, unasked, early, slipped_in}
use Rattle.desk.proofs.Machine.{tells_join, judged_tells, judged_after}
use Rattle.desk.proofs.Judging.{table_unsolicited, table_idle, echo_after}
use Rattle.desk.proofs.Commands.{echoes, Apart}

-- ---- the one law of slipped bytes, of any machine

shown_kept : {T : Type 0} (o : Option T) {all struck own : List T} → Leaves all struck own → Leaves (shown o all) struck (shown o own)
shown_kept none r = r
shown_kept (some x) r = keep r

all_struck : {T : Type 0} (l : List T) {all struck own : List T} → Leaves all struck own → Leaves (l ++ all) (l ++ struck) own
all_struck [] r = r
all_struck (x ∷ l) r = strike (all_struck l r)

all_kept : {T : Type 0} (l : List T) {all struck own : List T} → Leaves all struck own → Leaves (l ++ all) struck (l ++ own)
all_kept [] r = r
all_kept (x ∷ l) r = keep (all_kept l r)

none_struck : {T : Type 0} (l : List T) → Leaves l [] l
none_struck [] = Struck.none
none_struck (x ∷ l) = keep (none_struck l)

module _ {S T : Type 0} (m : Machine S T) (May : S → List ℕ → Type 0) where
  -- what is told of the bytes slipped in
  unfoldable pub slipped : {s : S} → Script m May s → List T
  slipped end = []
  slipped (byte b k) = slipped k
  slipped {s} (slip w u k) = tells m s w ++ slipped k

  -- From a state that is Good what may be slipped in leads back to where it began, and a byte leads to one that is Good.
  pub record Returns (Good : S → Type 0) : Type 0 where
    pub stays : (s : S) (b : ℕ) → Good s → Good (m s b).state
    pub back : (s : S) (w : List ℕ) → Good s → May s w → after m s w ≡ s

  module _ (Good : S → Type 0) (returns : Returns Good) where
    pub slips_leave : {s : S} (k : Script m May s) → Good s → Leaves (tells m s (all_bytes m May k)) (slipped k) (tells m s (own_bytes m May k))
    unfolding tells all_bytes own_bytes slipped
    slips_leave end g = Struck.none
    slips_leave {s} (byte b k) g = shown_kept (m s b).tell (slips_leave k (returns.stays s b g))
    slips_leave {s} (slip w u k) g = rw (tells_join m s w (all_bytes m May k), returns.back s w g u) (all_struck (tells m s w) (slips_leave k g))

-- ---- where lines may be slipped in: straight after the open, after an LF, and after a prompt

pub after_open : (c : Command) → (fresh c).wire ≡ held []
after_open c = refl

pub lf_view : (v : View) (b : ℕ) → eqb b 10 ≡ true → (cut_one v b).view ≡ held []
unfolding cut_one
lf_view dropping b e = rw e
lf_view (held h) b e = rw e

pub after_lf : (s : Plain) (b : ℕ) → eqb b 10 ≡ true → (plain s b).state.wire ≡ held []
unfolding judged cutter
after_lf s b e = lf_view s.wire b e

pub after_prompt : (s : Plain) → s.wire ≡ held (bytes ">") → (plain s 32).state.wire ≡ held []
unfolding judged cutter cut_one bare same starts_with ends_with
after_prompt s e = rw e

-- ---- whole lines, from a line's start, that leave the command as it was: they leave the desk as it was

module _ (s : Plain) (w : List ℕ) (start : s.wire ≡ held []) where
  whole_back : Whole w → command_after (judge line_sort) s.command (lines_of w) ≡ s.command → after plain s w ≡ s
  whole_back whole same =
      judged_after (judge line_sort) cutter s w
      ∙ ap (λ (v : View). record { wire = after cutter v w; command = command_after (judge line_sort) s.command (tells cutter v w) }) start
      ∙ rw (whole, same, sym start)

  line_tells : tells plain s w ≡ judge_all (judge line_sort) s.command (lines_of w)
  line_tells = judged_tells (judge line_sort) cutter s w ∙ ap (λ (v : View). judge_all (judge line_sort) s.command (tells cutter v w)) start

-- ---- a complete unsolicited line shows one event, and leaves the command as it was

abbrev Unasked : List ℕ → Ruled Command Seen → Command → Type 0
Unasked l r c = r ≡ record { command = c; event = record { event = Unsolicited; line = l } }

line_judged : (c : Command) → Apart c.echo → (l : List ℕ) → line_sort l ≡ read unsolicited → Unasked l (judge line_sort c (line l)) c
unfolding judge ruling
line_judged c apart l sort = by c.echo (apart l sort)
  where
    by : (o : Option (List ℕ)) → echoes o l ≡ false
        → (let r = ruling line_sort o c.awaited l in
        Unasked l (record { command = r.command; event = record { event = r.event; line = l } }) (record { echo = o; awaited = c.awaited }))
    by none e = rw (sort, table_unsolicited (awaiting c.awaited))
    by (some text) e = rw (e, sort, table_unsolicited idle)

-- ---- before the echo, lines of any kind but the echo itself show what an idle desk shows, and leave the command as it was

early_judged : (c : Command) (sent l : List ℕ) → c.echo ≡ some sent → is_echo sent l ≡ false
    → judge line_sort c (line l) ≡ record { command = c; event = (judge line_sort idle (line l)).event }
unfolding judge ruling
early_judged c sent l e f = rw (e, f)

overlong_judged : (c : Command) → judge line_sort c overlong ≡ record { command = c; event = record { event = Overlong; line = [] } }
unfolding judge
overlong_judged c = refl

idle_stays : (l : Line) → (judge line_sort idle l).command ≡ idle
unfolding judge ruling
idle_stays overlong = refl
idle_stays (line l) = table_idle (line_sort l)

module _ (c : Command) (sent : List ℕ) (awaited : c.echo ≡ some sent) where
  early_command : (ls : List Line) → NoEcho sent ls → command_after (judge line_sort) c ls ≡ c
  unfolding command_after
  early_command [] h = refl
  early_command (overlong ∷ ls) h = rw (overlong_judged c) (early_command ls h)
  early_command (line l ∷ ls) h = rw (early_judged c sent l awaited h.0) (early_command ls h.1)

  early_events : (ls : List Line) → NoEcho sent ls → judge_all (judge line_sort) c ls ≡ judge_all (judge line_sort) idle ls
  unfolding judge_all
  early_events [] h = refl
  early_events (overlong ∷ ls) h = rw (overlong_judged c, overlong_judged idle) (ap (λ (es : List Seen). record { event = Overlong; line = [] } ∷ es) (early_events ls h))
  early_events (line l ∷ ls) h = rw (early_judged c sent l awaited h.0, idle_stays (line l)) (ap (λ (es : List Seen). (judge line_sort idle (line l)).event ∷ es) (early_events ls h.1))

-- ---- both may be slipped in

abbrev pub Good : Plain → Type 0
Good s = Apart s.command.echo

good_stays : (s : Plain) (b : ℕ) → Good s → Good (plain s b).state
unfolding judged
good_stays s b g = by (cutter s.wire b).tell
  where
    by : (o : Option Line) → Apart (command_of s.command (map (judge line_sort s.command) o)).echo
    by none = g
    by (some l) = echo_after line_sort Apart (λ t e. refl) s.command g l

command_kept_lem : (s : Plain) (w : List ℕ) → Good s → May s w → command_after (judge line_sort) s.command (lines_of w) ≡ s.command
unfolding command_after
command_kept_lem s w g (unasked l start whole is sort) =
    ap (command_after (judge line_sort) s.command) is ∙ ap (λ (r : Ruled Command Seen). r.command) (line_judged s.command g l sort)
command_kept_lem s w g (early sent start whole awaited other) = early_command s.command sent awaited (lines_of w) other

may_back : (s : Plain) (w : List ℕ) → Good s → May s w → after plain s w ≡ s
may_back s w g u = whole_back s w (start_of u) (whole_of u) (command_kept_lem s w g u)
  where
    start_of : May s w → s.wire ≡ held []
    start_of (unasked l start whole is sort) = start
    start_of (early sent start whole awaited other) = start

    whole_of : May s w → Whole w
    whole_of (unasked l start whole is sort) = whole
    whole_of (early sent start whole awaited other) = whole

pub returns : Returns plain May Good
returns = record { stays = good_stays; back = may_back }

pub slipped_events : {s : Plain} (k : Script plain May s) → Good s → slipped plain May k ≡ slipped_in k
unfolding slipped slipped_in judge_all
slipped_events end g = refl
slipped_events {s} (byte b k) g = slipped_events k (good_stays s b g)
slipped_events {s} (slip w (unasked l start whole is sort) k) g =
    rw (line_tells s w start, is, line_judged s.command g l sort) (ap (λ (es : List Seen). record { event = Unsolicited; line = l } ∷ es) (slipped_events k g))
slipped_events {s} (slip w (early sent start whole awaited other) k) g =
    rw (line_tells s w start, early_events s.command sent awaited (lines_of w) other) (ap (λ (es : List Seen). events_of idle w ++ es) (slipped_events k g))

-- ---- the same with no script: behind whole lines that have no echo the desk is as it was after the open

module _ (sent : List ℕ) (ks : List Kind) (before w rest : List ℕ) (whole₁ : Whole before) (none₁ : NoEcho sent (lines_of before)) (whole₂ : Whole w) (none₂ : NoEcho sent (lines_of w)) where
  abbrev s₀ : Plain
  s₀ = fresh (echoing sent ks)

  joins : (v r : List ℕ) → Whole v → NoEcho sent (lines_of v) → tells plain s₀ (v ++ r) ≡ tells plain s₀ v ++ tells plain s₀ r
  joins v r h n =
      tells_join plain s₀ v r
      ∙ ap (λ (s : Plain). tells plain s₀ v ++ tells plain s r) (whole_back s₀ v refl h (early_command (echoing sent ks) sent refl (lines_of v) n))

  own_tells : tells plain s₀ (before ++ rest) ≡ tells plain s₀ before ++ tells plain s₀ rest
  own_tells = joins before rest whole₁ none₁

  all_tells : tells plain s₀ (before ++ (w ++ rest)) ≡ tells plain s₀ before ++ (events_of idle w ++ tells plain s₀ rest)
  all_tells =
      joins before (w ++ rest) whole₁ none₁
      ∙ ap (λ (l : List Seen). tells plain s₀ before ++ l)
      (joins w rest whole₂ none₂ ∙ ap (λ (l : List Seen). l ++ tells plain s₀ rest) (line_tells s₀ w refl ∙ early_events (echoing sent ks) sent refl (lines_of w) none₂))

  pub early_leaves : Leaves (tells plain s₀ (before ++ (w ++ rest))) (events_of idle w) (tells plain s₀ (before ++ rest))
  early_leaves =
      rw (all_tells, own_tells)
      (all_kept (tells plain s₀ before)
      (subst (λ (l : List Seen). Leaves (events_of idle w ++ tells plain s₀ rest) l (tells plain s₀ rest)) (append-nil (events_of idle w))
      (all_struck (events_of idle w) (none_struck (tells plain s₀ rest)))))
