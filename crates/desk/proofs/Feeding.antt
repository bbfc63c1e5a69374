-- Laws of a feed: a line has at most 256 bytes, what is made of a line, and a search with its ruling is the feed.
use Prim.Native.Nat.{ℕ, suc, ◌+◌, ◌≤◌, ◌<◌}
use mathlib.Core.Path.{◌≡◌, refl, sym, ap, ◌∙◌}
use mathlib.Core.Bool.{true, false}
use mathlib.Core.Logic.{⊎_elim}
use mathlib.Core.List.{List, [], ◌∷◌, ◌++◌}
use mathlib.Core.Option.{Option, none, some, map}
use Rattle.std.specs.Prelude as C
use native.Mathlib.Omega.{arith}
use lib.ListN.{length, take, drop, length-take}
use lib.Seq.{length-take-le}
use lib.Dec.{ltb, eqb}
use borrow.Author.Tests.{lt-ltb, le-ltb, ltb-false}
use Rattle.text.specs.Reading.{Reading, read, refused}
use Rattle.desk.specs.Cut.{View, dropping, held, bare, long, is_prompt, ended, cut_one}
use Rattle.desk.specs.Machine.{Stop, onward, feed, Ruled, command_of, event_of}
use Rattle.desk.specs.Ordinal.{capped, Numbered}
use Rattle.desk.specs.Lines.{Line, overlong, line, line_of}
use Rattle.desk.specs.Judge as J
use Rattle.desk.specs.Judge.{Seen, judge}
use Rattle.desk.specs.Desk as H
use Rattle.desk.specs.Desk.{Tray, Kept, State, view_of, lay_one, buffered, judge_kept, Heard, event, heard_of, fed}
use Rattle.desk.specs.Search.{found_after, Judges, Tells}
use Rattle.desk.specs.Says.{found_line, size_of}
use Rattle.desk.specs.declared.cutter.Piece.{Piece as PieceCode}
use Rattle.desk.specs.declared.cutter.Piece.TheVariants as P
use Rattle.text.specs.Copy.{LayKeeps}
use Rattle.text.proofs.Copying.{whole_holds}
use Rattle.text.proofs.Tests.{both}
use Rattle.desk.proofs.Machine.{judged_feed}
use Rattle.desk.proofs.Cutting.{prompt_length}

-- ---- a line has at most 256 bytes

abbrev line_size : Option Line → ℕ
line_size none = 0
line_size (some overlong) = 0
line_size (some (line l)) = length l

ended_size : (l : List ℕ) → line_size (line_of (ended l)) ≤ 256
ended_size l =
    ⊎_elim (λ e. rw e (omega arith))
    (λ e. rw e (⊎_elim (λ f. rw f (omega arith)) (λ f. rw f (ltb-false 256 (length l) e)) (both (eqb (length l) 0))))
    (both (long l))

cut_size : (v : View) (b : ℕ) → line_size (line_of (cut_one v b).piece) ≤ 256
unfolding cut_one
cut_size dropping b = ⊎_elim (λ e. rw e (omega arith)) (λ e. rw e (omega arith)) (both (eqb b 10))
cut_size (held h) b =
    ⊎_elim (λ e. rw e (ended_size (bare h)))
    (λ e. rw e
    (⊎_elim (λ f. rw f (omega arith))
    (λ f. rw f (⊎_elim (λ g. rw g (omega (arith, prompt_length (h ++ b ∷ []) g))) (λ g. rw g (omega arith)) (both (is_prompt (h ++ b ∷ [])))))
    (both (long (bare (h ++ b ∷ []))))))
    (both (eqb b 10))

onward_size : (o : Option Line) (t : Tray) (f : Stop Tray Line) → line_size o ≤ 256 → line_size f.tell ≤ 256 → line_size (onward o t f).tell ≤ 256
onward_size none t f h g = g
onward_size (some l) t f h g = h

feed_size : (t : Tray) (bs : List ℕ) → line_size (feed buffered t bs).tell ≤ 256
unfolding feed buffered
feed_size t [] = omega arith
feed_size t (b ∷ bs) = onward_size (line_of (cut_one (view_of t) b).piece) (lay_one t b) (feed buffered (lay_one t b) bs) (cut_size (view_of t) b) (feed_size (lay_one t b) bs)

size_in_lem : (p : C.Option PieceCode) (s : List ℕ) → length s ≡ 257 → line_size (found_line p s) ≤ 256 → size_of p ≤ 256
size_in_lem C.None s e h = omega arith
size_in_lem (C.Some P.Overlong) s e h = omega arith
size_in_lem (C.Some (P.Line n)) s e h = omega (arith, length-take n s)

-- the line that a search stops at lies in the array, and has room in a text buffer of 256
pub found_size : (t : Tray) (chunk : List ℕ) (p : C.Option PieceCode) (s : List ℕ) {f : Stop Tray Line} → f.tell ≡ found_line p s → f ≡ found_after 0 t chunk → length s ≡ 257 → size_of p ≤ 256
found_size t chunk p s g e full =
    size_in_lem p s full (rw (sym g ∙ ap (λ (x : Stop Tray Line). x.tell) e) (feed_size t chunk))

-- ---- what is made of a line

module _ (k : Kept) (n : ℕ) (text : List ℕ) where
  pub ruled_none : Tells k none n text k (read (H.quiet n)) text
  ruled_none = record { commands = refl; answers = refl; texts = refl }

  -- the line's ordinal is the count after it
  pub ruled_overlong : {k' : Kept} → k' ≡ (judge_kept k overlong).command → Tells k (some overlong) n text k' (read (event J.Overlong k'.counted n 0)) text
  unfolding judge_kept judge
  ruled_overlong e = record { commands = e; answers = rw e; texts = refl }

  judged_counts : {l : List ℕ} {k' : Kept} {e : J.Event} → Judges k l k' e → k'.counted ≡ capped (suc k.counted)
  unfolding judge_kept
  judged_counts j = ap (λ (x : Ruled Kept (Numbered Seen)). x.command.counted) j

  pub ruled_line : (s : List ℕ) (size : ℕ) {k' : Kept} {e : J.Event} {after : List ℕ} → size ≤ length s → Judges k (take size s) k' e → after ≡ take size s ++ drop size text
      → Tells k (some (line (take size s))) n text k' (read (event e k'.counted n size)) after
  ruled_line s size h j f =
      let few = length-take-le size s h in
      record { commands = ap (λ (x : Ruled Kept (Numbered Seen)). x.command) j; answers = rw (← j, few, judged_counts j); texts = rw (← j, few) f }

-- the line is laid at the front of the text buffer
pub laid_front : (s text : List ℕ) (size e : ℕ) (after : List ℕ) → size ≤ length s → size ≤ length text → LayKeeps (take size s) 0 text e after → after ≡ take size s ++ drop size text
laid_front s text size e after h g l =
    let k = length-take-le size s h in
    let n : 0 + length (take size s) ≡ size = omega arith in
    whole_holds (take size s) 0 text e after (omega arith) l ∙ ap (λ (m : ℕ). take size s ++ drop m text) n

-- ---- the search and the ruling are the feed

pub fed_refused : (s : State) (chunk text : List ℕ) → length text < 256 → record { state = s; answer = refused 10; text = text } ≡ fed s chunk text
unfolding fed
fed_refused s chunk text h = rw (lt-ltb (length text) 256 h)

found_whole : (t : Tray) (chunk : List ℕ) → found_after 0 t chunk ≡ feed buffered t chunk
found_whole t chunk = let e : 0 + (feed buffered t chunk).taken ≡ (feed buffered t chunk).taken = omega arith in rw e

pub fed_ruled : (s : State) (chunk text : List ℕ) {f : Stop Tray Line} {t : Tray} {k : Kept} {answer : Reading Heard} {after : List ℕ} → f ≡ found_after 0 s.wire chunk → 256 ≤ length text
    → Tells s.command f.tell f.taken text k answer after → t ≡ f.state
    → record { state = record { wire = t; command = k }; answer = answer; text = after } ≡ fed s chunk text
unfolding fed
fed_ruled s chunk text e h r w =
    rw (w, r.commands, r.answers, r.texts, e ∙ found_whole s.wire chunk, le-ltb (length text) 256 h, judged_feed judge_kept buffered chunk s)

-- ---- what a feed answers and keeps: it is refused, or a search told a line or none

pub fed_cases : (P : Reading Heard → Kept → Type 0) (s : State) (chunk text : List ℕ) → P (refused 10) s.command
    → ((n : ℕ) (o : Option Line) → let r = map (judge_kept s.command) o in P (read (heard_of n (event_of r))) (command_of s.command r))
    → P (fed s chunk text).answer (fed s chunk text).state.command
unfolding fed
fed_cases P s chunk text p q =
    ⊎_elim (λ (f : ltb (length text) 256 ≡ true). rw f p)
    (λ (f : ltb (length text) 256 ≡ false). rw (f, judged_feed judge_kept buffered chunk s) (q (feed buffered s.wire chunk).taken (feed buffered s.wire chunk).tell))
    (both (ltb (length text) 256))

-- the command after a feed is the one before it, or the one after a line
pub fed_command : (P : Kept → Type 0) (s : State) (chunk text : List ℕ) → P s.command → ((l : Line) → P (judge_kept s.command l).command) → P (fed s chunk text).state.command
fed_command P s chunk text p q = fed_cases (λ a k. P k) s chunk text p (λ n o. by o)
  where
    by : (o : Option Line) → P (command_of s.command (map (judge_kept s.command) o))
    by none = p
    by (some l) = q l
