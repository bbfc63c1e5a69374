-- The laws of a machine, once for all machines: bytes join, a feed tells what its bytes tell, and feeds together tell what all their bytes tell.
use Prim.Native.Nat.{ℕ, suc, ◌≤◌, ◌<◌}
use mathlib.Core.Path.{◌≡◌, refl, sym, ap, ◌∙◌}
use mathlib.Core.List.{List, [], ◌∷◌, ◌++◌}
use mathlib.Core.Option.{Option, none, some, map}
use native.Mathlib.Omega.{arith}
use lib.ListN.{length, take, drop, take-append-drop}
use Rattle.desk.specs.Machine.{Machine, Stop, shown, onward, tells, after, feed, told, taken, Ruled, Judging, command_of, event_of, judged, judge_all, command_after}

shown_join : {T : Type 0} (o : Option T) (l k : List T) → shown o l ++ k ≡ shown o (l ++ k)
shown_join none l k = refl
shown_join (some t) l k = refl

module _ {S T : Type 0} (m : Machine S T) where
  pub tells_join : (s : S) (bs rest : List ℕ) → tells m s (bs ++ rest) ≡ tells m s bs ++ tells m (after m s bs) rest
  unfolding tells after
  tells_join s [] rest = refl
  tells_join s (b ∷ bs) rest = ap (shown (m s b).tell) (tells_join (m s b).state bs rest) ∙ sym (shown_join (m s b).tell _ _)

  pub after_join : (s : S) (bs rest : List ℕ) → after m s (bs ++ rest) ≡ after m (after m s bs) rest
  unfolding after
  after_join s [] rest = refl
  after_join s (b ∷ bs) rest = after_join (m s b).state bs rest

  -- ---- one feed

  -- what holds of a feed of a chunk
  record IsFed (s : S) (chunk : List ℕ) (f : Stop S T) : Type 0 where
    pub tell_is : tells m s (take f.taken chunk) ≡ shown f.tell []
    pub state_is : after m s (take f.taken chunk) ≡ f.state

  fed_onward : (s : S) (b : ℕ) (bs : List ℕ) (f : Stop S T) (o : Option T) → (m s b).tell ≡ o → IsFed (m s b).state bs f → IsFed s (b ∷ bs) (onward o (m s b).state f)
  unfolding tells after
  fed_onward s b bs f none e h = record { tell_is = rw e h.tell_is; state_is = h.state_is }
  fed_onward s b bs f (some t) e h = record { tell_is = rw e; state_is = refl }

  is_fed : (s : S) (chunk : List ℕ) → IsFed s chunk (feed m s chunk)
  unfolding feed tells after
  is_fed s [] = record { tell_is = refl; state_is = refl }
  is_fed s (b ∷ bs) = fed_onward s b bs (feed m (m s b).state bs) (m s b).tell refl (is_fed (m s b).state bs)

  pub feed_tells : (s : S) (chunk : List ℕ) → tells m s (take (feed m s chunk).taken chunk) ≡ shown (feed m s chunk).tell []
  feed_tells s chunk = (is_fed s chunk).tell_is

  pub feed_after : (s : S) (chunk : List ℕ) → after m s (take (feed m s chunk).taken chunk) ≡ (feed m s chunk).state
  feed_after s chunk = (is_fed s chunk).state_is

  -- the bytes that a feed takes, and what comes after them
  pub feed_join : (s : S) (chunk rest : List ℕ) → tells m s (take (feed m s chunk).taken chunk ++ rest) ≡ shown (feed m s chunk).tell (tells m (feed m s chunk).state rest)
  feed_join s chunk rest =
      tells_join s (take (feed m s chunk).taken chunk) rest ∙ rw (feed_tells s chunk, feed_after s chunk) (shown_join (feed m s chunk).tell [] _)

  -- a feed takes at most all bytes, and at least one where there is one
  onward_most : (o : Option T) (s : S) (f : Stop S T) (n : ℕ) → f.taken ≤ n → (onward o s f).taken ≤ suc n
  onward_most none s f n h = omega arith
  onward_most (some t) s f n h = omega arith

  pub feed_most : (s : S) (chunk : List ℕ) → (feed m s chunk).taken ≤ length chunk
  unfolding feed
  feed_most s [] = omega arith
  feed_most s (b ∷ bs) = onward_most (m s b).tell (m s b).state (feed m (m s b).state bs) (length bs) (feed_most (m s b).state bs)

  onward_some : (o : Option T) (s : S) (f : Stop S T) → 0 < (onward o s f).taken
  onward_some none s f = omega arith
  onward_some (some t) s f = omega arith

  pub feed_some : (s : S) (b : ℕ) (bs : List ℕ) → 0 < (feed m s (b ∷ bs)).taken
  unfolding feed
  feed_some s b bs = onward_some (m s b).tell (m s b).state (feed m (m s b).state bs)

  -- and after what it leaves of the chunk the machine is where it is after the chunk
  pub feed_rest : (s : S) (chunk : List ℕ) → after m (feed m s chunk).state (drop (feed m s chunk).taken chunk) ≡ after m s chunk
  feed_rest s chunk =
      let n = (feed m s chunk).taken in
      ap (λ (x : S). after m x (drop n chunk)) (sym (feed_after s chunk)) ∙ sym (after_join s (take n chunk) (drop n chunk)) ∙ ap (after m s) (take-append-drop n chunk)

  -- ---- feeds one after the other

  pub told_tells : (s : S) (chunks : List (List ℕ)) → told m s chunks ≡ tells m s (taken m s chunks)
  unfolding told taken tells
  told_tells s [] = refl
  told_tells s (c ∷ cs) =
      let f = feed m s c in
      ap (shown f.tell) (told_tells f.state cs) ∙ sym (feed_join s c (taken m f.state cs))

-- ---- a machine seen through a view of its state: the one with the buffer, by what the buffer holds

module _ {S T Q : Type 0} (m : Machine S T) (q : Machine Q T) (f : S → Q) (same : (s : S) (b : ℕ) → q (f s) b ≡ record { state = f (m s b).state; tell = (m s b).tell }) where
  pub tells_along : (s : S) (bs : List ℕ) → tells q (f s) bs ≡ tells m s bs
  unfolding tells
  tells_along s [] = refl
  tells_along s (b ∷ bs) = rw (same s b) (ap (shown (m s b).tell) (tells_along (m s b).state bs))

  pub after_along : (s : S) (bs : List ℕ) → after q (f s) bs ≡ f (after m s bs)
  unfolding after
  after_along s [] = refl
  after_along s (b ∷ bs) = rw (same s b) (after_along (m s b).state bs)

-- ---- judged tells

module _ {C A B S : Type 0} (rule : C → A → Ruled C B) (m : Machine S A) where
  judged_shown : (c : C) (o : Option A) (l : List A) → shown (event_of (map (rule c) o)) (judge_all rule (command_of c (map (rule c) o)) l) ≡ judge_all rule c (shown o l)
  unfolding judge_all
  judged_shown c none l = refl
  judged_shown c (some a) l = refl

  judged_command : (c : C) (o : Option A) (l : List A) → command_after rule (command_of c (map (rule c) o)) l ≡ command_after rule c (shown o l)
  unfolding command_after
  judged_command c none l = refl
  judged_command c (some a) l = refl

  -- what the machine tells, judged
  pub judged_tells : (s : Judging S C) (bs : List ℕ) → tells (judged rule m) s bs ≡ judge_all rule s.command (tells m s.wire bs)
  unfolding tells judged judge_all
  judged_tells s [] = refl
  judged_tells s (b ∷ bs) =
      let o = (m s.wire b).tell in
      ap (shown (event_of (map (rule s.command) o))) (judged_tells (judged rule m s b).state bs) ∙ judged_shown s.command o _

  pub judged_after : (s : Judging S C) (bs : List ℕ)
      → after (judged rule m) s bs ≡ record { wire = after m s.wire bs; command = command_after rule s.command (tells m s.wire bs) }
  unfolding tells after judged command_after
  judged_after s [] = refl
  judged_after s (b ∷ bs) =
      let o = (m s.wire b).tell in
      judged_after (judged rule m s b).state bs
      ∙ ap (λ (c : C). record { wire = after m (m s.wire b).state bs; command = c }) (judged_command s.command o _)

  -- a feed judges once: where it stops is found with no command in sight
  abbrev pub judged_fed : Judging S C → Stop S A → Stop (Judging S C) B
  judged_fed s f =
      let r = map (rule s.command) f.tell in
      record { taken = f.taken; tell = event_of r; state = record { wire = f.state; command = command_of s.command r } }

  abbrev Quiet : Judging S C → ℕ → Judging S C
  Quiet s b = record { wire = (m s.wire b).state; command = s.command }

  judged_quiet : (s : Judging S C) (b : ℕ) → (m s.wire b).tell ≡ none → (judged rule m s b).state ≡ Quiet s b
  unfolding judged
  judged_quiet s b e = rw e

  judged_on : (s : Judging S C) (b : ℕ) (f : Stop S A) (g : Stop (Judging S C) B) (o : Option A) → (m s.wire b).tell ≡ o → (o ≡ none → g ≡ judged_fed (Quiet s b) f)
      → onward (judged rule m s b).tell (judged rule m s b).state g ≡ judged_fed s (onward o (m s.wire b).state f)
  unfolding judged
  judged_on s b f g none e more = rw (e, more refl)
  judged_on s b f g (some a) e more = rw e

  pub judged_feed : (chunk : List ℕ) (s : Judging S C) → feed (judged rule m) s chunk ≡ judged_fed s (feed m s.wire chunk)
  unfolding feed
  judged_feed [] s = refl
  judged_feed (b ∷ bs) s =
      judged_on s b (feed m (m s.wire b).state bs) (feed (judged rule m) (judged rule m s b).state bs) (m s.wire b).tell refl
      (λ e. ap (λ (x : Judging S C). feed (judged rule m) x bs) (judged_quiet s b e) ∙ judged_feed bs (Quiet s b))
