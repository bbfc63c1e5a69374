-- A machine takes bytes one at a time, and at some of them it tells something. A feed of a chunk stops at the first byte that tells. So "the search stops at
-- the first byte that yields an event" (document 01, "The desk (added)"), for any machine.
use Rattle.std.specs.Prelude.{ℕ, suc, List, [], ◌∷◌, ◌++◌, take}
use Rattle.std.proofs.Math.Option.{Option, none, some, map}

pub record Step (S T : Type 0) : Type 0 where
  pub state : S
  pub tell : Option T

abbrev pub Machine : Type 0 → Type 0 → Type 0
Machine S T = S → ℕ → Step S T

-- where a feed of a chunk stops: how many bytes it took, what was told there, and the state that it left
pub record Stop (S T : Type 0) : Type 0 where
  pub taken : ℕ
  pub tell : Option T
  pub state : S

abbrev pub shown : {T : Type 0} → Option T → List T → List T
shown none l = l
shown (some t) l = t ∷ l

-- a byte that tells stops the feed
abbrev pub onward : {S T : Type 0} → Option T → S → Stop S T → Stop S T
onward (some t) s f = record { taken = 1; tell = some t; state = s }
onward none s f = record { taken = suc f.taken; tell = f.tell; state = f.state }

module _ {S T : Type 0} (m : Machine S T) where
  -- all that bytes tell, and the state after them: no chunk is in sight
  unfoldable pub tells : S → List ℕ → List T
  tells s [] = []
  tells s (b ∷ bs) = shown (m s b).tell (tells (m s b).state bs)

  unfoldable pub after : S → List ℕ → S
  after s [] = s
  after s (b ∷ bs) = after (m s b).state bs

  -- one feed
  unfoldable pub feed : S → List ℕ → Stop S T
  feed s [] = record { taken = 0; tell = none; state = s }
  feed s (b ∷ bs) = onward (m s b).tell (m s b).state (feed (m s b).state bs)

  -- feeds one after the other: what they told, and the bytes that they took
  unfoldable pub told : S → List (List ℕ) → List T
  told s [] = []
  told s (c ∷ cs) = shown (feed s c).tell (told (feed s c).state cs)

  unfoldable pub taken : S → List (List ℕ) → List ℕ
  taken s [] = []
  taken s (c ∷ cs) = take (feed s c).taken c ++ taken (feed s c).state cs

-- ---- a machine whose tells are judged, each by a rule that has a state of its own

pub record Ruled (C B : Type 0) : Type 0 where
  pub command : C
  pub event : B

pub record Judging (S C : Type 0) : Type 0 where
  pub wire : S
  pub command : C

abbrev pub command_of : {C B : Type 0} → C → Option (Ruled C B) → C
command_of c none = c
command_of c (some r) = r.command

abbrev pub event_of : {C B : Type 0} → Option (Ruled C B) → Option B
event_of none = none
event_of (some r) = some r.event

module _ {C A B : Type 0} (rule : C → A → Ruled C B) where
  unfoldable pub judged : {S : Type 0} → Machine S A → Machine (Judging S C) B
  judged m s b =
      let r = map (rule s.command) (m s.wire b).tell in
      record { state = record { wire = (m s.wire b).state; command = command_of s.command r }; tell = event_of r }

  -- the events of a list, and the command after it
  unfoldable pub judge_all : C → List A → List B
  judge_all c [] = []
  judge_all c (a ∷ l) = (rule c a).event ∷ judge_all (rule c a).command l

  unfoldable pub command_after : C → List A → C
  command_after c [] = c
  command_after c (a ∷ l) = command_after (rule c a).command l
