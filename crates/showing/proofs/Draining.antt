-- A turn of the loop: a feed takes some of what is left, none is passed over, and what is left then brings the desk to where the whole chunk brings it.
use Prim.Native.Nat.{ℕ, ◌≤◌, ◌<◌}
use mathlib.Core.Path.{◌≡◌, sym, ap, ◌∙◌}
use mathlib.Core.List.{List, [], ◌∷◌}
use native.Mathlib.Omega.{arith}
use lib.ListN.{length, drop}
use Rattle.desk.specs.Machine.{Stop, after, feed}
use Rattle.desk.specs.Ordinal.{Numbered}
use Rattle.desk.specs.Judge.{Seen}
use Rattle.desk.specs.Desk.{State, desk, after_bytes, Fed}
use Rattle.desk.specs.Says.{answer_says, state_of, fed_lent_says}
use Rattle.desk.specs.Keeps.{FeedLentKeeps}
use Rattle.desk.specs.Demand.{accepts, taken_by}
use Rattle.desk.specs.declared.Desk.{Desk}
use Rattle.std.specs.Prelude.{Result}
use Rattle.text.specs.declared.refusal.Refusal.{Refusal}
use Rattle.desk.specs.declared.feed.Feed.{Feed}
use Rattle.desk.proofs.Machine.{feed_most, feed_some, feed_rest}
use Rattle.desk.proofs.Demand.{IsFeed, kept_feed}
use Rattle.desk.proofs.Lives.{fed_accepts}

some_taken : (s : State) (rest : List ℕ) → 0 < length rest → 0 < (feed desk s rest).taken
some_taken s [] h = absurd (omega arith)
some_taken s (b ∷ bs) h = feed_some desk s b bs

-- a turn that takes n bytes: some, none past the end, and what is left then brings the desk to `all`
pub record Turn (rest : List ℕ) (all : State) (d : Desk) (n : ℕ) : Type 0 where
  pub most : n ≤ length rest
  pub some : 0 < n
  pub on : after_bytes (state_of d) (drop n rest) ≡ all

module _ (all : State) where
  pub turn_end : (d : Desk) (rest : List ℕ) → length rest ≡ 0 → after_bytes (state_of d) rest ≡ all → state_of d ≡ all
  unfolding after
  turn_end d [] h inv = inv
  turn_end d (b ∷ bs) h inv = absurd (omega arith)

  module _ (d : Desk) (rest text : List ℕ) (d' : Desk) (r : Result Feed Refusal) (text' : List ℕ) (kept : FeedLentKeeps d rest text d' r text') (room : length text ≡ 256) where
    is_feed : IsFeed (state_of d) rest (fed_lent_says d' r text')
    is_feed = kept_feed (state_of d) rest text (fed_lent_says d' r text') kept (ap (λ (f : Fed). accepts f.answer) kept ∙ fed_accepts (state_of d) rest text (omega arith))

    taken_is : (feed desk (state_of d) rest).taken ≡ taken_by (answer_says r)
    taken_is = ap (λ (f : Stop State (Numbered Seen)). f.taken) is_feed

    turn_most : taken_by (answer_says r) ≤ length rest
    turn_most = omega (arith, taken_is, feed_most desk (state_of d) rest)

    turn_some : 0 < length rest → 0 < taken_by (answer_says r)
    turn_some h = omega (arith, taken_is, some_taken (state_of d) rest h)

    turn_on : after_bytes (state_of d) rest ≡ all → after_bytes (state_of d') (drop (taken_by (answer_says r)) rest) ≡ all
    turn_on inv =
        ap (λ (s : State). after_bytes s (drop (taken_by (answer_says r)) rest)) (ap (λ (f : Stop State (Numbered Seen)). f.state) (sym is_feed))
        ∙ ap (λ (k : ℕ). after_bytes (feed desk (state_of d) rest).state (drop k rest)) (sym taken_is)
        ∙ feed_rest desk (state_of d) rest
        ∙ inv

    -- all that a turn does, where it takes n bytes
    pub turned : (n : ℕ) → n ≡ taken_by (answer_says r) → 0 < length rest → after_bytes (state_of d) rest ≡ all → Turn rest all d' n
    turned n took h inv = record {
      most = omega (arith, turn_most);
      some = omega (arith, turn_some h);
      on = rw took (turn_on inv);
    }
