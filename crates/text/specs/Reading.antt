-- What a reader of a line answers on paper, and how readers are put together.
use Rattle.std.specs.Prelude.{ℕ, Bool, true, false, cond, List, [], ◌∷◌, length, ◌==◌, nat_le}
use Rattle.std.proofs.Math.Option.{Option, none, some}
use Rattle.text.specs.Bytes.{within}

-- a value, or the number of the refusal
pub data Reading (A : Type 0) : Type 0 where
  read : A → Reading A
  refused : ℕ → Reading A

-- what a line says that says no more than what it is
pub data Mark : Type 0 where
  mark : Mark

module _ {A : Type 0} where
  -- the reading with its value forgotten: the number of the refusal, 0 where there is none
  abbrev pub refusal_in : Reading A → ℕ
  refusal_in (read a) = 0
  refusal_in (refused k) = k

  -- whether there is a value
  abbrev pub present : Option A → Bool
  present none = false
  present (some a) = true

  -- the reading where the test passes, else refusal 3
  unfoldable pub only : Bool → Reading A → Reading A
  only t r = cond t r (refused 3)

  -- the first reading where the test passes, else the second
  unfoldable pub either : Bool → Reading A → Reading A → Reading A
  either t r q = cond t r q

  -- the reading where the text has lo to hi bytes, else refusal 3
  unfoldable pub sized : ℕ → ℕ → List ℕ → Reading A → Reading A
  sized lo hi t r = cond (within lo hi (length t)) r (refused 3)

  -- the reading where the text has at most n bytes, else refusal 4
  unfoldable pub fitting : ℕ → List ℕ → Reading A → Reading A
  fitting n t r = cond (nat_le (length t) n) r (refused 4)

module _ {A B : Type 0} where
  -- what f reads with the value, which is there, else refusal k
  unfoldable pub need_else : ℕ → Option A → (A → Reading B) → Reading B
  need_else k none f = refused k
  need_else k (some a) f = f a

  -- the same with refusal 3
  abbrev pub need : Option A → (A → Reading B) → Reading B
  need o f = need_else 3 o f

  -- the value that was read, under another name
  unfoldable pub mapped : (A → B) → Reading A → Reading B
  mapped f (read a) = read (f a)
  mapped f (refused k) = refused k

  -- the same of each reader
  abbrev pub each : (A → B) → List (Reading A) → List (Reading B)
  each f [] = []
  each f (r ∷ rs) = mapped f r ∷ each f rs

-- the refusal of readers tried one after the other: 3 gives way to what a later one says, and no other refusal does (document 01, "Refusal numbers", 3, 4 and
-- the order of lines, which document 02, CR 8, makes 1, 2, then 4 or 13, then 3)
abbrev pub worse : ℕ → ℕ → ℕ
worse j k = cond (j == 3) k j

module _ {A : Type 0} where
  -- readers in order of trial: the first that accepts, else 4 or 13 where one said so, else 3. No line gets both 4 and 13 (trial/specs/Refusals.antt: NeverBoth)
  unfoldable pub first_of : ℕ → List (Reading A) → Reading A
  first_of j [] = refused j
  first_of j (read a ∷ rs) = read a
  first_of j (refused k ∷ rs) = first_of (worse j k) rs
