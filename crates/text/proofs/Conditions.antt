-- A table of conditions on a line's front and end, beside the readers in their order of trial: where the line meets no condition but one, the trial is that
-- reader alone, whatever it says. Assumes nothing.
use Rattle.std.proofs.Common.{◌≡◌, ℕ, zero, suc, ◌+◌, ◌-◌, ◌<◌, ◌≤◌, Bool, true, false, ◌&&◌, ◌||◌, List, [], ◌∷◌, ◌++◌, length, sym, refl, ap, ◌∙◌, subst, arith, drop_of_length-le}
use mathlib.Core.Bool.{and-true}
use Rattle.text.specs.Bytes.{starts_with, same, ends_with}
use Rattle.text.specs.Class.{class_of}
use Rattle.text.specs.Condition.{Condition, beginning, begins_one, first_byte, last_byte, meets, row, nth_reading, UnmetRefused, NoTwo, Points}
use Rattle.text.specs.Reading.{Reading, read, refused, refusal_in, only, mapped, each, first_of}
use Rattle.text.proofs.Begins.{begins_with}
use Rattle.text.proofs.Readings.{worse_three}
use Rattle.text.proofs.Tests.{never, and_left, and_right}
use Rattle.text.proofs.Yields.{Yields}

-- ---- one condition

-- every line ends with the empty text
pub ends_empty : (l : List ℕ) → ends_with [] l ≡ true
unfolding ends_with same starts_with
ends_empty l = rw (drop_of_length-le l {i = length l - 0} (omega arith))

-- where a front alone is asked for
pub meets_beginning : (ps : List (List ℕ)) (l : List ℕ) → meets (beginning ps) l ≡ begins_one ps l
unfolding meets
meets_beginning ps l = rw (ends_empty l) (and-true (begins_one ps l))

-- what holds of every line that begins with one of the texts
abbrev pub Fronts : (List ℕ → Type 0) → List (List ℕ) → Type 0
Fronts P [] = Unit {0}
Fronts P (p ∷ ps) = ((t : List ℕ) → P (p ++ t)) × Fronts P ps

pub by_front : (P : List ℕ → Type 0) (ps : List (List ℕ)) (l : List ℕ) → Fronts P ps → begins_one ps l ≡ true → P l
by_front P [] l f e = never (cc)
by_front P (p ∷ ps) l f e = go (starts_with p l) refl e (by_front P ps l f.1)
  where
    go : (t : Bool) → starts_with p l ≡ t → t || begins_one ps l ≡ true → (begins_one ps l ≡ true → P l) → P l
    go true s h k = begins_with P p l f.0 s
    go false s h k = k h

pub meets_front : (P : List ℕ → Type 0) (ps : List (List ℕ)) (l : List ℕ) → Fronts P ps → meets (beginning ps) l ≡ true → P l
meets_front P ps l f e = by_front P ps l f (sym (meets_beginning ps l) ∙ e)

-- what a line shows that meets one
module _ (c : Condition) (l : List ℕ) (e : meets c l ≡ true) where
  pub met_begins : begins_one c.begins l ≡ true
  unfolding meets
  met_begins = and_left _ _ e

  behind_front : c.first (class_of (first_byte l)) && (ends_with c.ends l && (c.last (class_of (last_byte l)) && c.size (length l))) ≡ true
  unfolding meets
  behind_front = and_right (begins_one c.begins l) _ e

  pub met_first : c.first (class_of (first_byte l)) ≡ true
  met_first = and_left _ _ behind_front

  at_end : ends_with c.ends l && (c.last (class_of (last_byte l)) && c.size (length l)) ≡ true
  at_end = and_right (c.first (class_of (first_byte l))) _ behind_front

  pub met_ends : ends_with c.ends l ≡ true
  met_ends = and_left _ _ at_end

  pub met_last : c.last (class_of (last_byte l)) ≡ true
  met_last = and_left _ _ (and_right (ends_with c.ends l) _ at_end)

  pub met_size : c.size (length l) ≡ true
  met_size = and_right (c.last (class_of (last_byte l))) _ (and_right (ends_with c.ends l) _ at_end)

-- ---- a reader behind its condition

module _ {A : Type 0} where
  -- a front that is all its condition
  pub only_front : (p l : List ℕ) (r : Reading A) → meets (beginning (p ∷ [])) l ≡ false → only (starts_with p l) r ≡ refused 3
  unfolding only
  only_front p l r e = go (starts_with p l) (sym (meets_beginning (p ∷ []) l) ∙ e)
    where
      go : (t : Bool) → t || false ≡ false → only t r ≡ refused 3
      go false h = refl
      go true h = never (cc)

  -- what it accepts meets the condition, and it refuses with 3 alone
  pub unless_met : (c : Condition) (l : List ℕ) (r : Reading A) → Yields (λ (a : A). meets c l ≡ true) (λ (k : ℕ). k ≡ 3) r → meets c l ≡ false → r ≡ refused 3
  unless_met c l (read a) h e = never (cc)
  unless_met c l (refused k) h e = ap refused h

  -- each reader in turn
  abbrev pub UnmetInTurn : List Condition → List ℕ → List (Reading A) → Type 0
  UnmetInTurn [] l [] = Unit {0}
  UnmetInTurn [] l (r ∷ rs) = ⊥
  UnmetInTurn (c ∷ cs) l [] = ⊥
  UnmetInTurn (c ∷ cs) l (r ∷ rs) = (meets c l ≡ false → r ≡ refused 3) × UnmetInTurn cs l rs

  pub asked : (cs : List Condition) (l : List ℕ) (rs : List (Reading A)) → UnmetInTurn cs l rs → UnmetRefused cs l rs
  asked [] l [] f i e = refl
  asked [] l (r ∷ rs) f i e = absurd f
  asked (c ∷ cs) l [] f i e = refl
  asked (c ∷ cs) l (r ∷ rs) f zero e = f.0 e
  asked (c ∷ cs) l (r ∷ rs) f (suc i) e = asked cs l rs f.1 i e

-- a reader under another name
pub asked_as : {A B : Type 0} (f : A → B) (b : Bool) (x : Reading A) → (b ≡ false → x ≡ refused 3) → b ≡ false → mapped f x ≡ refused 3
unfolding mapped
asked_as f b x h e = ap (mapped f) (h e)

-- ---- the trial

-- past the last there is none
pub reading_past : {A : Type 0} (rs : List (Reading A)) (i : ℕ) → length rs ≤ i → nth_reading i rs ≡ refused 3
reading_past [] i h = refl
reading_past (r ∷ rs) zero h = absurd (omega arith)
reading_past (r ∷ rs) (suc i) h = reading_past rs i (omega arith)

-- nothing of a reading's refusal changes under another name
pub refusal_as : {A B : Type 0} (f : A → B) (x : Reading A) → refusal_in x ≡ refusal_in (mapped f x)
unfolding mapped
refusal_as f (read a) = refl
refusal_as f (refused k) = refl

module _ {A : Type 0} where
  all_three : (k : ℕ) (rs : List (Reading A)) → ((i : ℕ) → nth_reading i rs ≡ refused 3) → first_of k rs ≡ refused k
  unfolding first_of
  all_three k [] f = refl
  all_three k (r ∷ rs) f = ap (λ (x : Reading A). first_of k (x ∷ rs)) (f 0) ∙ ap (λ (n : ℕ). first_of n rs) (worse_three k) ∙ all_three k rs (λ i. f (suc i))

  -- where all but one refuse with 3
  lone : (rs : List (Reading A)) (r : ℕ) → ((i : ℕ) → (i ≡ r → ⊥) → nth_reading i rs ≡ refused 3) → first_of 3 rs ≡ nth_reading r rs
  unfolding first_of
  lone [] r f = refl
  lone (x ∷ rs) zero f = go x
    where
      rest : (i : ℕ) → nth_reading i rs ≡ refused 3
      rest i = f (suc i) (λ z. absurd (omega arith))

      go : (x : Reading A) → first_of 3 (x ∷ rs) ≡ x
      go (read a) = refl
      go (refused k) = all_three k rs rest
  lone (x ∷ rs) (suc r) f = ap (λ (y : Reading A). first_of 3 (y ∷ rs)) (f 0 (λ z. absurd (omega arith))) ∙ lone rs r (λ i n. f (suc i) (λ z. n (omega arith)))

  pub straight : (cs : List Condition) (l : List ℕ) (rs : List (Reading A)) (r : ℕ) → UnmetRefused cs l rs → Points cs l r → first_of 3 rs ≡ nth_reading r rs
  straight cs l rs r a p = lone rs r (λ i n. go i n (meets (row i cs) l) refl)
    where
      go : (i : ℕ) → (i ≡ r → ⊥) → (t : Bool) → meets (row i cs) l ≡ t → nth_reading i rs ≡ refused 3
      go i n true e = absurd (n (p i e))
      go i n false e = a i e

-- ---- the rows

pub no_two : (cs : List Condition) (l : List ℕ) (r : ℕ) → Points cs l r → NoTwo cs l
no_two cs l r p i j e f = p i e ∙ sym (p j f)

-- the line meets no condition from row k on but that of row r
abbrev pub PointsFrom : ℕ → List Condition → List ℕ → ℕ → Type 0
PointsFrom k cs l r = (i : ℕ) → meets (row i cs) l ≡ true → k + i ≡ r

no_line : (l : List ℕ) → meets (beginning []) l ≡ true → ⊥
unfolding meets
no_line l e = never (cc)

-- each row in turn
abbrev pub PointsInTurn : ℕ → List Condition → List ℕ → ℕ → Type 0
PointsInTurn k [] l r = Unit {0}
PointsInTurn k (c ∷ cs) l r = (meets c l ≡ true → k ≡ r) × PointsInTurn (suc k) cs l r

pub points_from : (k : ℕ) (cs : List Condition) (l : List ℕ) (r : ℕ) → PointsInTurn k cs l r → PointsFrom k cs l r
points_from k [] l r f i e = absurd (no_line l e)
points_from k (c ∷ cs) l r f zero e = omega (arith, f.0 e)
points_from k (c ∷ cs) l r f (suc i) e = omega (arith, points_from (suc k) cs l r f.1 i e)

pub points : (cs : List Condition) (l : List ℕ) (r : ℕ) → PointsInTurn 0 cs l r → Points cs l r
points cs l r f i e = omega (arith, points_from 0 cs l r f i e)

-- of two tables joined
pub points_left : (cs ds : List Condition) (l : List ℕ) (r : ℕ) → Points (cs ++ ds) l r → Points cs l r
points_left cs ds l r p i e = p i (go cs i e)
  where
    go : (cs : List Condition) (i : ℕ) → meets (row i cs) l ≡ true → meets (row i (cs ++ ds)) l ≡ true
    go [] i e = absurd (no_line l e)
    go (c ∷ cs) zero e = e
    go (c ∷ cs) (suc i) e = go cs i e

pub points_right : (cs ds : List Condition) (l : List ℕ) (r : ℕ) → Points (cs ++ ds) l r → PointsFrom (length cs) ds l r
points_right cs ds l r p i e = p (length cs + i) (at cs)
  where
    at : (cs : List Condition) → meets (row (length cs + i) (cs ++ ds)) l ≡ true
    at [] = let z : i ≡ 0 + i = omega arith in subst (λ (n : ℕ). meets (row n ds) l ≡ true) z e
    at (c ∷ cs) = let z : suc (length cs + i) ≡ suc (length cs) + i = omega arith in subst (λ (n : ℕ). meets (row n (c ∷ cs ++ ds)) l ≡ true) z (at cs)

-- and of two lists of readers
module _ {A : Type 0} where
  pub reading_left : (rs qs : List (Reading A)) (i : ℕ) → i < length rs → nth_reading i (rs ++ qs) ≡ nth_reading i rs
  reading_left [] qs i h = absurd (omega arith)
  reading_left (r ∷ rs) qs zero h = refl
  reading_left (r ∷ rs) qs (suc i) h = reading_left rs qs i (omega arith)

  pub reading_right : (rs qs : List (Reading A)) (i : ℕ) → length rs ≤ i → nth_reading i (rs ++ qs) ≡ nth_reading (i - length rs) qs
  reading_right [] qs i h = let z : i ≡ i - 0 = omega arith in ap (λ (n : ℕ). nth_reading n qs) z
  reading_right (r ∷ rs) qs zero h = absurd (omega arith)
  reading_right (r ∷ rs) qs (suc i) h = let z : i - length rs ≡ suc i - suc (length rs) = omega arith in reading_right rs qs i (omega arith) ∙ ap (λ (n : ℕ). nth_reading n qs) z

  pub asked_join : (cs ds : List Condition) (l : List ℕ) (rs qs : List (Reading A)) → length cs ≡ length rs → UnmetRefused cs l rs → UnmetRefused ds l qs → UnmetRefused (cs ++ ds) l (rs ++ qs)
  asked_join [] ds l [] qs h a b i e = b i e
  asked_join [] ds l (r ∷ rs) qs h a b i e = absurd (omega arith)
  asked_join (c ∷ cs) ds l [] qs h a b i e = absurd (omega arith)
  asked_join (c ∷ cs) ds l (r ∷ rs) qs h a b zero e = a 0 e
  asked_join (c ∷ cs) ds l (r ∷ rs) qs h a b (suc i) e = asked_join cs ds l rs qs (omega arith) (λ j. a (suc j)) b i e

pub reading_each : {A B : Type 0} (f : A → B) (rs : List (Reading A)) (i : ℕ) → nth_reading i (each f rs) ≡ mapped f (nth_reading i rs)
unfolding mapped
reading_each f [] i = refl
reading_each f (r ∷ rs) zero = refl
reading_each f (r ∷ rs) (suc i) = reading_each f rs i

pub asked_each : {A B : Type 0} (f : A → B) (cs : List Condition) (l : List ℕ) (rs : List (Reading A)) → UnmetRefused cs l rs → UnmetRefused cs l (each f rs)
unfolding mapped
asked_each f cs l rs a i e = reading_each f rs i ∙ ap (mapped f) (a i e)
