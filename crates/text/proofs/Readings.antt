-- The steps of a reader: what the code tested, and what it learnt of a call, picks the case of its paper definition. Each premise is spelled
-- as the code's test or the callee's promise has it, so that `search reader` closes a reader's answers. Assumes nothing.
use Rattle.std.proofs.Common.{◌≡◌, ℕ, ◌<◌, ◌≤◌, Bool, true, false, cond, not, eqb, leb, List, [], ◌∷◌, length, sym, refl, ap, ◌∙◌, subst, eq-eqb, ne_eqb, eqb-true, le-leb, Result, Ok, Err, ok_or}
use Rattle.std.specs.Prelude as Std
use mathlib.Core.Option.{Option, none, some}
use borrow.Author.Tests.{lt-leb, not-true, not-false}
use Rattle.text.proofs.Tests.{never}
use Rattle.text.specs.Bytes.{same, has}
use Rattle.text.specs.Part.{before, after, trimmed}
use Rattle.text.specs.Field.{fields, nth}
use Rattle.text.specs.Reading.{Reading, read, refused, refusal_in, present, only, either, need_else, sized, fitting, mapped, each, worse, first_of}
use Rattle.text.specs.says.Refusal.{number_of, option_mapped, reading_said}
use Rattle.text.specs.declared.refusal.Refusal.{Refusal}

module _ {A : Type 0} where
  pub only_not : (t x : Bool) (r : Reading A) → x ≡ t → x ≡ false → refused 3 ≡ only t r
  unfolding only
  only_not t x r e h = rw (sym e ∙ h)

  pub only_so : (t x : Bool) (r q : Reading A) → x ≡ t → x ≡ true → q ≡ r → q ≡ only t r
  unfolding only
  only_so t x r q e h p = rw (sym e ∙ h) p

  pub either_so : (t x : Bool) (r u q : Reading A) → x ≡ t → x ≡ true → q ≡ r → q ≡ either t r u
  unfolding either
  either_so t x r u q e h p = rw (sym e ∙ h) p

  pub either_not : (t x : Bool) (r u q : Reading A) → x ≡ t → x ≡ false → q ≡ u → q ≡ either t r u
  unfolding either
  either_not t x r u q e h p = rw (sym e ∙ h) p

  -- the same, where the code tests the negation
  pub unless_not : (t x : Bool) (r : Reading A) → x ≡ t → not x ≡ true → refused 3 ≡ only t r
  unless_not t x r e h = only_not t x r e (not-true x h)

  pub unless_so : (t x : Bool) (r q : Reading A) → x ≡ t → not x ≡ false → q ≡ r → q ≡ only t r
  unless_so t x r q e h p = only_so t x r q e (not-false x h) p

  pub otherwise_so : (t x : Bool) (r u q : Reading A) → x ≡ t → not x ≡ false → q ≡ r → q ≡ either t r u
  otherwise_so t x r u q e h p = either_so t x r u q e (not-false x h) p

  pub otherwise_not : (t x : Bool) (r u q : Reading A) → x ≡ t → not x ≡ true → q ≡ u → q ≡ either t r u
  otherwise_not t x r u q e h p = either_not t x r u q e (not-true x h) p

  -- a test of a count that the code has under the name k
  module _ (k c n : ℕ) where
    pub either_is : (r u q : Reading A) → k ≡ c → k ≡ n → q ≡ r → q ≡ either (eqb c n) r u
    either_is r u q e h p = either_so (eqb c n) true r u q (sym (eq-eqb c n (sym e ∙ h))) refl p

    pub either_else : (r u q : Reading A) → k ≡ c → (k ≡ n → ⊥) → q ≡ u → q ≡ either (eqb c n) r u
    either_else r u q e h p = either_not (eqb c n) false r u q (sym (ne_eqb c n (λ z. h (e ∙ z)))) refl p

    pub only_is : (r q : Reading A) → k ≡ c → k ≡ n → q ≡ r → q ≡ only (eqb c n) r
    only_is r q e h p = only_so (eqb c n) true r q (sym (eq-eqb c n (sym e ∙ h))) refl p

    pub only_else : (r : Reading A) → k ≡ c → (k ≡ n → ⊥) → refused 3 ≡ only (eqb c n) r
    only_else r e h = only_not (eqb c n) false r (sym (ne_eqb c n (λ z. h (e ∙ z)))) refl

    pub only_least : (r q : Reading A) → k ≡ c → n ≤ k → q ≡ r → q ≡ only (leb n c) r
    only_least r q e h p = only_so (leb n c) true r q (sym (le-leb n c (subst (λ (m : ℕ). n ≤ m) e h))) refl p

    pub only_under : (r : Reading A) → k ≡ c → k < n → refused 3 ≡ only (leb n c) r
    only_under r e h = only_not (leb n c) false r (sym (lt-leb n c (subst (λ (m : ℕ). m < n) e h))) refl

  -- a text of some length, which the code has under the name t
  module _ (lo hi : ℕ) (t s : List ℕ) (r : Reading A) where
    pub sized_so : (q : Reading A) → t ≡ s → lo ≤ length t → length t ≤ hi → q ≡ r → q ≡ sized lo hi s r
    unfolding sized
    sized_so q e l h p = rw (sym e, le-leb lo (length t) l, le-leb (length t) hi h) p

    pub sized_low : t ≡ s → length t < lo → refused 3 ≡ sized lo hi s r
    unfolding sized
    sized_low e l = rw (sym e, lt-leb lo (length t) l)

    pub sized_high : t ≡ s → lo ≤ length t → hi < length t → refused 3 ≡ sized lo hi s r
    unfolding sized
    sized_high e l h = rw (sym e, le-leb lo (length t) l, lt-leb (length t) hi h)

  -- a text that fits, and one that is too long, which the code has under the name t
  module _ (n : ℕ) (t s : List ℕ) (r : Reading A) where
    pub fits : (q : Reading A) → t ≡ s → length t ≤ n → q ≡ r → q ≡ fitting n s r
    unfolding fitting
    fits q e h p = rw (sym e, le-leb _ _ h) p

    pub too_long : t ≡ s → n < length t → refused 4 ≡ fitting n s r
    unfolding fitting
    too_long e h = rw (sym e, lt-leb _ _ h)

module _ {A B : Type 0} where
  pub need_not : (k : ℕ) (o : Option A) (f : A → Reading B) → none ≡ o → refused k ≡ need_else k o f
  unfolding need_else
  need_not k o f e = rw (sym e)

  pub need_so : (k : ℕ) (o : Option A) (a : A) (f : A → Reading B) (q : Reading B) → some a ≡ o → q ≡ f a → q ≡ need_else k o f
  unfolding need_else
  need_so k o a f q e p = rw (sym e) p

-- a value that is asked for by `ok_or`, where the answer r is what f says on paper
pub ok_or_some : {V A : Type 0} (f : V → A) (o : Option A) (r : Std.Option V) (e : Refusal) (v : V) → option_mapped f r ≡ o → Ok v ≡ ok_or r e → some (f v) ≡ o
ok_or_some f o Std.None e v h i = never (cc)
ok_or_some f o (Std.Some w) e v h i = let j : v ≡ w = cc in ap (λ x. some (f x)) j ∙ h

-- a test on a part that the code has under the name t
pub same_via : (x : Bool) (t s p : List ℕ) → x ≡ same t p → t ≡ s → x ≡ same s p
same_via x t s p e h = e ∙ ap (λ (l : List ℕ). same l p) h

pub has_via : (x : Bool) (b : ℕ) (t s : List ℕ) → x ≡ has b t → t ≡ s → x ≡ has b s
has_via x b t s e h = e ∙ ap (has b) h

pub before_via : (p : List ℕ) (b : ℕ) (t s : List ℕ) → p ≡ before b t → t ≡ s → p ≡ before b s
before_via p b t s e h = e ∙ ap (before b) h

pub after_via : (p : List ℕ) (b : ℕ) (t s : List ℕ) → p ≡ after b t → t ≡ s → p ≡ after b s
after_via p b t s e h = e ∙ ap (after b) h

pub count_via : (k b : ℕ) (t s : List ℕ) → k ≡ length (fields b t) → t ≡ s → k ≡ length (fields b s)
count_via k b t s e h = e ∙ ap (λ (l : List ℕ). length (fields b l)) h

pub field_via : (p : List ℕ) (b n : ℕ) (t s : List ℕ) → p ≡ nth n (fields b t) → t ≡ s → p ≡ nth n (fields b s)
field_via p b n t s e h = e ∙ ap (λ (l : List ℕ). nth n (fields b l)) h

pub trim_via : (p bs t s : List ℕ) → p ≡ trimmed bs t → t ≡ s → p ≡ trimmed bs s
trim_via p bs t s e h = e ∙ ap (trimmed bs) h

-- a paper function of a part that the code has under the name t
pub via : {A : Type 0} (f : List ℕ → A) (q : A) (t s : List ℕ) → q ≡ f t → t ≡ s → q ≡ f s
via f q t s e h = e ∙ ap f h

pub ruleset reader =
    (only_so, only_not, either_so, either_not, unless_so, unless_not, otherwise_so, otherwise_not, either_is, either_else, only_is, only_else, only_least, only_under, sized_so, sized_low, sized_high, fits, too_long, same_via, has_via, before_via, after_via, count_via, field_via, trim_via)

-- a reading with its value forgotten: what the code learnt picks the case of the reading, and with it the number
module _ {A : Type 0} (r : Reading A) where
  pub refuses : (k : ℕ) → refused k ≡ r → k ≡ refusal_in r
  refuses k e = ap refusal_in e

  pub accepts : (a : A) → read a ≡ r → 0 ≡ refusal_in r
  accepts a e = ap refusal_in e

  pub sorts : (k : ℕ) (q : Reading A) → k ≡ refusal_in q → q ≡ r → k ≡ refusal_in r
  sorts k q h e = h ∙ ap refusal_in e

-- a value that is asked for, where the code knows whether it is there
module _ {A : Type 0} (o : Option A) where
  pub there : (a : A) → some a ≡ o → true ≡ present o
  there a e = ap present e

  pub missing : none ≡ o → false ≡ present o
  missing e = ap present e

pub not_there : {A : Type 0} (o : Option A) → present o ≡ false → none ≡ o
not_there none e = refl
not_there (some a) e = never (cc)

-- which is enough, where what follows has one refusal for each
pub refusal_need : {A B : Type 0} (k j : ℕ) (o : Option A) (f : A → Reading B) → ((a : A) → j ≡ refusal_in (f a)) → cond (present o) j k ≡ refusal_in (need_else k o f)
unfolding need_else
refusal_need k j none f h = refl
refusal_need k j (some a) f h = h a

-- a reading under another name
module _ {A B : Type 0} (g : A → B) (x : Reading A) where
  pub mapped_read : (a : A) → read a ≡ x → read (g a) ≡ mapped g x
  unfolding mapped
  mapped_read a e = rw (sym e)

  pub mapped_refused : (k : ℕ) → refused k ≡ x → refused k ≡ mapped g x
  unfolding mapped
  mapped_refused k e = rw (sym e)

-- readers in order of trial: what the next one says decides
module _ {A : Type 0} (j : ℕ) (x : Reading A) (rs : List (Reading A)) where
  pub first_is : (a : A) → read a ≡ x → read a ≡ first_of j (x ∷ rs)
  unfolding first_of
  first_is a e = rw (sym e)

  pub first_else : (k i : ℕ) (q : Reading A) → refused k ≡ x → i ≡ worse j k → q ≡ first_of i rs → q ≡ first_of j (x ∷ rs)
  unfolding first_of
  first_else k i q e w h = rw (sym e, ← w) h

pub first_last : {A : Type 0} (x : Reading A) → x ≡ first_of 3 (x ∷ [])
unfolding first_of
first_last (read a) = refl
first_last (refused k) = refl

pub first_none : {B : Type 0} (j : ℕ) → ◌≡◌ {A = Reading B} (refused j) (first_of j [])
unfolding first_of
first_none j = refl

-- readers under another name
pub first_each : {A B : Type 0} (f : A → B) (j : ℕ) (rs : List (Reading A)) → first_of j (each f rs) ≡ mapped f (first_of j rs)
unfolding first_of mapped
first_each f j [] = refl
first_each f j (read a ∷ rs) = refl
first_each f j (refused k ∷ rs) = first_each f (worse j k) rs

-- of three refusals it does not matter which two are joined first, and 3 is lost beside another
worse_assoc : (j k i : ℕ) → worse j (worse k i) ≡ worse (worse j k) i
worse_assoc j k i = go (eqb j 3) refl
  where
    go : (t : Bool) → eqb j 3 ≡ t → cond t (worse k i) j ≡ worse (cond t k j) i
    go true e = refl
    go false e = rw e

pub worse_three : (j : ℕ) → worse j 3 ≡ j
worse_three j = go (eqb j 3) (eqb-true j 3)
  where
    go : (t : Bool) → (t ≡ true → j ≡ 3) → cond t 3 j ≡ j
    go true e = sym (e refl)
    go false e = refl

-- so a trial may stand in another as one of its readers
module _ {A : Type 0} where
  in_trial : (j k : ℕ) (rs : List (Reading A)) → first_of j (first_of k rs ∷ []) ≡ first_of (worse j k) rs
  unfolding first_of
  in_trial j k [] = refl
  in_trial j k (read a ∷ rs) = refl
  in_trial j k (refused i ∷ rs) = in_trial j (worse k i) rs ∙ ap (λ (n : ℕ). first_of n rs) (worse_assoc j k i)

  pub first_whole : (j : ℕ) (rs : List (Reading A)) → first_of j (first_of 3 rs ∷ []) ≡ first_of j rs
  first_whole j rs = in_trial j 3 rs ∙ ap (λ (n : ℕ). first_of n rs) (worse_three j)

-- the same for a reader whose answer r has a value that f says on paper
module _ {V A B : Type 0} (f : V → A) (j : ℕ) (g : A → B) (x : Reading A) (rs : List (Reading B)) (r : Result V Refusal) where
  pub tried : (v : V) (q : Reading B) → reading_said f r ≡ x → r ≡ Ok v → q ≡ read (g (f v)) → q ≡ first_of j (mapped g x ∷ rs)
  tried v q h e z = z ∙ first_is j (mapped g x) rs (g (f v)) (mapped_read g x (f v) (ap (reading_said f) (sym e) ∙ h))

  pub tried_not : (k : Refusal) (i : ℕ) (q : Reading B) → reading_said f r ≡ x → r ≡ Err k → i ≡ worse j (number_of k) → q ≡ first_of i rs → q ≡ first_of j (mapped g x ∷ rs)
  tried_not k i q h e w z = first_else j (mapped g x) rs (number_of k) i q (mapped_refused g x (number_of k) (ap (reading_said f) (sym e) ∙ h)) w z
