-- The fields of a line, taken one after the other. Assumes nothing.
use Rattle.std.proofs.Common.{◌≡◌, ℕ, zero, suc, ◌+◌, ◌-◌, ◌<◌, ◌≤◌, Bool, true, false, cond, eqb, ltb, List, [], ◌∷◌, length, drop, sym, refl, ap, ◌∙◌, add-zero, zero-add, add-one, arith, length-drop, length-take-le, take_all, drop-drop, Bor, ltb-false, ltb-true}
use native.Mathlib.Nat.{sub-zero}
use lib.Seq.{take-nil}
use Rattle.std.specs.List.{slice_split, onto_first}
use Rattle.text.specs.Bytes.{index_of, count_of}
use Rattle.text.specs.Part.{IsPart, part_of, before, after}
use Rattle.text.specs.Field.{fronted, fields, nth, place_of}
use Rattle.text.proofs.AtIndex.{at_end}
use Rattle.text.proofs.Parts.{index_le, part_shift, from_start, part_as}

-- they are the parts that std's `split` gives
fronted_is : (x : ℕ) (fs : List (List ℕ)) → fronted x fs ≡ onto_first x fs
fronted_is x [] = refl
fronted_is x (f ∷ fs) = refl

pub fields_is : (b : ℕ) (s : List ℕ) → fields b s ≡ slice_split (λ x. eqb x b) s
fields_is b [] = refl
fields_is b (x ∷ s) = rw (fields_is b s, fronted_is x (slice_split (λ x. eqb x b) s))

-- the first field ends at the first separator, and the others are those of what follows it; a line without a separator is one field
module _ (b : ℕ) where
  pub fields_has : (s : List ℕ) → index_of b s < length s → fields b s ≡ before b s ∷ fields b (after b s)
  fields_has [] h = absurd (omega arith)
  fields_has (x ∷ s) h = go (eqb x b) refl h (fields_has s)
    where
      go : (t : Bool) → eqb x b ≡ t → cond t 0 (suc (index_of b s)) < suc (length s) → (index_of b s < length s → fields b s ≡ before b s ∷ fields b (after b s))
          → fields b (x ∷ s) ≡ before b (x ∷ s) ∷ fields b (after b (x ∷ s))
      go true e k f = rw e
      go false e k f = rw (e, f (omega arith)) (simp add-one)

  pub fields_not : (s : List ℕ) → length s ≤ index_of b s → fields b s ≡ s ∷ []
  fields_not [] h = refl
  fields_not (x ∷ s) h = go (eqb x b) refl h (fields_not s)
    where
      go : (t : Bool) → eqb x b ≡ t → suc (length s) ≤ cond t 0 (suc (index_of b s)) → (length s ≤ index_of b s → fields b s ≡ s ∷ []) → fields b (x ∷ s) ≡ (x ∷ s) ∷ []
      go true e k f = absurd (omega arith)
      go false e k f = rw (e, f (omega arith))

  pub fields_count : (s : List ℕ) → count_of b s + 1 ≡ length (fields b s)
  fields_count [] = refl
  fields_count (x ∷ s) = go (eqb x b) (fields b s) (fields_count s)
    where
      go : (t : Bool) (fs : List (List ℕ)) → count_of b s + 1 ≡ length fs → cond t 1 0 + count_of b s + 1 ≡ length (cond t ([] ∷ fs) (fronted x fs))
      go true fs h = omega arith
      go false [] h = absurd (omega arith)
      go false (f ∷ fs) h = omega arith

  before_length : (s : List ℕ) → length (before b s) ≡ index_of b s
  before_length s = length-take-le (index_of b s) s (index_le b s)

  place_nil : (n : ℕ) → place_of n [] ≡ 0
  place_nil zero = refl
  place_nil (suc n) = refl

  -- the place of a later field, from the first separator on
  pub place_has : (s : List ℕ) (n : ℕ) → index_of b s < length s → place_of (suc n) (fields b s) ≡ index_of b s + 1 + place_of n (fields b (after b s))
  place_has s n h = rw (fields_has s h, before_length s)

  pub place_not : (s : List ℕ) (n : ℕ) → length s ≤ index_of b s → place_of (suc n) (fields b s) ≡ length s + 1
  place_not s n h = rw (fields_not s h, place_nil n, add-zero)

  -- by cases on whether a separator is there
  pub split : {P : Type 0} (s : List ℕ) → (index_of b s < length s → P) → (length s ≤ index_of b s → P) → P
  split {P} s f g = go (ltb (index_of b s) (length s)) refl
    where
      go : (t : Bool) → ltb (index_of b s) (length s) ≡ t → P
      go true e = f (ltb-true _ _ e)
      go false e = g (ltb-false _ _ e)

  nth_nil : (n : ℕ) → nth n [] ≡ []
  nth_nil zero = refl
  nth_nil (suc n) = refl

  beyond : (s : List ℕ) (n : ℕ) → part_of s (length s + 1) (length s + 1 + index_of b (drop (length s + 1) s)) ≡ nth n []
  unfolding part_of
  beyond s n = rw (at_end s (length s + 1) (omega arith), nth_nil n) (take-nil (length s + 1 + 0 - (length s + 1)))

  -- from a place of the line up to the next separator
  abbrev span : List ℕ → ℕ → List ℕ
  span s x = part_of s x (x + index_of b (drop x s))

  span_shift : (s : List ℕ) (k p : ℕ) → span s (k + p) ≡ span (drop k s) p
  span_shift s k p =
      let z : k + p + index_of b (drop (k + p) s) ≡ k + (p + index_of b (drop (k + p) s)) = omega arith in
      rw (z, part_shift, drop-drop)

  -- a field's bytes stand from its place up to the next separator
  pub field_bytes : (n : ℕ) (s : List ℕ) → span s (place_of n (fields b s)) ≡ nth n (fields b s)
  field_bytes zero s = rw (zero-add, from_start) (split s (λ h. rw (fields_has s h)) (λ h. rw (fields_not s h) (take_all (index_of b s) s h)))
  field_bytes (suc n) s =
      split s
      (λ h. ap (span s) (place_has s n h) ∙ span_shift s (index_of b s + 1) _ ∙ field_bytes n (after b s) ∙ ap (nth (suc n)) (sym (fields_has s h)))
      (λ h. rw (place_not s n h, fields_not s h) (beyond s n))

  -- a field lies in the line
  pub field_in : (n : ℕ) (s : List ℕ) → n < length (fields b s) → place_of n (fields b s) + length (nth n (fields b s)) ≤ length s
  field_in zero s h =
      split s
      (λ k. rw (fields_has s k, before_length s) (omega (arith, index_le b s)))
      (λ k. rw (fields_not s k) (omega arith))
  field_in (suc n) s h =
      split s
      (λ k.
      let l : n < length (fields b (after b s)) = let z = ap length (fields_has s k) in omega arith in
      let i = field_in n (after b s) l in
      let d = length-drop (index_of b s + 1) s in
      rw (place_has s n k, fields_has s k) (omega arith))
      (λ k. absurd (let z = ap length (fields_not s k) in omega arith))

-- `field_start`
module _ (s : List ℕ) (b n at k : ℕ) (inv : place_of n (fields b s) ≡ at + place_of (n - k) (fields b (drop at s))) where
  later : k < n → n - k ≡ suc (n - (k + 1))
  later h = omega arith

  pub place_past : (e : ℕ) → k < n → at ≤ length s → e ≡ at + index_of b (drop at s) → length s ≤ e → length s + 1 ≡ place_of n (fields b s)
  place_past e h l q m =
      let d = length-drop at s in
      let z : length (drop at s) ≤ index_of b (drop at s) = omega arith in
      rw (inv, later h, place_not b (drop at s) (n - (k + 1)) z) (omega arith)

  pub place_more : (e : ℕ) → k < n → at ≤ length s → e ≡ at + index_of b (drop at s) → e < length s
      → place_of n (fields b s) ≡ e + 1 + place_of (n - (k + 1)) (fields b (drop (e + 1) s))
  place_more e h l q m =
      let d = length-drop at s in
      let z : index_of b (drop at s) < length (drop at s) = omega arith in
      let y : at + (index_of b (drop at s) + 1) ≡ e + 1 = omega arith in
      rw (inv, later h, place_has b (drop at s) (n - (k + 1)) z, drop-drop, y) (omega arith)

  pub place_done : n ≤ k → at ≡ place_of n (fields b s)
  place_done h = let z : n - k ≡ 0 = omega arith in rw (inv, z) (omega arith)

pub place_begin : (s : List ℕ) (b n : ℕ) → place_of n (fields b s) ≡ 0 + place_of (n - 0) (fields b (drop 0 s))
place_begin s b n = rw (zero-add, sub-zero)

-- `field` and `field_count`
pub field_part : (s t : Bor (List ℕ)) (b n at e : ℕ) → at ≡ place_of n (fields b s.now) → e ≡ at + index_of b (drop at s.now) → IsPart s t at (part_of s.now at e)
    → IsPart s t (place_of n (fields b s.now)) (nth n (fields b s.now))
field_part s t b n at e h q =
    part_as s t at _ _ _ h
    (ap (λ (x : ℕ). part_of s.now at x) q ∙ ap (λ (x : ℕ). part_of s.now x (x + index_of b (drop x s.now))) h ∙ field_bytes b n s.now)

pub count_fields : (s : List ℕ) (b n : ℕ) → n ≡ count_of b s → n + 1 ≡ length (fields b s)
count_fields s b n h = rw h (fields_count b s)
