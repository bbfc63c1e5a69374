-- The places of a reader and of those behind it, found in one pass over the bytes. Assumes nothing.
use Rattle.std.proofs.Common.{◌≡◌, ℕ, zero, suc, ◌+◌, ◌-◌, ◌<◌, ◌≤◌, Bool, true, false, eqb, ltb, List, [], ◌∷◌, length, get_or, drop, set, replicate, sym, refl, ap, ◌∙◌, add-zero, add-one, arith, length-set, length-take-le, get_or-set_other, get_or-set_same, w64, Fits, below_none, below_more, ltb-false, ltb-true, le-ltb, lt-ltb, ne_eqb, eqb-true, leb-false, leb-true}
use native.Mathlib.Numerals.{lt_of_le_of_ne}
use lib.ListN.{get_or-replicate}
use mir.Val.{bool_byte}
use borrow.Author.Tests.{eqb-false}
use Rattle.text.specs.Bytes.{index_of}
use Rattle.text.specs.Field.{fields, nth, place_of}
use Rattle.text.specs.Part.{part_of}
use Rattle.text.specs.Reader.{next_at, stands_from, Starts, FieldStartsKeeps}
use Rattle.text.proofs.AtIndex.{at_next, at_end}
use Rattle.text.proofs.ReaderPlaces.{next_in, next_out, stands_at_lem, stands_ended}
use Rattle.text.proofs.Fields.{field_bytes}
use Rattle.text.proofs.Parts.{index_le}

-- the next field from a comma on, from another byte on, and from the end on
module _ (s : List ℕ) (i : ℕ) where
  next_comma : i < length s → get_or s i 0 ≡ 44 → next_at s i ≡ i + 1
  next_comma h e = sym (next_in s i i (rw (at_next s i h, e) (sym (add-zero i))) h)

  next_both : (c : ℕ) → c ≡ i + index_of 44 (drop i s) → c ≡ i + 1 + index_of 44 (drop (i + 1) s) → next_at s i ≡ next_at s (i + 1)
  next_both c p q = go (ltb c (length s)) (ltb-true c (length s)) (ltb-false c (length s))
    where
      go : (t : Bool) → (t ≡ true → c < length s) → (t ≡ false → length s ≤ c) → next_at s i ≡ next_at s (i + 1)
      go true f g = sym (next_in s i c p (f refl)) ∙ next_in s (i + 1) c q (f refl)
      go false f g = sym (next_out s i c p (g refl)) ∙ next_out s (i + 1) c q (g refl)

  next_other : i < length s → (get_or s i 0 ≡ 44 → ⊥) → next_at s i ≡ next_at s (i + 1)
  next_other h e = next_both (i + 1 + index_of 44 (drop (i + 1) s)) (rw (at_next s i h, ne_eqb (get_or s i 0) 44 e) (omega arith)) refl

  next_past : length s ≤ i → next_at s i ≡ length s + 1
  next_past h = sym (next_out s i i (rw (at_end s i h) (sym (add-zero i))) h)

-- past the end a reader stays
stays : (s : List ℕ) (at k n : ℕ) → stands_from at k s ≡ length s + 1 → k ≤ n → stands_from at n s ≡ length s + 1
unfolding stands_from
stays s at k zero e h = let z : k ≡ 0 = omega arith in rw z at e
stays s at k (suc n) e h = go (ltb n k) (ltb-true n k) (ltb-false n k) (stays s at k n e)
  where
    go : (t : Bool) → (t ≡ true → n < k) → (t ≡ false → k ≤ n) → (k ≤ n → stands_from at n s ≡ length s + 1) → next_at s (stands_from at n s) ≡ length s + 1
    go true f g r = let l = f refl in let z : k ≡ suc n = omega arith in rw z at e
    go false f g r = rw (r (g refl)) (next_past s (length s + 1) (omega arith))

-- `starts_at` at byte i: k places are found, and the next one is that of the first comma from i on
pub record Found (s : List ℕ) (at : ℕ) (ps : List ℕ) (k i : ℕ) : Type 0 where
  pub least : 1 ≤ k
  pub most : k ≤ 22
  pub size : length ps ≡ 22
  pub place : (n : ℕ) → n < k → get_or ps n 0 ≡ stands_from at n s
  pub others : (n : ℕ) → k < n → n < 22 → get_or ps n 0 ≡ length s + 1
  pub next : stands_from at k s ≡ next_at s i

pub found_none : (s : List ℕ) (at : ℕ) → Found s at (set (replicate 22 (length s + 1)) 0 at) 1 at
unfolding stands_from
found_none s at = record {
  least = omega arith;
  most = omega arith;
  size = refl;
  place = below_more _ 0 (below_none _) refl;
  others = λ n h l. get_or-set_other (replicate 22 (length s + 1)) 0 n at 0 (λ e. omega arith) ∙ get_or-replicate 22 n (length s + 1) 0 l;
  next = refl;
}

module _ (s : List ℕ) (at : ℕ) (ps : List ℕ) (k i : ℕ) (f : Found s at ps k i) where
  kept : (p n : ℕ) → (n ≡ k → ⊥) → get_or (set ps k p) n 0 ≡ get_or ps n 0
  kept p n h = get_or-set_other ps k n p 0 h

  pub fits_more : (t : Bool) → Fits w64 (k + bool_byte t)
  fits_more true = record { fits = omega (arith, f.most) }
  fits_more false = record { fits = omega (arith, f.most) }

  pub found_more : k < 22 → i < length s → Found s at (set ps k (i + 1)) (k + bool_byte (eqb (get_or s i 0) 44)) (i + 1)
  unfolding stands_from
  found_more few h = go (eqb (get_or s i 0) 44) refl
    where
      go : (t : Bool) → eqb (get_or s i 0) 44 ≡ t → Found s at (set ps k (i + 1)) (k + bool_byte t) (i + 1)
      go true e =
          let q : i + 1 ≡ stands_from at k s = sym (f.next ∙ next_comma s i h (eqb-true (get_or s i 0) 44 e)) in
          record {
            least = omega arith;
            most = omega arith;
            size = simp length-set f.size;
            place = below_more (λ (n : ℕ). get_or (set ps k (i + 1)) n 0 ≡ stands_from at n s) k (λ n l. kept (i + 1) n (λ z. omega arith) ∙ f.place n l) (get_or-set_same ps k (i + 1) 0 (omega arith) ∙ q);
            others = λ n l g. kept (i + 1) n (λ z. omega arith) ∙ f.others n (omega arith) g;
            next = rw add-one (ap (next_at s) (sym q));
          }
      go false e = record {
        least = omega arith;
        most = omega arith;
        size = simp length-set f.size;
        place = λ n l. kept (i + 1) n (λ z. omega arith) ∙ f.place n (omega arith);
        others = λ n l g. kept (i + 1) n (λ z. omega arith) ∙ f.others n (omega arith) g;
        next = rw add-zero (f.next ∙ next_other s i h (eqb-false (get_or s i 0) 44 e));
      }

  pub found_full : 22 ≤ k → Starts s at ps
  found_full h = record { size = f.size; place = λ n l. f.place n (omega arith) }

  pub found_last : k < 22 → length s ≤ i → Starts s at (set ps k (length s + 1))
  found_last few h = record { size = simp length-set f.size; place = λ n l. go n l (ltb n k) (ltb-true n k) (ltb-false n k) (eqb n k) (eqb-true n k) (eqb-false n k) }
    where
      end : stands_from at k s ≡ length s + 1
      end = f.next ∙ next_past s i h

      go : (n : ℕ) → n < 22 → (t : Bool) → (t ≡ true → n < k) → (t ≡ false → k ≤ n) → (u : Bool) → (u ≡ true → n ≡ k) → (u ≡ false → n ≡ k → ⊥)
          → get_or (set ps k (length s + 1)) n 0 ≡ stands_from at n s
      go n l true a b u c d = kept (length s + 1) n (λ z. omega (arith, a refl)) ∙ f.place n (a refl)
      go n l false a b true c d = rw (c refl) (get_or-set_same ps k (length s + 1) 0 (omega arith) ∙ sym end)
      go n l false a b false c d =
          let g : k < n = lt_of_le_of_ne (b refl) (λ z. d refl (sym z)) in
          kept (length s + 1) n (d refl) ∙ f.others n g l ∙ sym (stays s at k n end (b refl))

-- from the line's start the places are those of its fields
pub from_start : (s ps : List ℕ) → Starts s 0 ps → FieldStartsKeeps s ps
from_start s ps f = record { size = f.size; place = λ n h. f.place n h ∙ stands_at_lem n s }

-- a field begins behind the one before it and its separator
next_start : (n : ℕ) (fs : List (List ℕ)) → n < length fs → place_of (suc n) fs ≡ place_of n fs + (length (nth n fs) + 1)
next_start n [] h = absurd (omega arith)
next_start zero (f ∷ fs) h = omega arith
next_start (suc n) (f ∷ fs) h = let z : place_of (suc n) fs ≡ place_of n fs + (length (nth n fs) + 1) = next_start n fs (omega arith) in omega arith

module _ (s ps : List ℕ) (starts : FieldStartsKeeps s ps) (n : ℕ) where
  -- there is a field n exactly where its place lies in the line
  pub starts_in : n < 22 → get_or ps n 0 ≤ length s → n < length (fields 44 s)
  starts_in l h = leb-false (length (fields 44 s)) n (sym (stands_ended n s) ∙ rw (stands_at_lem n s, ← starts.place n l) (le-ltb _ _ h))

  pub starts_past : n < 22 → length s < get_or ps n 0 → length (fields 44 s) ≤ n
  starts_past l h = leb-true (length (fields 44 s)) n (sym (stands_ended n s) ∙ rw (stands_at_lem n s, ← starts.place n l) (lt-ltb _ _ h))

  -- and then it ends one byte before the next place
  module _ (l : n < 21) (there : n < length (fields 44 s)) where
    ends : get_or ps (n + 1) 0 ≡ get_or ps n 0 + index_of 44 (drop (get_or ps n 0) s) + 1
    unfolding part_of
    ends =
        let p = get_or ps n 0 in
        let i = index_of 44 (drop p s) in
        let b : part_of s p (p + i) ≡ nth n (fields 44 s) = rw (starts.place n (omega arith)) (field_bytes 44 n s) in
        let z : p + i - p ≡ i = omega arith in
        let d : length (part_of s p (p + i)) ≡ i = rw z (length-take-le i (drop p s) (index_le 44 (drop p s))) in
        let q : get_or ps (n + 1) 0 ≡ place_of (suc n) (fields 44 s) = starts.place (n + 1) (omega arith) ∙ ap (λ (m : ℕ). place_of m (fields 44 s)) (add-one n) in
        let e = ap length b in
        let y = starts.place n (omega arith) in
        omega (arith, next_start n (fields 44 s) there)

    pub start_before : 1 ≤ get_or ps (n + 1) 0
    start_before = let z = ends in omega arith

    pub starts_field : (e : ℕ) (t : List ℕ) → e ≡ get_or ps (n + 1) 0 - 1 → t ≡ part_of s (get_or ps n 0) e → t ≡ nth n (fields 44 s)
    starts_field e t q h =
        let z = ends in
        let i : e ≡ get_or ps n 0 + index_of 44 (drop (get_or ps n 0) s) = omega arith in
        h ∙ rw (i, starts.place n (omega arith)) (field_bytes 44 n s)
