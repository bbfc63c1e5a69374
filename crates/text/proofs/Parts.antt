-- Parts of a line: the bytes and the place of each. Assumes nothing.
use Rattle.std.proofs.Common.{◌≡◌, ℕ, suc, ◌+◌, ◌-◌, ◌<◌, ◌≤◌, Bool, true, false, cond, eqb, List, [], ◌∷◌, length, take, drop, sym, refl, ap, ◌∙◌, arith, length-drop, take_all, drop-drop, Bor, le-ltb, lt-ltb}
use native.Mathlib.Nat.{sub-zero}
use lib.Seq.{take-nil}
use Rattle.text.specs.Bytes.{index_of, count_of}
use Rattle.text.specs.Part.{IsPart, part_of, inside, before, after}
use Rattle.text.proofs.AtIndex.{at_end}

-- what is found lies in the line
pub index_le : (b : ℕ) (s : List ℕ) → index_of b s ≤ length s
index_le b [] = omega arith
index_le b (x ∷ s) = step (eqb x b) (index_le b s)
  where
    step : (t : Bool) → index_of b s ≤ length s → cond t 0 (suc (index_of b s)) ≤ suc (length s)
    step true h = omega arith
    step false h = omega arith

pub count_le : (b : ℕ) (s : List ℕ) → count_of b s ≤ length s
count_le b [] = omega arith
count_le b (x ∷ s) = step (eqb x b) (count_le b s)
  where
    step : (t : Bool) → count_of b s ≤ length s → cond t 1 0 + count_of b s ≤ suc (length s)
    step true h = omega arith
    step false h = omega arith

-- `part`: a part whose ends are brought into the line is the part asked for
pub part_none : (s : List ℕ) (a e k : ℕ) → length s ≤ a → take (k - k) (drop k s) ≡ part_of s a e
unfolding part_of
part_none s a e k h = let z : k - k ≡ 0 = omega arith in rw (z, at_end s a h, take-nil (e - a))

pub part_long : (s : List ℕ) (a e : ℕ) → length s ≤ e → take (length s - a) (drop a s) ≡ part_of s a e
unfolding part_of
part_long s a e h =
    let l = length-drop a s in
    take_all (length s - a) (drop a s) (omega arith) ∙ sym (take_all (e - a) (drop a s) (omega arith))

pub part_back : (s : List ℕ) (a e : ℕ) → e ≤ a → take (a - a) (drop a s) ≡ part_of s a e
unfolding part_of
part_back s a e h =
    let z : a - a ≡ 0 = omega arith in
    let y : e - a ≡ 0 = omega arith in
    rw (z, y)

pub place_past : (s : Bor (List ℕ)) (a : ℕ) → length s.now < a
    → ◌≡◌ {A = ℕ × ℕ} (s.ref_ptr.0, length s.now + s.ref_ptr.1) (s.ref_ptr.0, inside s.now a + s.ref_ptr.1)
unfolding inside
place_past s a h = rw (lt-ltb (length s.now) a h)

pub place_in : (s : Bor (List ℕ)) (a : ℕ) → a ≤ length s.now
    → ◌≡◌ {A = ℕ × ℕ} (s.ref_ptr.0, a + s.ref_ptr.1) (s.ref_ptr.0, inside s.now a + s.ref_ptr.1)
unfolding inside
place_in s a h = rw (le-ltb (length s.now) a h)

-- a part of a part
pub part_shift : (s : List ℕ) (k a e : ℕ) → part_of s (k + a) (k + e) ≡ part_of (drop k s) a e
unfolding part_of
part_shift s k a e = let z : k + e - (k + a) ≡ e - a = omega arith in rw (z, drop-drop)

pub to_end : (s : List ℕ) (a : ℕ) → part_of s a (length s) ≡ drop a s
unfolding part_of
to_end s a = take_all (length s - a) (drop a s) (omega (arith, length-drop a s))

pub from_start : (s : List ℕ) (e : ℕ) → part_of s 0 e ≡ take e s
unfolding part_of
from_start s e = rw sub-zero

-- the same part under other names of its start and its bytes
pub part_as : (s t : Bor (List ℕ)) (a b : ℕ) (x y : List ℕ) → a ≡ b → x ≡ y → IsPart s t a x → IsPart s t b y
part_as s t a b x y e h p = rw (sym e, sym h) p

-- `before_byte` and `after_byte`: the part that ends, or begins, where something was found
module _ (s t : Bor (List ℕ)) (e : ℕ) where
  pub before_part : (b : ℕ) → e ≡ 0 + index_of b s.now → IsPart s t 0 (part_of s.now 0 e) → IsPart s t 0 (before b s.now)
  before_part b q = let z : e ≡ index_of b s.now = omega arith in part_as s t 0 0 _ _ refl (from_start s.now e ∙ ap (λ (n : ℕ). take n s.now) z)

  pub after_part : (b : ℕ) → e ≡ 0 + index_of b s.now → IsPart s t (e + 1) (part_of s.now (e + 1) (length s.now)) → IsPart s t (index_of b s.now + 1) (after b s.now)
  after_part b q =
      let z : e + 1 ≡ index_of b s.now + 1 = omega arith in
      part_as s t (e + 1) _ _ _ z (to_end s.now (e + 1) ∙ ap (λ (n : ℕ). drop n s.now) z)
