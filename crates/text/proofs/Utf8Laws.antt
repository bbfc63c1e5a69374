-- UTF-8: the test goes from character to character, what the lead bytes of the rows ask for, and the bytes that are passed as ASCII; the walk by bytes is Utf8Walk.antt.
use Rattle.std.proofs.Common.{◌≡◌, ℕ, zero, suc, ◌+◌, ◌-◌, ◌*◌, ◌^◌, ◌/◌, ◌<◌, ◌≤◌, Bool, true, false, cond, not, ◌&&◌, ◌||◌, T, eqb, ltb, leb, List, [], ◌∷◌, length, get_or, take, drop, sym, refl, ap, ◌∙◌, subst, add-zero, zero-add, arith, ltb→lt, length-drop, drop-drop, pow_pos, ltb-true, ne_eqb, le-leb, leb-true, leb-false, position, unwrap_or, Option, take_all, get_or-take, get_or-drop, w64, lit<, below_none, below_more}
use mathlib.Core.Bool.{false≢true, and-false}
use native.Mathlib.Nat.{eq_of_mul-eq-mul_right}
use lib.Bits.{bit_and, and_block}
use Rattle.std.specs.Int.{from_le_bytes, sum_through, byte_worth}
use Rattle.std.specs.List.{position_or_len}
use Rattle.std.specs.Simd.{first_chunks}
use Rattle.std.proofs.lemmas.List.Sums.{prefix_len-le-length, fails_before_first}
use borrow.Author.Tests.{lt-leb}
use Rattle.text.specs.Bytes.{within}
use Rattle.text.specs.Utf8.{Range, rows, fits, size_by, char_size, behind, utf8, AsciiIn}
use Rattle.text.proofs.AtIndex.{at_next}
use Rattle.text.proofs.Below.{below}
use Rattle.text.proofs.Finding.{position_is}
use Rattle.text.proofs.Tests.{and_left, and_right}

-- what has another length fits no row
pub fits_length : (r : List Range) (c : List ℕ) → fits r c ≡ true → length r ≡ length c
fits_length [] [] h = refl
fits_length [] (x ∷ c) h = absurd (false≢true h)
fits_length (q ∷ r) [] h = absurd (false≢true h)
fits_length (q ∷ r) (x ∷ c) h = ap suc (fits_length r c (and_right (within q.low q.high x) (fits r c) h))

-- a place where no character stands is not passed
stuck : (n : ℕ) (s : List ℕ) → char_size s ≡ 0 → behind n s ≡ s
unfolding behind
stuck zero s h = refl
stuck (suc n) s h = rw h (stuck n s h)

nothing : (n : ℕ) (s : List ℕ) → length s ≤ 0 → behind n s ≡ s
unfolding char_size
nothing n [] h = stuck n [] refl
nothing n (x ∷ s) h = absurd (omega arith)

shorter : (n : ℕ) (s : List ℕ) → length s ≤ suc n → (char_size s ≡ 0 → ⊥) → length (drop (char_size s) s) ≤ n
shorter n s h k = omega (arith, length-drop (char_size s) s)

-- more steps than bytes change nothing
enough : (m n : ℕ) (s : List ℕ) → length s ≤ m → length s ≤ n → behind m s ≡ behind n s
unfolding behind
enough zero n s h k = nothing 0 s h ∙ sym (nothing n s h)
enough (suc m) zero s h k = nothing (suc m) s k ∙ sym (nothing 0 s k)
enough (suc m) (suc n) s h k = step (char_size s) refl (enough m n (drop (char_size s) s))
  where
    step : (j : ℕ) → char_size s ≡ j
        → (length (drop (char_size s) s) ≤ m → length (drop (char_size s) s) ≤ n → behind m (drop (char_size s) s) ≡ behind n (drop (char_size s) s))
        → behind m (drop (char_size s) s) ≡ behind n (drop (char_size s) s)
    step zero e f = rw e (stuck m s e ∙ sym (stuck n s e))
    step (suc j) e f = f (shorter m s h (omega arith)) (shorter n s k (omega arith))

-- the test goes on behind the character at the front, and fails where none stands
pub utf8_next : (s : List ℕ) → utf8 s ≡ utf8 (drop (char_size s) s)
unfolding utf8 behind
utf8_next s =
    let t = drop (char_size s) s in
    let h : length t ≤ length s = omega (arith, length-drop (char_size s) s) in
    ap (λ (u : List ℕ). eqb (length u) 0) (enough (length s) (suc (length s)) s (omega arith) (omega arith) ∙ enough (length s) (length t) t h (omega arith))

pub utf8_not : (s : List ℕ) → char_size s ≡ 0 → (length s ≡ 0 → ⊥) → utf8 s ≡ false
unfolding utf8
utf8_not s e h = rw (stuck (length s) s e) (ne_eqb (length s) 0 h)

-- none of the bytes from a up to b lies in the range, or all do
abbrev pub shuns : ℕ → ℕ → Range → Bool
shuns a b r = ltb r.high a || leb b r.low

abbrev pub takes : ℕ → ℕ → Range → Bool
takes a b r = leb r.low a && leb b (suc r.high)

module _ (a b x : ℕ) (above : a ≤ x) (below : x < b) where
  out : (r : Range) (t : Bool) → ltb r.high a ≡ t → t || leb b r.low ≡ true → within r.low r.high x ≡ false
  out r true e h = rw (lt-leb x r.high (omega (arith, ltb-true r.high a e)), and-false)
  out r false e h = rw (lt-leb r.low x (omega (arith, leb-true b r.low h)))

  out_or_in : (r : Range) (t : Bool) → shuns a b r ≡ t → t || takes a b r ≡ true → within r.low r.high x ≡ not t
  out_or_in r true e h = out r (ltb r.high a) refl e
  out_or_in r false e h =
      let l : r.low ≤ a = leb-true r.low a (and_left (leb r.low a) (leb b (suc r.high)) h) in
      let k : b ≤ suc r.high = leb-true b (suc r.high) (and_right (leb r.low a) (leb b (suc r.high)) h) in
      rw (le-leb r.low x (omega arith), le-leb x r.high (omega arith))

-- no row parts the bytes from a up to b as lead bytes; and the size then, the same for all of them
abbrev pub whole : ℕ → ℕ → List (List Range) → Bool
whole a b [] = true
whole a b ([] ∷ rs) = false
whole a b ((r ∷ q) ∷ rs) = (shuns a b r || takes a b r) && whole a b rs

abbrev pub led : ℕ → ℕ → List (List Range) → List ℕ → ℕ
led a b [] t = 0
led a b ([] ∷ rs) t = 0
led a b ((r ∷ q) ∷ rs) t = cond (not (shuns a b r) && fits q (take (length q) t)) (suc (length q)) (led a b rs t)

pub led_size : (a b : ℕ) (rs : List (List Range)) (x : ℕ) (t : List ℕ) → whole a b rs ≡ true → a ≤ x → x < b → size_by rs (x ∷ t) ≡ led a b rs t
led_size a b [] x t h k l = refl
led_size a b ([] ∷ rs) x t h k l = absurd (false≢true h)
led_size a b ((r ∷ q) ∷ rs) x t h k l =
    rw (out_or_in a b x k l r (shuns a b r) refl (and_left (shuns a b r || takes a b r) (whole a b rs) h))
    (ap (cond (not (shuns a b r) && fits q (take (length q) t)) (suc (length q))) (led_size a b rs x t (and_right (shuns a b r || takes a b r) (whole a b rs) h) k l))

lead_ascii : (s : List ℕ) (i : ℕ) → i < length s → get_or s i 0 < 0x80 → char_size (drop i s) ≡ 1
unfolding char_size
lead_ascii s i h l = ap (size_by rows) (at_next s i h) ∙ led_size 0 0x80 rows (get_or s i 0) (drop (i + 1) s) refl (omega arith) l

pub utf8_ascii : (s : List ℕ) (i : ℕ) → utf8 s ≡ utf8 (drop i s) → i < length s → get_or s i 0 < 0x80 → utf8 s ≡ utf8 (drop (i + 1) s)
utf8_ascii s i inv h l = inv ∙ utf8_next (drop i s) ∙ ap utf8 (drop-drop (char_size (drop i s)) i s ∙ ap (λ (k : ℕ). drop (i + k) s) (lead_ascii s i h l))

-- `behind_ascii`
module _ (s : List ℕ) where
  ascii_run : (a n : ℕ) → a + n ≤ length s → utf8 s ≡ utf8 (drop a s) → AsciiIn s a n → utf8 s ≡ utf8 (drop (a + n) s)
  ascii_run a zero h inv f = rw add-zero inv
  ascii_run a (suc n) h inv f =
      let e : a + suc n ≡ a + n + 1 = omega arith in
      rw e
      (utf8_ascii s (a + n) (ascii_run a n (omega arith) inv (λ k l z. f k l (omega arith))) (omega arith) (f (a + n) (omega arith) (omega arith)))

-- what is left of a text at k, as `&s[k..]` has it
pub left_at : (s : List ℕ) (k : ℕ) → utf8 s ≡ utf8 (drop k s) → utf8 s ≡ utf8 (take (length s - k) (drop k s))
left_at s k inv = let l = length-drop k s in let t = take_all (length s - k) (drop k s) (omega arith) in rw t inv

-- up to the first byte that is not ASCII
pub ascii_few : (s : List ℕ) (n : ℕ) (o : Option ℕ) → n ≡ unwrap_or o (length s) → o ≡ position (leb 0x80) s → utf8 s ≡ utf8 (take (length s - n) (drop n s))
ascii_few s n o is e =
    let k = position_or_len (leb 0x80) s in
    let z : n ≡ k = is ∙ rw e (position_is (leb 0x80) s) in
    let run = ascii_run s 0 k (omega (arith, prefix_len-le-length (λ x. not (leb 0x80 x)) s)) refl (λ k l h. leb-false 0x80 (get_or s k 0) (fails_before_first (leb 0x80) s k 0 (omega arith))) in
    rw z (left_at s k (rw zero-add at run))

chunk_at : (n k i : ℕ) (s : List ℕ) → i < k → get_or (first_chunks n k s) i [] ≡ take n (drop (n * i) s)
chunk_at n zero i s h = absurd (omega arith)
chunk_at n (suc k) zero s h = let z : n * 0 ≡ 0 = omega arith in rw z
chunk_at n (suc k) (suc i) s h =
    let z : n + n * i ≡ n * suc i = omega arith in
    chunk_at n k i (drop n s) (omega arith) ∙ ap (take n) (drop-drop (n * i) n s ∙ ap (λ (m : ℕ). drop m s) z)

-- i chunks of eight are passed
module _ (s : List ℕ) (i : ℕ) (inv : utf8 s ≡ utf8 (drop (8 * i) s)) where
  pub eight_more : (chunks : List (List ℕ)) → chunks ≡ first_chunks 8 (length s / 8) s → length chunks ≡ length s / 8 → i < length chunks → AsciiIn (get_or chunks i []) 0 8
      → utf8 s ≡ utf8 (drop (8 * (i + 1)) s)
  eight_more chunks e l h ascii =
      let z : 8 * (i + 1) ≡ 8 * i + 8 = omega arith in
      let c : get_or chunks i [] ≡ take 8 (drop (8 * i) s) = ap (λ (cs : List (List ℕ)). get_or cs i []) e ∙ chunk_at 8 (length s / 8) i s (omega arith) in
      rw z
      (ascii_run s (8 * i) 8 (omega arith) inv
      (λ k m n.
      let x : 8 * i + (k - 8 * i) ≡ k = omega arith in
      let y = ascii (k - 8 * i) (omega arith) (omega arith) in
      let w : get_or (get_or chunks i []) (k - 8 * i) 0 ≡ get_or s k 0 =
      ap (λ (t : List ℕ). get_or t (k - 8 * i) 0) c ∙ get_or-take 8 (drop (8 * i) s) (k - 8 * i) 0 (omega arith) ∙ get_or-drop (8 * i) s (k - 8 * i) 0 ∙ ap (λ (n : ℕ). get_or s n 0) x in
      omega arith))

  -- fewer than eight are left, and the last eight are ASCII
  pub last_eight : (last : List ℕ) → 8 ≤ length s → length s < 8 * i + 8 → 8 * i ≤ length s → last ≡ drop (length s - 8) s → AsciiIn last 0 8
      → utf8 s ≡ utf8 (take (length s - length s) (drop (length s) s))
  last_eight last h few room e ascii =
      let z : 8 * i + (length s - 8 * i) ≡ length s = omega arith in
      let run = ascii_run s (8 * i) (length s - 8 * i) (omega arith) inv
      (λ k l m.
      let x : length s - 8 + (k - (length s - 8)) ≡ k = omega arith in
      let y = ascii (k - (length s - 8)) (omega arith) (omega arith) in
      let w : get_or last (k - (length s - 8)) 0 ≡ get_or s k 0 =
      ap (λ (t : List ℕ). get_or t (k - (length s - 8)) 0) e ∙ get_or-drop (length s - 8) s (k - (length s - 8)) 0 ∙ ap (λ (n : ℕ). get_or s n 0) x in
      omega arith) in
      left_at s (length s) (rw z at run)

pub utf8_none : (s : List ℕ) → length s ≡ 0 → utf8 s ≡ true
unfolding utf8 behind
utf8_none [] e = refl
utf8_none (x ∷ s) e = absurd (omega arith)

mask_byte : (x : ℕ) → x < 256 → bit_and x 0x80 ≡ 0 → x < 0x80
mask_byte x h e = ltb→lt x 0x80 (subst (λ (n : ℕ). T (ltb 0 n || ltb x 0x80)) e (below 256 (λ x. ltb 0 (bit_and x 0x80) || ltb x 0x80) tt x h))

-- `are_ascii`: a byte b above j bits
above : (j low b m : ℕ) → low < 2 ^ j → m < 2 ^ j → b < 256 → bit_and (low + b * 2 ^ j) (0x80 * 2 ^ j + m) ≡ 0 → (bit_and low m ≡ 0) × (b < 0x80)
above j low b m l n h e =
    let z : bit_and b 0x80 * 2 ^ j + bit_and low m ≡ 0 = sym (and_block j b 0x80 low m l n) ∙ ap (λ (x : ℕ). bit_and x (0x80 * 2 ^ j + m)) (omega arith) ∙ e in
    let y : bit_and b 0x80 ≡ 0 = eq_of_mul-eq-mul_right (2 ^ j) (pow_pos j) (bit_and b 0x80) 0 (omega arith) in
    (omega arith, mask_byte b h y)

pub ascii_eight : (s : List ℕ) → ((i : ℕ) → get_or s i 0 < 256) → bit_and (from_le_bytes w64 s) 0x8080808080808080 ≡ 0 → AsciiIn s 0 8
ascii_eight s fits e =
    let f = λ (i : ℕ). get_or s i 0 in
    let low = λ (k : ℕ). sum_through (λ i. byte_worth i (f i)) k in
    let P : ℕ → Type 0 = λ i. f i < 0x80 in
    let b7 = above 56 (low 6) (f 7) 0x80808080808080 (omega (arith, fits 0, fits 1, fits 2, fits 3, fits 4, fits 5, fits 6)) (lit< tt) (fits 7) e in
    let b6 = above 48 (low 5) (f 6) 0x808080808080 (omega (arith, fits 0, fits 1, fits 2, fits 3, fits 4, fits 5)) (lit< tt) (fits 6) b7.0 in
    let b5 = above 40 (low 4) (f 5) 0x8080808080 (omega (arith, fits 0, fits 1, fits 2, fits 3, fits 4)) (lit< tt) (fits 5) b6.0 in
    let b4 = above 32 (low 3) (f 4) 0x80808080 (omega (arith, fits 0, fits 1, fits 2, fits 3)) (lit< tt) (fits 4) b5.0 in
    let b3 = above 24 (low 2) (f 3) 0x808080 (omega (arith, fits 0, fits 1, fits 2)) (lit< tt) (fits 3) b4.0 in
    let b2 = above 16 (low 1) (f 2) 0x8080 (omega (arith, fits 0, fits 1)) (lit< tt) (fits 2) b3.0 in
    let b1 = above 8 (low 0) (f 1) 0x80 (omega (arith, fits 0)) (lit< tt) (fits 1) b2.0 in
    λ k l h. (below_more P 7 (below_more P 6 (below_more P 5 (below_more P 4 (below_more P 3 (below_more P 2 (below_more P 1 (below_more P 0 (below_none P) (mask_byte (f 0) (fits 0) b1.0)) b1.1) b2.1) b3.1) b4.1) b5.1) b6.1) b7.1) k h
