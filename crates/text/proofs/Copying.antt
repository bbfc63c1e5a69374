-- Bytes laid into a buffer one by one; and what is laid where the buffer has room for all of them. Assumes nothing.
use Rattle.std.proofs.Common.{◌≡◌, ℕ, ◌+◌, ◌-◌, ◌<◌, ◌≤◌, Bool, true, false, cond, ltb, List, ◌++◌, length, get_or, take, drop, set, sym, refl, ap, ◌∙◌, add-one, arith, ltb-false, ltb-true, min}
use mathlib.Core.List.{append_assoc}
use lib.Lanes.{put_chunk}
use Rattle.std.proofs.lemmas.Simd.{put_chunk_is}
use lib.Seq.{paste, paste-zero, paste-suc, take-paste, drop-paste, take-take, drop-drop, take-add, take-append-add, length-take-le, take-length}
use Rattle.text.specs.Copy.{least, room_for, LayKeeps}

-- the smaller of two
pub least_is : (a b : ℕ) → least a b ≡ min a b
unfolding least
least_is a b = go (ltb a b) (ltb-true a b) (ltb-false a b)
  where
    go : (t : Bool) → (t ≡ true → a < b) → (t ≡ false → b ≤ a) → cond t a b ≡ min a b
    go true f g = let h = f refl in omega arith
    go false f g = let h = g refl in omega arith

-- it is at most either: n, which the code has for it
pub least_le : (a b n : ℕ) → n ≡ least a b → (n ≤ a) × (n ≤ b)
unfolding least
least_le a b n e = go (ltb a b) (ltb-true a b) (ltb-false a b) e
  where
    go : (t : Bool) → (t ≡ true → a < b) → (t ≡ false → b ≤ a) → n ≡ cond t a b → (n ≤ a) × (n ≤ b)
    go true f g z = let h = f refl in (omega arith, omega arith)
    go false f g z = let h = g refl in (omega arith, omega arith)

-- a vector's lanes, the first k of a list, stored at an index
pub stored : (d s : List ℕ) (a k : ℕ) → k ≤ length s → a + k ≤ length d → put_chunk a d (take k s) ≡ paste d a s k
stored d s a k some room =
    let long : length (take k s) ≡ k = length-take-le k s some in
    put_chunk_is a d (take k s) (omega arith)
    ∙ ap (λ (j : ℕ). take a d ++ (take k s ++ drop j (drop a d))) long
    ∙ ap (λ (l : List ℕ). take a d ++ (take k s ++ l)) (drop-drop k a d)
    ∙ sym (append_assoc (take a d) (take k s) (drop (a + k) d))

-- a chunk of k bytes, from i on, laid where the first m are laid and reach it: the piece is laid up to
-- the chunk's end, also where some of the chunk was laid before
module _ (b piece : List ℕ) (at m i k n : ℕ) (from : i ≤ m) (reach : m ≤ i + k) (is : n ≡ i + k) (some : n ≤ length piece) (room : at + n ≤ length b) where
  front : take (at + i) (paste b at piece m) ≡ take at b ++ take i piece
  front =
      let seam : length (take at b) ≡ at = length-take-le at b (omega arith) in
      sym (take-take (at + i) (at + m) (paste b at piece m) (omega arith))
      ∙ ap (take (at + i)) (take-paste b at piece m (omega arith) (omega arith))
      ∙ ap (λ (j : ℕ). take (j + i) (take at b ++ take m piece)) (sym seam)
      ∙ take-append-add (take at b) (take m piece) i
      ∙ ap (λ (l : List ℕ). take at b ++ l) (take-take i m piece from)

  back : drop (at + i + k) (paste b at piece m) ≡ drop (at + n) b
  back =
      let rest = i + k - m in
      let e : at + m + rest ≡ at + i + k = omega arith in
      let f : at + m + rest ≡ at + n = omega arith in
      ap (λ (j : ℕ). drop j (paste b at piece m)) (sym e)
      ∙ sym (drop-drop rest (at + m) (paste b at piece m))
      ∙ ap (drop rest) (drop-paste b at piece m (omega arith) (omega arith))
      ∙ drop-drop rest (at + m) b
      ∙ ap (λ (j : ℕ). drop j b) f

  pub lay_on : {x y : List ℕ} → x ≡ paste b at piece m → y ≡ paste x (at + i) (drop i piece) k → y ≡ paste b at piece n
  lay_on {x} {y} e f =
      f
      ∙ ap (λ (l : List ℕ). paste l (at + i) (drop i piece) k) e
      ∙ ap (λ (l : List ℕ). l ++ take k (drop i piece) ++ drop (at + i + k) (paste b at piece m)) front
      ∙ ap (λ (l : List ℕ). take at b ++ take i piece ++ take k (drop i piece) ++ l) back
      ∙ ap (λ (l : List ℕ). l ++ drop (at + n) b)
      (append_assoc (take at b) (take i piece) (take k (drop i piece)) ∙ ap (λ (l : List ℕ). take at b ++ l) (sym (take-add i k piece) ∙ ap (λ (j : ℕ). take j piece) (sym is)))

-- `lay_few`: one chunk, and one that ends where the piece does
pub lay_both : (b piece : List ℕ) (at k n : ℕ) {x y : List ℕ} → k ≤ n → n ≤ k + k → n ≤ length piece → at + n ≤ length b
    → x ≡ paste b (at + 0) (drop 0 piece) k → y ≡ paste x (at + (n - k)) (drop (n - k) piece) k → y ≡ paste b at piece n
lay_both b piece at k n h l some room e f =
    lay_on b piece at k (n - k) k n (omega arith) (omega arith) (omega arith) some room
    (lay_on b piece at 0 0 k k (omega arith) (omega arith) (omega arith) (omega arith) (omega arith) (paste-zero b at piece) e)
    f

pub lay_more : (b piece : List ℕ) (at i : ℕ) → i < length piece → at + i < length b → set (paste b at piece i) (at + i) (get_or piece i 0) ≡ paste b at piece (i + 1)
lay_more b piece at i h r = paste-suc b at piece i 0 r h ∙ ap (λ (k : ℕ). paste b at piece k) (sym (add-one i))

-- `lay`
module _ (piece : List ℕ) (at : ℕ) (b : List ℕ) where
  room_none : length b < at → room_for piece at b ≡ 0
  unfolding room_for
  room_none h = let z : length b - at ≡ 0 = omega arith in let l = least_le (length piece) (length b - at) _ refl in omega arith

  pub lay_none : length b < at → LayKeeps piece at b at b
  lay_none h = record { ends = rw (room_none h) (omega arith); holds = rw (room_none h) (paste-zero b at piece) }

  room_is : room_for piece at b ≡ min (length piece) (length b - at)
  unfolding room_for
  room_is = least_is (length piece) (length b - at)

  pub lay_end : (n : ℕ) {x : List ℕ} → n ≡ min (length piece) (length b - at) → x ≡ paste b at piece n → LayKeeps piece at b (at + n) x
  lay_end n k e =
      let r : n ≡ room_for piece at b = k ∙ sym room_is in
      record { ends = ap (λ (j : ℕ). at + j) r; holds = e ∙ ap (λ (j : ℕ). paste b at piece j) r }

-- a piece that has room is laid whole
module _ (piece : List ℕ) (at : ℕ) (b : List ℕ) (e : ℕ) (x : List ℕ) (room : at + length piece ≤ length b) (l : LayKeeps piece at b e x) where
  all_room : room_for piece at b ≡ length piece
  unfolding room_for least
  all_room = by (ltb (length piece) (length b - at)) (ltb-false (length piece) (length b - at))
    where
      by : (t : Bool) → (t ≡ false → length b - at ≤ length piece) → cond t (length piece) (length b - at) ≡ length piece
      by true f = refl
      by false f = let h = f refl in omega arith

  pub whole_ends : e ≡ at + length piece
  whole_ends = l.ends ∙ ap (λ (j : ℕ). at + j) all_room

  pub whole_holds : x ≡ take at b ++ piece ++ drop (at + length piece) b
  whole_holds = l.holds ∙ ap (λ (j : ℕ). paste b at piece j) all_room ∙ ap (λ (p : List ℕ). take at b ++ p ++ drop (at + length piece) b) (take-length piece)
