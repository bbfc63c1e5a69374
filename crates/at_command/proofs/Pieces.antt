-- Pieces written one behind the other, of which the first 210 bytes are kept. Assumes nothing.
use Rattle.std.proofs.Common.{◌≡◌, ℕ, zero, suc, ◌+◌, ◌-◌, ◌/◌, ◌%◌, ◌<◌, ◌≤◌, Bool, true, false, cond, eqb, ltb, ltb-true, ltb-false, List, [], ◌∷◌, ◌++◌, length, take, drop, min, sym, refl, ap, ◌∙◌, arith, append_assoc, append-nil}
use Rattle.std.proofs.lemmas.List.{take_at, take_all, take_min, length-take, length-take-le}
use Rattle.std.proofs.Math.Seq.{take-append-add}
use lib.ListN.{get_or, set, length-append}
use lib.Seq.{take-suc, take-suc-set}
use native.Mathlib.Numerals.{add-one}
use Rattle.text.specs.Copy.{least, room_for, LayKeeps}
use Rattle.text.specs.Bytes.{count_of}
use Rattle.at_command.specs.Piece.{marked, escape, escaped, quoted, decimal}
use Rattle.at_command.proofs.Decimals.{decimal_one, decimal_more}

-- a piece laid into an array of k bytes behind the n that are kept of it
module _ (k : ℕ) (piece b : List ℕ) (n e : ℕ) (x : List ℕ) (size : length b ≡ k) (h : n ≤ k) (l : LayKeeps piece n b e x) where
  room_is : room_for piece n b ≡ min (k - n) (length piece)
  unfolding room_for least
  room_is = go (ltb (length piece) (length b - n)) (ltb-true (length piece) (length b - n)) (ltb-false (length piece) (length b - n))
    where
      go : (t : Bool) → (t ≡ true → length piece < length b - n) → (t ≡ false → length b - n ≤ length piece) → cond t (length piece) (length b - n) ≡ min (k - n) (length piece)
      go true f g = let j = f refl in omega arith
      go false f g = let j = g refl in omega arith

  pub kept_size : e ≤ k
  kept_size = let r = room_is in let z = l.ends in omega arith

  pub kept : take e x ≡ take k (take n b ++ piece)
  kept =
      let f = length-take-le n b (omega arith) in
      let z = l.ends in
      let r = room_for piece n b in
      let q = room_is in
      let t = length-take r piece in
      let both : length (take n b ++ take r piece) ≡ e = length-append (take n b) (take r piece) ∙ omega arith in
      let rest : take r piece ≡ take (k - n) piece = ap (λ (j : ℕ). take j piece) q ∙ take_min (k - n) piece in
      let whole : k ≡ length (take n b) + (k - n) = omega arith in
      ap (take e) l.holds
      ∙ take_at (take n b ++ take r piece) (drop (n + r) b) e both
      ∙ ap (λ (s : List ℕ). take n b ++ s) rest
      ∙ sym (ap (λ (j : ℕ). take j (take n b ++ piece)) whole ∙ take-append-add (take n b) piece (k - n))

-- one byte behind the n that are kept of it, and one that has no room there
pub byte_kept : (k n x : ℕ) (b : List ℕ) → length b ≡ k → n < k → take (n + 1) (set b n x) ≡ take k (take n b ++ x ∷ [])
byte_kept k n x b size h =
    let long : length (take n b ++ x ∷ []) ≤ k = omega (arith, length-append (take n b) (x ∷ []), length-take-le n b (omega arith)) in
    ap (λ (j : ℕ). take j (set b n x)) (add-one n) ∙ take-suc-set b n x (omega arith) ∙ sym (take_all k (take n b ++ x ∷ []) long)

pub byte_dropped : (k n x : ℕ) (b : List ℕ) → length b ≡ k → n ≤ k → k ≤ n → take n b ≡ take k (take n b ++ x ∷ [])
byte_dropped k n x b size h most = let full : length (take n b) ≡ k = omega (arith, length-take-le n b (omega arith)) in sym (take_at (take n b) (x ∷ []) k full)

-- a piece behind what was kept of another
pub kept_on : (k : ℕ) (s t : List ℕ) → take k (take k s ++ t) ≡ take k (s ++ t)
kept_on zero s t = refl
kept_on (suc k) [] t = refl
kept_on (suc k) (x ∷ s) t = ap (λ (r : List ℕ). x ∷ r) (kept_on k s t)

-- a command that its pieces so far are, cut to 210 bytes; and with one piece more
pub record Holds (t p : List ℕ) : Type 0 where
  pub is : t ≡ take 210 p

pub on : {s t p : List ℕ} (w : List ℕ) → Holds s p → t ≡ take 210 (s ++ w) → Holds t (p ++ w)
on {s} {t} {p} w h k = record { is = k ∙ ap (λ (r : List ℕ). take 210 (r ++ w)) h.is ∙ kept_on 210 p w }

pub nothing : {t : List ℕ} → t ≡ [] → Holds t []
nothing e = record { is = e }

kept_behind : (k : ℕ) (s p q : List ℕ) → take k (take k (s ++ p) ++ q) ≡ take k (s ++ (p ++ q))
kept_behind k s p q = kept_on k (s ++ p) q ∙ ap (take k) (append_assoc s p q)

-- `push_text`, `lay_text` and `is_plain`, and `Command::quoted`
next_byte : (s : List ℕ) (i : ℕ) → i < length s → take (i + 1) s ≡ take i s ++ get_or s i 0 ∷ []
next_byte s i h = rw (add-one, take-suc s i 0)

escaped_append : (s t : List ℕ) → escaped (s ++ t) ≡ escaped s ++ escaped t
escaped_append [] t = refl
escaped_append (x ∷ s) t = ap (λ (r : List ℕ). escape x ++ r) (escaped_append s t) ∙ sym (append_assoc (escape x) (escaped s) (escaped t))

module _ (s piece : List ℕ) (i : ℕ) (h : i < length piece) (m : Bool) (is : m ≡ marked (get_or piece i 0)) where
  next_escape : (w : List ℕ) → escape (get_or piece i 0) ≡ w → escaped (take (i + 1) piece) ≡ escaped (take i piece) ++ w
  next_escape w k =
      ap escaped (next_byte piece i h)
      ∙ escaped_append (take i piece) (get_or piece i 0 ∷ [])
      ∙ ap (λ (r : List ℕ). escaped (take i piece) ++ r) (append-nil (escape (get_or piece i 0)) ∙ k)

  pub escaped_one : m ≡ false → take 210 (take 210 (s ++ escaped (take i piece)) ++ get_or piece i 0 ∷ []) ≡ take 210 (s ++ escaped (take (i + 1) piece))
  escaped_one f = kept_behind 210 s (escaped (take i piece)) (get_or piece i 0 ∷ []) ∙ ap (λ (r : List ℕ). take 210 (s ++ r)) (sym (next_escape (get_or piece i 0 ∷ []) (rw (sym is ∙ f))))

  pub escaped_two : m ≡ true → take 210 (take 210 (take 210 (s ++ escaped (take i piece)) ++ 92 ∷ []) ++ get_or piece i 0 ∷ []) ≡ take 210 (s ++ escaped (take (i + 1) piece))
  escaped_two t =
      let x = get_or piece i 0 in
      ap (λ (r : List ℕ). take 210 (r ++ x ∷ [])) (kept_behind 210 s (escaped (take i piece)) (92 ∷ []))
      ∙ kept_behind 210 s (escaped (take i piece) ++ 92 ∷ []) (x ∷ [])
      ∙ ap (λ (r : List ℕ). take 210 (s ++ r)) (append_assoc (escaped (take i piece)) (92 ∷ []) (x ∷ []) ∙ sym (next_escape (92 ∷ x ∷ []) (rw (sym is ∙ t))))

-- a text with neither quote nor backslash
pub none_marked : (s : List ℕ) → count_of 34 s ≡ 0 → count_of 92 s ≡ 0 → escaped s ≡ s
none_marked [] e f = refl
none_marked (x ∷ s) e f = go (eqb x 34) (eqb x 92) refl refl (λ p q. none_marked s p q)
  where
    go : (a b : Bool) → eqb x 34 ≡ a → eqb x 92 ≡ b → (count_of 34 s ≡ 0 → count_of 92 s ≡ 0 → escaped s ≡ s) → escaped (x ∷ s) ≡ x ∷ s
    go true b p q rest = absurd (let z = rw p at e in omega arith)
    go false true p q rest = absurd (let z = rw q at f in omega arith)
    go false false p q rest =
        let z = rw p at e in
        let y = rw q at f in
        rw (p, q) (ap (λ (r : List ℕ). x ∷ r) (rest (omega arith) (omega arith)))

pub none_escaped : (s : List ℕ) → length s ≤ 210 → s ≡ take 210 (s ++ [])
none_escaped s h = sym (ap (take 210) (append-nil s) ∙ take_all 210 s h)

-- the text between its quotes
pub all_quoted : (s piece : List ℕ) → take 210 (take 210 (take 210 (s ++ 34 ∷ []) ++ escaped piece) ++ 34 ∷ []) ≡ take 210 (s ++ quoted piece)
unfolding quoted
all_quoted s piece =
    let e = escaped piece in
    ap (λ (r : List ℕ). take 210 (r ++ 34 ∷ [])) (kept_behind 210 s (34 ∷ []) e)
    ∙ kept_behind 210 s (34 ∷ [] ++ e) (34 ∷ [])

-- `Command::decimal`
module _ (s : List ℕ) (n d : ℕ) (is : d ≡ 48 + n % 10) where
  pub last_digit : 10 ≤ n → take 210 (take 210 (s ++ decimal (n / 10)) ++ d ∷ []) ≡ take 210 (s ++ decimal n)
  last_digit h = rw is (kept_behind 210 s (decimal (n / 10)) ((48 + n % 10) ∷ []) ∙ ap (λ (r : List ℕ). take 210 (s ++ r)) (sym (decimal_more n h)))

  pub only_digit : n < 10 → take 210 (s ++ d ∷ []) ≡ take 210 (s ++ decimal n)
  only_digit h = let e : d ≡ 48 + n = omega arith in ap (λ (r : List ℕ). take 210 (s ++ r)) (ap (λ (k : ℕ). k ∷ []) e ∙ sym (decimal_one n h))
