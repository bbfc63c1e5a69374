-- Laws of a search through a chunk: its turns, the bytes that are laid at once, and the bytes with no LF.
use Prim.Native.Nat.{ℕ, zero, suc, min, ◌+◌, ◌-◌, ◌*◌, ◌/◌, ◌%◌, ◌^◌, ◌≤◌, ◌<◌}
use mathlib.Core.Path.{◌≡◌, refl, sym, ap, ◌∙◌}
use mathlib.Core.Bool.{Bool, true, false, cond}
use mathlib.Core.Logic.{⊎_elim}
use mathlib.Core.List.{List, [], ◌∷◌, ◌++◌, map as map_list}
use mathlib.Core.Option.{Option, none, some}
use Rattle.std.specs.Prelude as P
use native.Mathlib.Omega.{arith}
use native.Mathlib.Numerals.{add-one}
use lib.ListN.{length, take, drop, get_or, set, replicate, length-set, length-drop, drop_of_length-le}
use Rattle.text.proofs.Copying.{stored, lay_on, lay_more}
use borrow.Author.Count.{below_more}
use Rattle.std.proofs.lemmas.List.{take-take, get_or-drop}
use Rattle.std.proofs.lemmas.Simd.{bitmask_splat, none_from_empty_mask}
use lib.Lanes.{put_chunk, mask_l, top, zip2}
use mir.Syntax.{w8}
use mir.Val.{bits, hbits}
use lib.Seq.{length-take-le, drop-cons, get_or-take, get_or-set_same, paste, paste-zero, paste-suc, length-paste, take_all}
use lib.Dec.{eqb, ltb}
use borrow.Author.Tests.{eqb-true, eqb-false, ltb-true, ltb-false}
use Rattle.desk.specs.Cut.{is_prompt}
use Rattle.desk.specs.Machine.{Step, Stop, onward, feed}
use Rattle.desk.specs.Lines.{Line}
use Rattle.desk.specs.Desk.{Tray, buffered}
use Rattle.desk.specs.Says.{found_line}
use Rattle.desk.specs.declared.cutter.Piece.{Piece as PieceCode}
use Rattle.desk.specs.declared.cutter.Piece.TheVariants as C
use Rattle.desk.specs.Search.{tray_of, found_after, Filled, Plain}
use Rattle.text.proofs.Tests.{both, never}
use Rattle.desk.proofs.Cutting.{past_below, prompt_first, prompt_far, push_more}

-- ---- one byte more

found_none : (n : ℕ) (t : Tray) → found_after n t [] ≡ record { taken = n; tell = none; state = t }
unfolding feed
found_none n t = let e : n + 0 ≡ n = omega arith in rw e

-- whether a search stops there
abbrev pub stops : Option Line → Bool
stops none = false
stops (some l) = true

pub found_stops : (p : P.Option PieceCode) (s : List ℕ) → stops (found_line p s) ≡ P.is_some p
found_stops P.None s = refl
found_stops (P.Some C.Overlong) s = refl
found_stops (P.Some (C.Line n)) s = refl

onward_stop : (o : Option Line) (t : Tray) (f : Stop Tray Line) → stops o ≡ true → onward o t f ≡ record { taken = 1; tell = o; state = t }
onward_stop none t f e = never (cc)
onward_stop (some l) t f e = refl

onward_on : (o : Option Line) (t : Tray) (f : Stop Tray Line) → stops o ≡ false → onward o t f ≡ record { taken = suc f.taken; tell = f.tell; state = f.state }
onward_on none t f e = refl
onward_on (some l) t f e = never (cc)

module _ (n : ℕ) (t : Tray) (b : ℕ) (bs : List ℕ) where
  found_stop : stops (buffered t b).tell ≡ true → found_after n t (b ∷ bs) ≡ record { taken = n + 1; tell = (buffered t b).tell; state = (buffered t b).state }
  unfolding feed
  found_stop e = rw (onward_stop (buffered t b).tell (buffered t b).state (feed buffered (buffered t b).state bs) e)

  found_on : stops (buffered t b).tell ≡ false → found_after n t (b ∷ bs) ≡ found_after (n + 1) (buffered t b).state bs
  unfolding feed
  found_on e =
      let next = (buffered t b).state in
      let k : n + suc (feed buffered next bs).taken ≡ n + 1 + (feed buffered next bs).taken = omega arith in
      rw (onward_on (buffered t b).tell next (feed buffered next bs) e, k)

-- ---- a turn of the search, at the byte i of the chunk

module _ (chunk : List ℕ) (i : ℕ) (t : Tray) where
  pub search_end : length chunk ≤ i → found_after i t (drop i chunk) ≡ record { taken = i; tell = none; state = t }
  search_end h = rw (drop_of_length-le chunk h) (found_none i t)

  module _ {p : Step Tray Line} (more : i < length chunk) (e : p ≡ buffered t (get_or chunk i 0)) where
    pub search_stop : stops p.tell ≡ true → found_after i t (drop i chunk) ≡ record { taken = i + 1; tell = p.tell; state = p.state }
    search_stop g = rw (drop-cons chunk i 0 more, e) (found_stop i t (get_or chunk i 0) (drop (suc i) chunk) (rw e at g))

    pub search_on : stops p.tell ≡ false → found_after i t (drop i chunk) ≡ found_after (i + 1) p.state (drop (i + 1) chunk)
    search_on g = rw (drop-cons chunk i 0 more, e, add-one i) (rw (add-one i) at (found_on i t (get_or chunk i 0) (drop (suc i) chunk) (rw e at g)))

-- ---- bytes laid, none of them an LF or part of a prompt

plain_push : (s : List ℕ) (len b : ℕ) → length s ≡ 257 → len < 256 → Plain s len b → false ≡ is_prompt (take len s ++ b ∷ [])
plain_push s len b full room p =
    ⊎_elim
    (λ (q : eqb len 1 ≡ true). let one : len ≡ 1 = eqb-true len 1 q in prompt_first s full len b one (p.second one))
    (λ (q : eqb len 1 ≡ false). prompt_far s full len b (omega arith) (eqb-false len 1 q))
    (both (eqb len 1))

plain_next : (s : List ℕ) (len b x : ℕ) → length s ≡ 257 → Plain s len b → Plain (set s len b) (len + 1) x
plain_next s len b x full p =
    record {
      first = λ e f. omega arith;
      second = λ e f. let z : len ≡ 0 = omega arith in p.first z (sym (get_or-set_same s 0 b 0 (omega arith)) ∙ (rw z at f));
    }

keep_byte : (s : List ℕ) (len b : ℕ) → length s ≡ 257 → len < 256 → Plain s len b → (b ≡ 10 → ⊥)
    → ◌≡◌ {A = Step Tray Line} (record { state = tray_of (set s len b) (len + 1); tell = none }) (buffered (tray_of s len) b)
keep_byte s len b full room p e = push_more s full len b e (past_below len b room) refl (plain_push s len b full room p) refl

-- n bytes are held, and no prompt can come of the next either
record Laid (bytes : List ℕ) (len : ℕ) (chunk : List ℕ) (at n : ℕ) (after : List ℕ) : Type 0 where
  pub filled : Filled bytes len chunk at n after
  pub plain : Plain after (len + n) (get_or chunk (at + n) 0)

module _ {s : List ℕ} {len : ℕ} {chunk : List ℕ} {at : ℕ} where
  pub fill_none : Filled s len chunk at 0 s
  fill_none =
      let e : at + 0 ≡ at = omega arith in
      let g : len + 0 ≡ len = omega arith in
      record { few = omega arith; fits = omega arith; long = refl; on = rw (e, g) }

  laid_none : Plain s len (get_or chunk at 0) → Laid s len chunk at 0 s
  laid_none p =
      let e : at + 0 ≡ at = omega arith in
      let g : len + 0 ≡ len = omega arith in
      record { filled = fill_none; plain = rw (e, g) p }

  laid_byte : {n : ℕ} {now : List ℕ} → length s ≡ 257 → Laid s len chunk at n now → len + n < 256 → at + n < length chunk → (get_or chunk (at + n) 0 ≡ 10 → ⊥)
      → Laid s len chunk at (n + 1) (set now (len + n) (get_or chunk (at + n) 0))
  laid_byte {n} {now} whole l room more other =
      let full : length now ≡ 257 = l.filled.long ∙ whole in
      let e : at + (n + 1) ≡ at + n + 1 = omega arith in
      let g : len + (n + 1) ≡ len + n + 1 = omega arith in
      record {
        filled =
            record {
              few = omega arith;
              fits = omega arith;
              long = simp length-set l.filled.long;
              on =
                  rw (e, g)
                  (l.filled.on ∙ search_on chunk (at + n) (tray_of now (len + n)) more (keep_byte now (len + n) (get_or chunk (at + n) 0) full room l.plain other) refl);
            };
        plain = rw (e, g) (plain_next now (len + n) (get_or chunk (at + n) 0) (get_or chunk (at + n + 1) 0) full l.plain);
      }

  -- n bytes, none of them an LF
  laid_all : (n : ℕ) → length s ≡ 257 → Plain s len (get_or chunk at 0) → len + n ≤ 256 → at + n ≤ length chunk → ((k : ℕ) → k < n → get_or chunk (at + k) 0 ≡ 10 → ⊥)
      → Laid s len chunk at n (paste s len (drop at chunk) n)
  laid_all zero full p room more other = rw (← paste-zero s len (drop at chunk)) (laid_none p)
  laid_all (suc n) full p room more other =
      let l = laid_byte full (laid_all n full p (omega arith) (omega arith) (λ k h. other k (omega arith))) (omega arith) (omega arith) (other n (omega arith)) in
      let step = paste-suc s len (drop at chunk) n 0 (omega arith) (omega (arith, length-drop at chunk)) in
      rw (← step, get_or-drop at chunk n 0, ← add-one n) l

  -- the bytes before an LF of those that have room
  pub filled_to : {rest after : List ℕ} {most n : ℕ} → length s ≡ 257 → Plain s len (get_or chunk at 0) → len ≤ 256 → at ≤ length chunk → rest ≡ drop at chunk → most ≡ min (length rest) (256 - len)
      → n ≤ length (take most rest) → ((k : ℕ) → k < n → get_or (take most rest) k 0 ≡ 10 → ⊥) → after ≡ paste s len (take most rest) n → Filled s len chunk at n after
  filled_to {rest} {after} {most} {n} full p room more rest_is most_is few clear laid =
      let d_long : length rest ≡ length chunk - at = ap length rest_is ∙ length-drop at chunk in
      let size : length (take most rest) ≡ most = length-take-le most rest (omega arith) in
      let some : n ≤ most = omega arith in
      let other : (k : ℕ) → k < n → get_or chunk (at + k) 0 ≡ 10 → ⊥ =
      λ k h e. clear k h (get_or-take most rest k 0 (omega arith) ∙ ap (λ (l : List ℕ). get_or l k 0) rest_is ∙ get_or-drop at chunk k 0 ∙ e) in
      let piece : take n (take most rest) ≡ take n (drop at chunk) = take-take n most rest some ∙ ap (take n) rest_is in
      let is : after ≡ paste s len (drop at chunk) n = laid ∙ ap (λ (l : List ℕ). take len s ++ l ++ drop (len + n) s) piece in
      rw is (laid_all n full p (omega arith) (omega arith) other).filled

-- ---- bytes that are looked at and laid, eight by eight and one by one

-- n bytes of the part are laid, none of them an LF
pub record Passed (bytes : List ℕ) (len : ℕ) (part : List ℕ) (n : ℕ) (after : List ℕ) : Type 0 where
  pub few : n ≤ length part
  pub clear : (k : ℕ) → k < n → get_or part k 0 ≡ 10 → ⊥
  pub laid : after ≡ paste bytes len part n

-- eight bytes of which none is an LF, as the mask of their comparison tells
pub no_lf : (eight : List ℕ) → length eight ≡ 8 → (mask : ℕ) → mask ≡ mask_l (map_list (top (hbits w8)) (zip2 (λ a b. cond (eqb a b) (2 ^ bits w8 - 1) 0) eight (replicate 8 10))) % 2 ^ 64 → mask ≡ 0
    → (k : ℕ) → k < 8 → get_or eight k 0 ≡ 10 → ⊥
no_lf eight long mask is empty k h e =
    let whole : take 8 eight ≡ eight = take_all 8 eight (omega arith) in
    let m : mask_l (map_list (λ (x : ℕ). eqb x 10) (take 8 eight)) ≡ 0 = rw whole (sym (bitmask_splat w8 eqb eight 8 10 long (omega arith)) ∙ sym is ∙ empty) in
    eqb-false (get_or eight k 0) 10 (none_from_empty_mask (λ (x : ℕ). eqb x 10) eight 0 8 0 (omega arith) m k (omega arith) (omega arith)) e

pub passed_none : (s : List ℕ) (len : ℕ) (part : List ℕ) → Passed s len part 0 s
passed_none s len part = record { few = omega arith; clear = λ k h. absurd (omega arith); laid = paste-zero s len part }

module _ {s : List ℕ} {len : ℕ} {part : List ℕ} {n : ℕ} {now : List ℕ} (p : Passed s len part n now) (room : len + length part ≤ length s) where
  -- eight more
  pub passed_eight : (k : ℕ) → n ≡ 8 * k → k < length part / 8 → ((j : ℕ) → j < 8 → get_or (take 8 (drop (8 * k) part)) j 0 ≡ 10 → ⊥)
      → Passed s len part (n + 8) (put_chunk (len + n) now (take 8 (drop (8 * k) part)))
  passed_eight k is more clear =
      let some : n + 8 ≤ length part = omega arith in
      let z : take 8 (drop (8 * k) part) ≡ take 8 (drop n part) = ap (λ (j : ℕ). take 8 (drop j part)) (sym is) in
      record {
        few = some;
        clear = λ j g e.
            ⊎_elim
            (λ (q : ltb j n ≡ true). p.clear j (ltb-true j n q) e)
            (λ (q : ltb j n ≡ false).
            let le = ltb-false j n q in
            let m : n + (j - n) ≡ j = omega arith in
            clear (j - n) (omega arith)
            (ap (λ (t : List ℕ). get_or t (j - n) 0) z ∙ get_or-take 8 (drop n part) (j - n) 0 (omega arith) ∙ get_or-drop n part (j - n) 0 ∙ ap (λ (m : ℕ). get_or part m 0) m ∙ e))
            (both (ltb j n));
        laid =
            lay_on s part len n n 8 (n + 8) (omega arith) (omega arith) refl some (omega arith) p.laid
            (ap (put_chunk (len + n) now) z ∙ stored now (drop n part) (len + n) 8 (omega (arith, length-drop n part)) (omega (arith, now_long)));
      }
    where
      now_long : length now ≡ length s
      now_long = ap length p.laid ∙ length-paste s len part n (omega (arith, p.few)) p.few

  -- one more
  pub passed_one : n < length part → (get_or part n 0 ≡ 10 → ⊥) → Passed s len part (n + 1) (set now (len + n) (get_or part n 0))
  passed_one more other =
      record {
        few = omega arith;
        clear = below_more (λ k. get_or part k 0 ≡ 10 → ⊥) n p.clear other;
        laid = ap (λ (l : List ℕ). set l (len + n) (get_or part n 0)) p.laid ∙ lay_more s part len n more (omega arith);
      }
