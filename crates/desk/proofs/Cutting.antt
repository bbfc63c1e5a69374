-- Laws of cutting: one byte behind those that are held, on paper and in the buffer.
use Prim.Native.Nat.{ℕ, suc, ◌+◌, ◌-◌, ◌≤◌, ◌<◌}
use mathlib.Core.Path.{◌≡◌, refl, sym, ap, ◌∙◌}
use mathlib.Core.Bool.{Bool, true, false, cond, ◌&&◌, not, and-true}
use mathlib.Core.Logic.{⊎_elim}
use mathlib.Core.List.{List, [], ◌∷◌, ◌++◌}
use mathlib.Core.Option.{Option, none, some}
use native.Mathlib.Omega.{arith}
use lib.ListN.{length, take, drop, get_or, set, length-append}
use Rattle.std.proofs.lemmas.List.{take-take}
use lib.Seq.{length-take-le, take-length, take-suc, take-append_seam, drop-append_seam, append_snoc, set_split, take-suc-set}
use lib.Dec.{ltb, eqb}
use borrow.Author.Tests.{lt-ltb, le-ltb, ltb-false, eq-eqb, ne_eqb}
use Rattle.text.specs.Bytes.{bytes, same, starts_with, ends_with}
use Rattle.text.proofs.Begins.{same_is}
use Rattle.text.proofs.Finding.{other_length}
use Rattle.desk.specs.Cut.{View, dropping, held, Piece, nothing, line, Cut, bare, long, is_prompt, ended, cut_one}
use Rattle.desk.specs.Machine.{Step}
use Rattle.desk.specs.Lines as L
use Rattle.desk.specs.Lines.{Line, line_of}
use Rattle.desk.specs.Desk.{Tray, view_of, len_of, laid_bytes, lay_one, buffered}
use Rattle.desk.specs.Search.{tray_of, Past}
use Rattle.text.proofs.Tests.{both, never}

snoc_length : (h : List ℕ) (b : ℕ) → length (h ++ b ∷ []) ≡ length h + 1
snoc_length h b = length-append h (b ∷ [])

-- ---- the CR at a line's end

ends_cr : (h : List ℕ) (b : ℕ) → ends_with (bytes "\r") (h ++ b ∷ []) ≡ eqb b 13
unfolding same starts_with ends_with
ends_cr h b =
    let n : length (h ++ b ∷ []) - 1 ≡ length h = let k = snoc_length h b in omega arith in
    let d : drop (length (h ++ b ∷ []) - 1) (h ++ b ∷ []) ≡ b ∷ [] = rw n (drop-append_seam h (b ∷ [])) in
    ap (λ (l : List ℕ). same l (bytes "\r")) d ∙ and-true (eqb b 13)

pub bare_snoc : (h : List ℕ) (b : ℕ) → bare (h ++ b ∷ []) ≡ cond (eqb b 13) h (h ++ b ∷ [])
unfolding bare
bare_snoc h b =
    let n : length (h ++ b ∷ []) - 1 ≡ length h = let k = snoc_length h b in omega arith in
    ap (λ (t : Bool). cond t (take (length (h ++ b ∷ []) - 1) (h ++ b ∷ [])) (h ++ b ∷ [])) (ends_cr h b)
    ∙ ap (λ (l : List ℕ). cond (eqb b 13) l (h ++ b ∷ [])) (ap (λ (k : ℕ). take k (h ++ b ∷ [])) n ∙ take-append_seam h (b ∷ []))

-- it is the front of the line
bare_front : (h : List ℕ) → take (length (bare h)) h ≡ bare h
unfolding bare
bare_front h =
    let n = length-take-le (length h - 1) h (omega arith) in
    ⊎_elim (λ e. rw e (ap (λ (k : ℕ). take k h) n)) (λ e. rw e (take-length h)) (both (ends_with (bytes "\r") h))

-- ---- a line past its length

pub bare_bounds : (h : List ℕ) → (length (bare h) ≤ length h) × (length h ≤ length (bare h) + 1)
unfolding bare
bare_bounds h =
    let n = length-take-le (length h - 1) h (omega arith) in
    ⊎_elim (λ e. rw e (omega arith, omega arith)) (λ e. rw e (omega arith, omega arith)) (both (ends_with (bytes "\r") h))

module _ (h : List ℕ) (b : ℕ) where
  abbrev size : ℕ
  size = length (bare (h ++ b ∷ []))

  size_is : (t : Bool) → eqb b 13 ≡ t → size ≡ length (cond t h (h ++ b ∷ []))
  size_is t e = ap length (bare_snoc h b ∙ ap (λ (u : Bool). cond u h (h ++ b ∷ [])) e)

  past_few : length h < 256 → false ≡ long (bare (h ++ b ∷ []))
  past_few f = sym (le-ltb 256 size (omega (arith, (bare_bounds (h ++ b ∷ [])).0, snoc_length h b)))

  past_over : 256 < length h → true ≡ long (bare (h ++ b ∷ []))
  past_over f = sym (lt-ltb 256 size (omega (arith, (bare_bounds (h ++ b ∷ [])).1, snoc_length h b)))

  -- behind 256 bytes only a CR is not past the length
  past_full : length h ≡ 256 → not (eqb b 13) ≡ long (bare (h ++ b ∷ []))
  past_full f =
      ⊎_elim
      (λ e. ap not e ∙ sym (le-ltb 256 size (omega (arith, size_is true e))))
      (λ e. ap not e ∙ sym (lt-ltb 256 size (omega (arith, size_is false e, snoc_length h b))))
      (both (eqb b 13))

  past_not : long (bare (h ++ b ∷ [])) ≡ false → length h ≤ 256
  past_not e = omega (arith, ltb-false 256 size e, (bare_bounds (h ++ b ∷ [])).1, snoc_length h b)

-- the tests of the code
module _ (len b : ℕ) where
  pub past_below : len < 256 → Past len b false
  past_below f = record { few = λ _. omega arith; is = λ h e. past_few h b (omega arith) }

  pub past_at : len ≡ 256 → Past len b (not (eqb b 13))
  past_at f = record { few = λ _. omega arith; is = λ h e. past_full h b (omega arith) }

  pub past_above : 256 < len → Past len b true
  past_above f = record { few = λ e. never (cc); is = λ h e. past_over h b (omega arith) }

-- ---- one byte on paper

module _ (h : List ℕ) (b : ℕ) where
  pub cut_lf : b ≡ 10 → cut_one (held h) b ≡ record { view = held []; piece = ended (bare h) }
  unfolding cut_one
  cut_lf e = rw (eq-eqb b 10 e)

  module _ (e : b ≡ 10 → ⊥) where
    pub cut_past : long (bare (h ++ b ∷ [])) ≡ true → cut_one (held h) b ≡ record { view = dropping; piece = nothing }
    unfolding cut_one
    cut_past f = rw (ne_eqb b 10 e, f)

    module _ (f : long (bare (h ++ b ∷ [])) ≡ false) where
      pub cut_prompt : is_prompt (h ++ b ∷ []) ≡ true → cut_one (held h) b ≡ record { view = held []; piece = line (h ++ b ∷ []) }
      unfolding cut_one
      cut_prompt g = rw (ne_eqb b 10 e, f, g)

      pub cut_held : is_prompt (h ++ b ∷ []) ≡ false → cut_one (held h) b ≡ record { view = held (h ++ b ∷ []); piece = nothing }
      unfolding cut_one
      cut_held g = rw (ne_eqb b 10 e, f, g)

-- ---- one byte in the buffer

take_snoc : (h rest : List ℕ) (b : ℕ) → take (length (h ++ b ∷ [])) (h ++ b ∷ rest) ≡ h ++ b ∷ []
take_snoc h rest b = ap (λ (l : List ℕ). take (length (h ++ b ∷ [])) l) (sym (append_snoc h b rest)) ∙ take-append_seam (h ++ b ∷ []) rest

view_held : (h s : List ℕ) (b : ℕ) → view_of (tray_of (laid_bytes (held h) s b) (len_of (cut_one (held h) b).view)) ≡ (cut_one (held h) b).view
unfolding cut_one
view_held h s b =
    ⊎_elim (λ e. rw e)
    (λ e. rw e
    (⊎_elim (λ f. rw f)
    (λ f. rw f
    (⊎_elim (λ g. rw g)
    (λ g. rw g
    (let few : length (h ++ b ∷ []) ≤ 257 = omega (arith, snoc_length h b, past_not h b f) in
    rw (le-ltb 257 (length (h ++ b ∷ [])) few) (ap held (take_snoc h (drop (length h + 1) s) b))))
    (both (is_prompt (h ++ b ∷ [])))))
    (both (long (bare (h ++ b ∷ []))))))
    (both (eqb b 10))

view_dropping : (s : List ℕ) (b : ℕ) → view_of (tray_of (laid_bytes dropping s b) (len_of (cut_one dropping b).view)) ≡ (cut_one dropping b).view
unfolding cut_one
view_dropping s b = ⊎_elim (λ e. rw e) (λ e. rw e) (both (eqb b 10))

view_laid : (v : View) (s : List ℕ) (b : ℕ) → view_of (tray_of (laid_bytes v s b) (len_of (cut_one v b).view)) ≡ (cut_one v b).view
view_laid dropping s b = view_dropping s b
view_laid (held h) s b = view_held h s b

-- what is held after a byte is laid is what the rules say
pub view_lay : (t : Tray) (b : ℕ) → view_of (lay_one t b) ≡ (cut_one (view_of t) b).view
unfolding lay_one
view_lay t b = view_laid (view_of t) t.bytes b

-- ---- the code's cases of one byte, where the buffer is the desk's array

-- a line that is not empty and not past its length
pub ended_line : (l : List ℕ) → length l ≤ 256 → (length l ≡ 0 → ⊥) → ended l ≡ line l
ended_line l h e = rw (le-ltb 256 (length l) h, ne_eqb (length l) 0 e)

-- what an LF makes of the first len bytes
module _ (s : List ℕ) (full : length s ≡ 257) where
  abbrev At : ℕ → ℕ → Piece
  At len b = (cut_one (view_of (tray_of s len)) b).piece

  held_at : (len : ℕ) → len ≤ 257 → view_of (tray_of s len) ≡ held (take len s)
  held_at len h = rw (le-ltb 257 len h)

  dropped_at : (len : ℕ) → 257 < len → view_of (tray_of s len) ≡ dropping
  dropped_at len h = rw (lt-ltb 257 len h)

  size_at : (len : ℕ) → len ≤ 257 → length (take len s) ≡ len
  size_at len h = length-take-le len s (omega arith)

  end_held : (len : ℕ) → len ≤ 257 → At len 10 ≡ ended (bare (take len s))
  end_held len h = ap (λ (v : View). (cut_one v 10).piece) (held_at len h) ∙ ap (λ (c : Cut). c.piece) (cut_lf (take len s) 10 refl)

  pub end_dropped : (len : ℕ) → 257 < len → some L.overlong ≡ line_of (At len 10)
  unfolding cut_one
  end_dropped len h = ap line_of (sym (ap (λ (v : View). (cut_one v 10).piece) (dropped_at len h)))

  -- p is what is held, without its CR
  module _ {len : ℕ} {p : List ℕ} (h : len ≤ 257) (is : p ≡ bare (take len s)) where
    end_is : line_of (ended p) ≡ line_of (At len 10)
    end_is = ap line_of (ap ended is ∙ sym (end_held len h))

    pub end_none : length p ≡ 0 → none ≡ line_of (At len 10)
    end_none e = rw e at end_is

    pub end_full : 256 < length p → some L.overlong ≡ line_of (At len 10)
    end_full f = rw (lt-ltb 256 (length p) f) at end_is

    front : take (length p) s ≡ p
    front =
        let few = bare_bounds (take len s) in
        ap (λ (l : List ℕ). take (length l) s) is ∙ sym (take-take (length (bare (take len s))) len s (omega (arith, few, size_at len h))) ∙ bare_front (take len s) ∙ sym is

    pub end_line : (length p ≡ 0 → ⊥) → length p ≤ 256 → some (L.line (take (length p) s)) ≡ line_of (At len 10)
    end_line f g = ap (λ (l : List ℕ). some (L.line l)) front ∙ ap line_of (sym (ended_line p g f)) ∙ end_is

-- "> " at a line's start
pub prompt_length : (l : List ℕ) → is_prompt l ≡ true → length l ≡ 2
prompt_length l e = ap length (same_is l (bytes "> ") e)

module _ (s : List ℕ) (full : length s ≡ 257) (len b : ℕ) where
  abbrev Prompt : Bool
  Prompt = is_prompt (take len s ++ b ∷ [])

  prompt_at : len ≡ 1 → Prompt ≡ (eqb (get_or s 0 0) 62 && (eqb b 32 && true))
  unfolding same starts_with
  prompt_at e = rw (e, take-suc s 0 0 (omega arith))

  pub prompt_one : len ≡ 1 → get_or s 0 0 ≡ 62 → eqb b 32 ≡ Prompt
  prompt_one e f = sym (prompt_at e ∙ rw (eq-eqb (get_or s 0 0) 62 f) (and-true (eqb b 32)))

  pub prompt_first : len ≡ 1 → (get_or s 0 0 ≡ 62 → ⊥) → false ≡ Prompt
  prompt_first e f = sym (prompt_at e ∙ rw (ne_eqb (get_or s 0 0) 62 f))

  pub prompt_far : len ≤ 257 → (len ≡ 1 → ⊥) → false ≡ Prompt
  prompt_far h e = other_length (take len s ++ b ∷ []) (bytes "> ") (λ k. e (omega (arith, snoc_length (take len s) b, size_at s full len h)))

  prompt_size : len ≤ 257 → true ≡ Prompt → len ≡ 1
  prompt_size h e = omega (arith, prompt_length (take len s ++ b ∷ []) (sym e), snoc_length (take len s) b, size_at s full len h)

-- one byte
lay_lf : (v : View) (s : List ℕ) → tray_of (laid_bytes v s 10) (len_of (cut_one v 10).view) ≡ tray_of s 0
unfolding cut_one
lay_lf dropping s = refl
lay_lf (held h) s = refl

module _ (s : List ℕ) (full : length s ≡ 257) (len b : ℕ) where
  abbrev Held : List ℕ
  Held = take len s

  pub push_lf : {o : Option Line} → b ≡ 10 → o ≡ line_of (cut_one (view_of (tray_of s len)) 10).piece → ◌≡◌ {A = Step Tray Line} (record { state = tray_of s 0; tell = o }) (buffered (tray_of s len) b)
  unfolding buffered lay_one
  push_lf e f = rw (e, f, lay_lf (view_of (tray_of s len)) s)

  module _ (e : b ≡ 10 → ⊥) where
    past_dropped : ◌≡◌ {A = Step Tray Line} (record { state = tray_of (laid_bytes dropping s b) (len_of (cut_one dropping b).view); tell = line_of (cut_one dropping b).piece }) (record { state = tray_of s 258; tell = none })
    unfolding cut_one
    past_dropped = rw (ne_eqb b 10 e)

    past_held : (h : List ℕ) → long (bare (h ++ b ∷ [])) ≡ true
        → ◌≡◌ {A = Step Tray Line} (record { state = tray_of (laid_bytes (held h) s b) (len_of (cut_one (held h) b).view); tell = line_of (cut_one (held h) b).piece }) (record { state = tray_of s 258; tell = none })
    past_held h f = rw (cut_past h b e f, ne_eqb b 10 e, f)

    pub push_past : {p : Bool} → Past len b p → p ≡ true → ◌≡◌ {A = Step Tray Line} (record { state = tray_of s 258; tell = none }) (buffered (tray_of s len) b)
    unfolding buffered lay_one
    push_past f z =
        ⊎_elim
        (λ g. rw g (sym past_dropped))
        (λ g. rw g (sym (past_held Held (sym (f.is Held (size_at s full len (ltb-false 257 len g))) ∙ z))))
        (both (ltb 257 len))

    module _ {p : Bool} (f : Past len b p) (z : p ≡ false) where
      fits : len ≤ 256
      fits = f.few z

      short : long (bare (Held ++ b ∷ [])) ≡ false
      short = let few = fits in sym (f.is Held (size_at s full len (omega arith))) ∙ z

      laid : laid_bytes (held Held) s b ≡ set s len b
      laid =
          let few = fits in
          let n : length Held + 1 ≡ suc len = let k = size_at s full len (omega arith) in omega arith in
          rw (ne_eqb b 10 e, short, n) (sym (set_split s len b (omega arith)))

      pub push_prompt : {q : Bool} → q ≡ is_prompt (Held ++ b ∷ []) → q ≡ true
          → ◌≡◌ {A = Step Tray Line} (record { state = tray_of (set s len b) 0; tell = some (L.line (take 2 (set s len b))) }) (buffered (tray_of s len) b)
      unfolding buffered lay_one
      push_prompt g y =
          let few = fits in
          let one : len ≡ 1 = prompt_size s full len b (omega arith) (sym y ∙ g) in
          rw (held_at s full len (omega arith), cut_prompt Held b e short (sym g ∙ y), laid)
          (ap (λ (l : List ℕ). record { state = tray_of (set s len b) 0; tell = some (L.line l) }) (rw one (take-suc-set s 1 b (omega arith))))

      pub push_more : {q : Bool} → q ≡ is_prompt (Held ++ b ∷ []) → q ≡ false
          → ◌≡◌ {A = Step Tray Line} (record { state = tray_of (set s len b) (len + 1); tell = none }) (buffered (tray_of s len) b)
      unfolding buffered lay_one
      push_more g y =
          let few = fits in
          let n : length (Held ++ b ∷ []) ≡ len + 1 = let k = size_at s full len (omega arith) in snoc_length Held b ∙ rw k in
          rw (held_at s full len (omega arith), cut_held Held b e short (sym g ∙ y), laid, n)

-- ---- what the proofs of the code list

pub ruleset pasts = (past_below, past_at, past_above)

pub ruleset ends = (end_dropped, end_none, end_line, end_full)

pub ruleset prompts = (prompt_one, prompt_first, prompt_far)

pub ruleset pushes = (push_lf, push_past, push_prompt, push_more)
