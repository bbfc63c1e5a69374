-- Every complete line that the unsolicited readers accept may be slipped in, and every such line with its LF is complete, CR and LF in front of it or not.
use Prim.Native.Nat.{ℕ, ◌-◌, ◌≤◌, ◌<◌}
use mathlib.Core.Path.{◌≡◌, refl, sym, ap, ◌∙◌}
use mathlib.Core.Bool.{true, false, and-false}
use mathlib.Core.Logic.{⊎_elim}
use mathlib.Core.List.{List, [], ◌∷◌, ◌++◌, append-nil}
use native.Mathlib.Omega.{arith}
use lib.ListN.{length, get_or, length-append}
use lib.Seq.{length-take-le, get_or-take, append_snoc}
use lib.Dec.{ltb, eqb}
use borrow.Author.Tests.{le-ltb, ltb-true, ltb-false, eqb-true, eqb-false, ne_eqb}
use Rattle.text.specs.Bytes.{bytes, same, starts_with, ends_with, count_of}
use Rattle.text.specs.Reading.{Reading, read, mapped}
use Rattle.text.specs.Line.{line_check, checked}
use Rattle.text.proofs.LineLaws.{check_long}
use Rattle.unsolicited.specs.Urc.{Unsolicited, urc_text, begins}
use Rattle.unsolicited.proofs.Prefixes.{urc_cases}
use Rattle.desk.specs.Cut.{View, held, Piece, bare, long, is_prompt, ended, cut_one}
use Rattle.trial.specs.Sort.{unsolicited, sort_of, line_sort}
use Rattle.trial.proofs.Turns.{said_begun}
use Rattle.desk.specs.Machine.{shown, tells, after}
use Rattle.desk.specs.Lines.{line, line_of, cutter, lines_of, Whole}
use Rattle.desk.specs.Rules.{Plain}
use Rattle.desk.specs.Demand.{May, unasked}
use Rattle.text.proofs.Tests.{both, never}
use Rattle.desk.proofs.Cutting.{bare_bounds, ended_line, cut_lf, cut_held}
use Rattle.desk.proofs.Slips.{lf_view}

-- ---- what the unsolicited readers accept is unsolicited to the desk

pub record Passed {A : Type 0} (reader : List ℕ → Reading A) (l : List ℕ) (a : A) : Type 0 where
  pub check : 0 ≡ line_check l
  pub says : read a ≡ reader l

checked_read : {A : Type 0} (reader : List ℕ → Reading A) (l : List ℕ) {a : A} → checked reader l ≡ read a → Passed reader l a
unfolding checked
checked_read reader l e =
    ⊎_elim (λ f. record { check = sym (eqb-true (line_check l) 0 f); says = sym (rw f at e) })
    (λ f. let g = rw f at e in never (cc))
    (both (eqb (line_check l) 0))

-- the line has a first byte, and it is not ">"
record Front (l : List ℕ) : Type 0 where
  pub first : ℕ
  pub rest : List ℕ
  pub is : l ≡ first ∷ rest
  pub other : first ≡ 62 → ⊥

plus : (s : List ℕ) → Front (43 ∷ s)
plus s = record { first = 43; rest = s; is = refl; other = λ e. omega arith }

urc_front : (l : List ℕ) (u : Unsolicited) → urc_text l ≡ read u → Front l
urc_front l = urc_cases Front l (λ t. plus _) (λ t. plus _) (λ t. plus _) (λ t. plus _)

urc_begins : (l : List ℕ) (u : Unsolicited) → urc_text l ≡ read u → begins l ≡ true
unfolding begins starts_with
urc_begins l = urc_cases (λ (s : List ℕ). begins s ≡ true) l (λ t. refl) (λ t. refl) (λ t. refl) (λ t. refl)

sort_unsolicited : (l : List ℕ) (u : Unsolicited) → checked urc_text l ≡ read u → line_sort l ≡ read unsolicited
unfolding line_sort mapped
sort_unsolicited l u e =
    let begun = urc_begins l u (sym (checked_read urc_text l e).says) in
    ap (mapped sort_of) (sym (said_begun l true (sym begun) refl (sym e)))

pub accepted_may : (s : Plain) (w l : List ℕ) {u : Unsolicited} → s.wire ≡ held [] → Whole w → lines_of w ≡ line l ∷ [] → checked urc_text l ≡ read u → May s w
accepted_may s w l start whole is e = unasked l start whole is (sort_unsolicited l _ e)

-- ---- a line and its LF

short_checked : (l : List ℕ) → 0 ≡ line_check l → length l ≤ 256
short_checked l e =
    ⊎_elim (λ f. let g : 0 ≡ 1 = e ∙ sym (check_long l (ltb-true 256 (length l) f)) in absurd (omega arith)) (λ f. ltb-false 256 (length l) f) (both (ltb 256 (length l)))

-- a line's first bytes are not past its length
past_front : (h : List ℕ) (b : ℕ) (bs : List ℕ) → length (bare (h ++ b ∷ bs)) ≤ 256 → long (bare (h ++ b ∷ [])) ≡ false
past_front h b [] e = le-ltb 256 (length (bare (h ++ b ∷ []))) e
past_front h b (c ∷ cs) e =
    let n = length-append h (b ∷ []) in
    let m = length-append h (b ∷ c ∷ cs) in
    le-ltb 256 (length (bare (h ++ b ∷ []))) (omega (arith, (bare_bounds (h ++ b ∷ [])).0, (bare_bounds (h ++ b ∷ c ∷ cs)).1))

-- nothing that begins with another byte is a prompt
prompt_not : (h : List ℕ) (b : ℕ) (bs : List ℕ) → (get_or (h ++ b ∷ bs) 0 0 ≡ 62 → ⊥) → is_prompt (h ++ b ∷ []) ≡ false
unfolding same starts_with
prompt_not [] b bs e = refl
prompt_not (x ∷ h) b bs e = rw (ne_eqb x 62 e) (and-false (eqb (length (x ∷ h ++ b ∷ [])) 2))

line_cut : (raw h : List ℕ) → count_of 10 raw ≡ 0 → length (bare (h ++ raw)) ≤ 256 → (get_or (h ++ raw) 0 0 ≡ 62 → ⊥)
    → tells cutter (held h) (raw ++ 10 ∷ []) ≡ shown (line_of (ended (bare (h ++ raw)))) []
unfolding tells cutter
line_cut [] h n s f = rw (append-nil h, cut_lf h 10 refl)
line_cut (b ∷ bs) h n s f =
    ⊎_elim
    (λ (e : eqb b 10 ≡ true). let k = rw e at n in absurd (omega arith))
    (λ (e : eqb b 10 ≡ false).
    let k = rw e at n in
    let next = append_snoc h b bs in
    rw (cut_held h b (eqb-false b 10 e) (past_front h b bs s) (prompt_not h b bs f))
    (rw next at (line_cut bs (h ++ b ∷ []) (omega arith) (rw next s) (rw next f))))
    (both (eqb b 10))

view_lf : (v : View) (raw : List ℕ) → after cutter v (raw ++ 10 ∷ []) ≡ held []
unfolding after cutter
view_lf v [] = lf_view v 10 refl
view_lf v (b ∷ bs) = view_lf (cut_one v b).view bs

-- bytes that end in an LF are whole lines
pub whole_lf : (raw : List ℕ) → Whole (raw ++ 10 ∷ [])
whole_lf raw = view_lf (held []) raw

front_bare : (raw : List ℕ) → 0 < length (bare raw) → get_or (bare raw) 0 0 ≡ get_or raw 0 0
unfolding bare
front_bare raw h =
    ⊎_elim (λ e. let k = rw e at h in let n = length-take-le (length raw - 1) raw (omega arith) in rw e (get_or-take (length raw - 1) raw 0 0 (omega arith))) (λ e. rw e)
    (both (ends_with (bytes "\r") raw))

-- raw has no LF, and without its CR it is a line that the unsolicited readers accept: with an LF it is complete
module _ (raw : List ℕ) {u : Unsolicited} (n : count_of 10 raw ≡ 0) (e : checked urc_text (bare raw) ≡ read u) where
  one_line : lines_of (raw ++ 10 ∷ []) ≡ line (bare raw) ∷ []
  one_line =
      let p = checked_read urc_text (bare raw) e in
      let short = short_checked (bare raw) p.check in
      let front = urc_front (bare raw) _ (sym p.says) in
      let more : 0 < length (bare raw) = rw front.is (omega arith) in
      let first : get_or raw 0 0 ≡ front.first = sym (front_bare raw more) ∙ ap (λ (x : List ℕ). get_or x 0 0) front.is in
      line_cut raw [] n short (λ f. front.other (sym first ∙ f))
      ∙ ap (λ (q : Piece). shown (line_of q) []) (ended_line (bare raw) short (λ k. omega arith))

  pub accepted : (s : Plain) → s.wire ≡ held [] → May s (raw ++ 10 ∷ [])
  accepted s start = accepted_may s (raw ++ 10 ∷ []) (bare raw) start (whole_lf raw) one_line e

  -- as modems frame it
  pub accepted_framed : (s : Plain) → s.wire ≡ held [] → May s (13 ∷ 10 ∷ raw ++ 10 ∷ [])
  unfolding tells after cutter cut_one bare same starts_with ends_with
  accepted_framed s start = accepted_may s (13 ∷ 10 ∷ raw ++ 10 ∷ []) (bare raw) start (whole_lf raw) one_line e
