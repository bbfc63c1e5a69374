-- The part that is handed out with the number 0 has the bytes of the text that the documents name: of an IMEI or a version number the whole line, the sender and the
-- operator's name without the quotes at their ends, and all after the first comma as the time.
use mathlib.Core.Path.{◌≡◌, refl, ap, sym, ◌∙◌}
use mathlib.Core.Bool.{Bool, true, false, cond}
use mathlib.Core.List.{List, [], ◌∷◌, ◌++◌}
use Prim.Native.Nat.{ℕ, zero, suc, ◌+◌, ◌-◌, ◌≤◌}
use native.Mathlib.Omega.{arith}
use lib.Dec.{ltb}
use lib.ListN.{length, take, drop, take-append-drop}
use lib.Seq.{take-append-le, take-length, drop-drop}
use borrow.Author.Tests.{ltb-false}
use denote.Ref.{Bor}
use Rattle.text.specs.Bytes.{bytes, has, index_of}
use Rattle.text.specs.Field.{fields, nth, place_of}
use Rattle.text.specs.Handed.{Handed, IsHanded}
use Rattle.text.specs.Handed as stands
use Rattle.text.specs.Line.{checked}
use Rattle.text.specs.Part.{Span, span_of, part_of, after, trim_end, trim_place}
use Rattle.text.proofs.Accepts.{by_only, by_fitting, by_either, by_need, by_checked, where_0}
use Rattle.text.proofs.Fields.{field_bytes}
use Rattle.text.proofs.AtIndex.{at_end}
use Rattle.text.proofs.Parts.{from_start}
use Rattle.text.proofs.Trims.{trim_in, trim_bytes}
use Rattle.at_command.specs.Cmgr.{cmgr_fields, cmgr_text}
use Rattle.at_command.specs.Cntp.{NetTime, cntp_rest, cntp_text}
use Rattle.at_command.specs.Cops.{Operator, in_line, in_fallback, field_or, name_of, cops_fields, cops_text}
use Rattle.at_command.specs.Gsn.{Identity, imei_text}
use Rattle.at_command.specs.Handed.{name_in, time_in, imei_handed, name_handed, time_handed, sender_handed}
use Rattle.at_command.specs.Unquoted.{unquoted, unquoted_span, unquoted_field}

-- ---- parts of parts

-- the part of a part that reaches no further than it
inner : (f y : List ℕ) (k j : ℕ) → k + j ≤ length f → take j (drop k (f ++ y)) ≡ take j (drop k f)
inner f y zero j h = take-append-le j f y (omega arith)
inner [] y (suc k) j h = absurd (omega arith)
inner (x ∷ f) y (suc k) j h = inner f y k j (omega arith)

take_again : (m : ℕ) (l : List ℕ) → take (length (take m l)) l ≡ take m l
take_again zero l = refl
take_again (suc m) [] = refl
take_again (suc m) (x ∷ l) = ap (λ (t : List ℕ). x ∷ t) (take_again m l)

-- the bytes at a span
abbrev bytes_at : List ℕ → Span → List ℕ
bytes_at s p = part_of s p.start p.end

at_span : (s t : List ℕ) (a : ℕ) → bytes_at s (span_of a t) ≡ take (length t) (drop a s)
unfolding part_of
at_span s t a = let z : a + length t - a ≡ length t = omega arith in rw z

-- without the quotes at its ends, a text
trim_at : (f : List ℕ) → take (length (unquoted f)) (drop (trim_place (bytes "\"") f) f) ≡ unquoted f
unfolding part_of
trim_at f =
    let k = trim_place (bytes "\"") f in
    let m = length (trim_end (bytes "\"") f) - k in
    let e : take m (drop k f) ≡ unquoted f = trim_bytes (bytes "\"") f in
    ap (λ (u : List ℕ). take (length u) (drop k f)) (sym e) ∙ take_again m (drop k f) ∙ e

-- the same, of a text that stands at a in the line
unquoted_at : (s f y : List ℕ) (a : ℕ) → drop a s ≡ f ++ y → bytes_at s (unquoted_span a f) ≡ unquoted f
unquoted_at s f y a e =
    at_span s (unquoted f) (a + trim_place (bytes "\"") f)
    ∙ ap (take (length (unquoted f))) (sym (drop-drop (trim_place (bytes "\"") f) a s) ∙ ap (drop (trim_place (bytes "\"") f)) e)
    ∙ inner f y (trim_place (bytes "\"") f) (length (unquoted f)) (trim_in (bytes "\"") f)
    ∙ trim_at f

-- a field, in a line whose fields begin behind a prefix of seven bytes
field_at_lem : (s : List ℕ) (n : ℕ) → bytes_at s (unquoted_field n (fields 44 (drop 7 s))) ≡ unquoted (nth n (fields 44 (drop 7 s)))
unfolding part_of
field_at_lem s n =
    let r = drop 7 s in
    let p = place_of n (fields 44 r) in
    let m = p + index_of 44 (drop p r) - p in
    unquoted_at s (nth n (fields 44 r)) (drop m (drop p r)) (7 + p)
    (sym (drop-drop p 7 s) ∙ sym (take-append-drop m (drop p r)) ∙ ap (λ (f : List ℕ). f ++ drop m (drop p r)) (field_bytes 44 n r))

whole_at : (s : List ℕ) → bytes_at s (record { start = 0; end = length s }) ≡ s
whole_at s = from_start s (length s) ∙ take-length s

lent_at : (s : List ℕ) → bytes_at s (unquoted_span 0 s) ≡ unquoted s
lent_at s = unquoted_at s s (drop (length s) s) 0 (sym (take-append-drop (length s) s) ∙ ap (λ (f : List ℕ). f ++ drop (length s) s) (take-length s))

after_at : (s : List ℕ) (n : ℕ) → bytes_at s (span_of (7 + n) (drop n (drop 7 s))) ≡ drop n (drop 7 s)
after_at s n = at_span s (drop n (drop 7 s)) (7 + n) ∙ ap (take (length (drop n (drop 7 s)))) (sym (drop-drop n 7 s)) ∙ take-length (drop n (drop 7 s))

no_comma : (r : List ℕ) → has 44 r ≡ false → [] ≡ after 44 r
unfolding has
no_comma r e = let h : length r ≤ index_of 44 r = ltb-false _ _ e in sym (at_end r (index_of 44 r + 1) (omega arith))

-- ---- the four texts

module _ (line fallback t : Bor (List ℕ)) where
  -- the part so named has the bytes x
  abbrev Hands : List ℕ → Handed → Type 0
  Hands x h = IsHanded line fallback h t → t.now ≡ x

  in_line_lem : (x : List ℕ) (p : Span) → bytes_at line.now p ≡ x → Hands x (stands.in_line p)
  unfolding IsHanded
  in_line_lem x p e h = h.bytes ∙ e

  in_fallback_lem : (x : List ℕ) (p : Span) → bytes_at fallback.now p ≡ x → Hands x (stands.in_fallback p)
  unfolding IsHanded
  in_fallback_lem x p e h = h.bytes ∙ e

  absent : (x : List ℕ) → [] ≡ x → Hands x (stands.nowhere 0)
  unfolding IsHanded part_of
  absent x e h = h.bytes ∙ e

  pub imei_is : (imei_handed line.now).refusal ≡ 0 → IsHanded line fallback (imei_handed line.now) t → t.now ≡ line.now
  unfolding imei_handed imei_text
  imei_is =
      let s = line.now in
      let text : Identity → Handed = λ (i : Identity). stands.in_line i.digits in
      let Q : Identity → Type 0 = λ (i : Identity). Hands s (text i) in
      let all = in_line_lem s (record { start = 0; end = length s }) (whole_at s) in
      where_0 (Hands s) text (checked imei_text s) (by_checked Q imei_text s (by_either Q _ _ _ (λ e. all) (λ e. by_only Q _ _ all)))

  pub sender_is : (sender_handed line.now).refusal ≡ 0 → IsHanded line fallback (sender_handed line.now) t → t.now ≡ unquoted (nth 1 (fields 44 (drop 7 line.now)))
  unfolding sender_handed cmgr_text cmgr_fields
  sender_is =
      let s = line.now in
      let x = unquoted (nth 1 (fields 44 (drop 7 s))) in
      let Q : Span → Type 0 = λ (p : Span). Hands x (stands.in_line p) in
      where_0 (Hands x) stands.in_line (checked cmgr_text s) (by_checked Q cmgr_text s (by_only Q _ _ (by_only Q _ _ (by_fitting Q 20 _ _ (in_line_lem x _ (field_at_lem s 1))))))

  -- nothing follows a comma that is not there
  pub time_is : (time_handed line.now).refusal ≡ 0 → IsHanded line fallback (time_handed line.now) t → t.now ≡ after 44 (drop 7 line.now)
  unfolding time_handed time_in cntp_text cntp_rest
  time_is =
      let s = line.now in
      let r = drop 7 s in
      let x = after 44 r in
      let Q : NetTime → Type 0 = λ (n : NetTime). Hands x (time_in n.time) in
      where_0 (Hands x) (λ (n : NetTime). time_in n.time) (checked cntp_text s)
      (by_checked Q cntp_text s (by_only Q _ _ (by_need Q _ _ (λ c. by_either Q (has 44 r) _ _
      (λ e. by_fitting Q 32 x _ (in_line_lem x _ (after_at s (index_of 44 r + 1))))
      (λ e. absent x (no_comma r e))))))

named : (line name t : Bor (List ℕ)) → Hands line name t (unquoted (field_or 2 (fields 44 (drop 7 line.now)) name.now)) (name_in (name_of (fields 44 (drop 7 line.now)) name.now))
unfolding field_or name_of name_in
named line name t = go (ltb 2 (length (fields 44 (drop 7 line.now))))
  where
    go : (b : Bool) → Hands line name t (unquoted (cond b (nth 2 (fields 44 (drop 7 line.now))) name.now)) (name_in (cond b (in_line (unquoted_field 2 (fields 44 (drop 7 line.now)))) (in_fallback (unquoted_span 0 name.now))))
    go true = in_line_lem line name t _ _ (field_at_lem line.now 2)
    go false = in_fallback_lem line name t _ _ (lent_at name.now)

module _ (line format_fallback name_fallback t : Bor (List ℕ)) where
  pub name_is : (name_handed line.now format_fallback.now name_fallback.now).refusal ≡ 0 → IsHanded line name_fallback (name_handed line.now format_fallback.now name_fallback.now) t
      → t.now ≡ unquoted (field_or 2 (fields 44 (drop 7 line.now)) name_fallback.now)
  unfolding name_handed cops_text cops_fields
  name_is =
      let s = line.now in
      let fs = fields 44 (drop 7 s) in
      let x = unquoted (field_or 2 fs name_fallback.now) in
      let Q : Operator → Type 0 = λ (o : Operator). Hands line name_fallback t x (name_in o.name) in
      where_0 (Hands line name_fallback t x) (λ (o : Operator). name_in o.name) (checked (cops_text format_fallback.now name_fallback.now) s)
      (by_checked Q (cops_text format_fallback.now name_fallback.now) s (by_only Q _ _ (by_need Q _ _ (λ m. by_need Q _ _ (λ f. named line name_fallback t)))))
