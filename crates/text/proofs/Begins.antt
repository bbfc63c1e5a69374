-- A line that begins with a text is that text and what follows it. Assumes nothing.
use Rattle.std.proofs.Common.{◌≡◌, ℕ, zero, suc, ◌≤◌, Bool, true, ◌&&◌, eqb, List, [], ◌∷◌, ◌++◌, length, take, drop, sym, refl, ap, ◌∙◌, subst, append-nil, arith, length-append, drop_of_length-le, eqb-true}
use Rattle.text.specs.Bytes.{starts_with, same}
use Rattle.text.proofs.Tests.{never, and_left, and_right}

pub begins_split : (p s : List ℕ) → starts_with p s ≡ true → s ≡ p ++ drop (length p) s
unfolding starts_with
begins_split [] s e = refl
begins_split (b ∷ p) [] e = never (cc)
begins_split (b ∷ p) (x ∷ s) e =
    let q = eqb-true x b (and_left _ _ e) in
    let r = begins_split p s (and_right (eqb x b) _ e) in
    rw q (ap (λ (l : List ℕ). b ∷ l) r)

-- what holds of the text with anything behind it holds of the line
pub begins_with : (P : List ℕ → Type 0) (p s : List ℕ) → ((t : List ℕ) → P (p ++ t)) → starts_with p s ≡ true → P s
begins_with P p s f e = subst P (sym (begins_split p s e)) (f (drop (length p) s))

-- a front part that begins so is of a line that does
pub begins_take : (p : List ℕ) (n : ℕ) (s : List ℕ) → starts_with p (take n s) ≡ true → starts_with p s ≡ true
unfolding starts_with
begins_take [] n s e = refl
begins_take (b ∷ p) zero s e = never (cc)
begins_take (b ∷ p) (suc n) [] e = never (cc)
begins_take (b ∷ p) (suc n) (x ∷ s) e = rw (and_left (eqb x b) _ e) (begins_take p n s (and_right (eqb x b) _ e))

pub begins_same : (p s : List ℕ) → same s p ≡ true → starts_with p s ≡ true
unfolding same
begins_same p s e = and_right (eqb (length s) (length p)) _ e

-- a line that is a text is that text
pub same_is : (s t : List ℕ) → same s t ≡ true → s ≡ t
unfolding same
same_is s t e =
    let n = eqb-true (length s) (length t) (and_left _ _ e) in
    let few : length s ≤ length t = omega arith in
    begins_split t s (begins_same t s e) ∙ ap (λ (l : List ℕ). t ++ l) (drop_of_length-le s few) ∙ append-nil t

pub begins_size : (p s : List ℕ) → starts_with p s ≡ true → length p ≤ length s
begins_size p s e = let z = ap length (begins_split p s e) ∙ length-append p (drop (length p) s) in omega arith

-- a text at the front: what follows is of no matter where enough stands before it
pub starts_in : (d q t : List ℕ) → length d ≤ length q → starts_with d (q ++ t) ≡ starts_with d q
unfolding starts_with
starts_in [] q t h = refl
starts_in (c ∷ d) [] t h = absurd (omega arith)
starts_in (c ∷ d) (x ∷ q) t h = ap (λ (b : Bool). eqb x c && b) (starts_in d q t (omega arith))
