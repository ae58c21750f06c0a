-- What `parse` reads of a piece is the number that its figures write.
use Rattle.std.proofs.Common.{◌≡◌, ℕ, eqb, List, [], ◌∷◌, ℤ, Some, None, Ok, Err, IsUtf8, IsAscii, Option, Result, sym, ◌∙◌, subst, inl, inr, arith, w64, MatchOption, MatchResult}
use Rattle.std.specs.Str.Parse.{IsNumeral, ParsesSigned, without_leading_sign}
use Rattle.std.specs.Result.{result_ok}
use Rattle.std.proofs.lemmas.Fmt.{IsAscii-from_digits}
use Rattle.std.proofs.lemmas.Bool.{cases_Bool, eqb-true}
use Rattle.std.proofs.lemmas.Str.{IsUtf8-from_ascii}
use Rattle.std.proofs.lemmas.Str.Ascii.{IsAscii-cons}
use Rattle.text.specs.Figures.{Figures}

ascii_numeral : (bs : List ℕ) → IsNumeral 10 (without_leading_sign bs) → IsAscii bs
ascii_numeral [] h = absurd (omega arith)
ascii_numeral (b ∷ bs) h =
    elim (cases_Bool (eqb b 45)) [
      | inl e ↦ IsAscii-cons b bs (let q = eqb-true b 45 e in omega arith) (IsAscii-from_digits bs (rw e at h).1)
      | inr e ↦ elim (cases_Bool (eqb b 43)) [
        | inl f ↦ IsAscii-cons b bs (let q = eqb-true b 43 f in omega arith) (IsAscii-from_digits bs (rw f at (rw e at h)).1)
        | inr f ↦ IsAscii-from_digits (b ∷ bs) (rw f at (rw e at h)).1
      ]
    ]

pub figures_utf8 : (bs : List ℕ) (z : ℤ) → Figures bs z → IsUtf8 bs
unfolding Figures
figures_utf8 bs z h = IsUtf8-from_ascii bs (ascii_numeral bs h.0.0)

-- a result whose value is kept, by its value
pub kept : {T E : Type 0} (P : T → Type 0) (Q : E → Type 0) (x : T) (r : Result T E) → MatchResult r P Q → Some x ≡ result_ok r → P x
kept P Q x (Ok y) h e = let same : y ≡ x = cc in subst P same h
kept P Q x (Err y) h e = cc

-- and without one
pub not_kept : {T E : Type 0} (P : T → Type 0) (A : Type 0) (B : E → Type 0) (r : Result T E) → MatchResult r P (λ e. A × B e) → None ≡ result_ok r → A
not_kept P A B (Ok y) h e = cc
not_kept P A B (Err y) h e = h.0

-- of a text
text_read : {E : Type 0} (bs : List ℕ) (r : Result ℤ E) (o : Option ℤ) → ParsesSigned w64 10 bs r → o ≡ result_ok r → MatchOption o ((z : ℤ) → Figures bs z → ⊥) (λ z. Figures bs z)
unfolding Figures
text_read bs (Ok x) o h e = rw e h
text_read bs (Err x) o h e = rw e (λ z f. h f.0)

-- and of a piece that is this text
pub number_read : {E : Type 0} (bs text : List ℕ) (r : Result ℤ E) (o : Option ℤ) → text ≡ bs → ParsesSigned w64 10 text r → o ≡ result_ok r → MatchOption o ((z : ℤ) → Figures bs z → ⊥) (λ z. Figures bs z)
number_read bs text r o t h e = subst (λ (bs : List ℕ). MatchOption o ((z : ℤ) → Figures bs z → ⊥) (λ z. Figures bs z)) t (text_read text r o h e)

pub one_number : (piece : List ℕ) (y z : ℤ) → Figures piece y → Figures piece z → y ≡ z
unfolding Figures
one_number piece y z h g = h.1 ∙ sym g.1
