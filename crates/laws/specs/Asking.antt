-- What holds of the answers of every law.
use Rattle.std.specs.Prelude.{◌≡◌, ℤ, pos, ◌+ℤ◌, ◌≤ℤ◌, Ok}
use Rattle.exact.specs.declared.bounds.Bounds.{Bounds}
use Rattle.exact.specs.Fractions.{Fraction, over, ◌≤F◌, ◌≈F◌}
use Rattle.laws.specs.Meaning.{Answers}

-- floor and ceiling lie from the least to the most, at most one step apart
pub record Between (least most : ℤ) (a : Bounds) : Type 0 where
  pub from : least ≤ℤ a.floor
  pub ordered : a.floor ≤ℤ a.ceiling
  pub close : a.ceiling ≤ℤ (a.floor +ℤ pos 1)
  pub to : a.ceiling ≤ℤ most

-- floor and ceiling do not fall as the ratio n / m grows
abbrev pub Rising : (Fraction → Fraction) → ℤ → ℤ → Bounds → Type 0
Rising f n m a = (n' m' : ℤ) (b : Bounds) → Answers f n' m' (Ok b) → over n m ≤F over n' m' → (a.floor ≤ℤ b.floor) × (a.ceiling ≤ℤ b.ceiling)

-- equal ratios in other terms have equal stress and equal answers
abbrev pub Alike : (Fraction → Fraction) → ℤ → ℤ → Bounds → Type 0
Alike f n m a = (n' m' : ℤ) (b : Bounds) → Answers f n' m' (Ok b) → over n m ≈F over n' m' → (f (over n m) ≈F f (over n' m')) × (a ≡ b)
