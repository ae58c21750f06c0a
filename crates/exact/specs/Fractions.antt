-- Exact fractions: quotients of whole numbers, their order, their sums and products.
use Rattle.std.specs.Prelude.{ℕ, zero, suc, ◌*◌, ◌<◌, Bool, cond, ℤ, pos, negsuc, ◌+ℤ◌, ◌*ℤ◌, neg_ℤ, ◌≤ℤ◌, ◌<ℤ◌, int_le}
use Rattle.std.proofs.Common.{lit<, mul-pos}
use Rattle.std.proofs.Math.Nat.{zero-lt-suc}

-- num / den
pub record Fraction : Type 0 where
  pub num : ℤ
  pub den : ℕ
  pub positive : 0 < den

-- a whole number
abbrev pub whole : ℤ → Fraction
whole k = record { num = k; den = 1; positive = lit< tt }

-- n / (d + 1)
abbrev pub part : ℤ → ℕ → Fraction
part n d = record { num = n; den = suc d; positive = zero-lt-suc d }

-- n / m where m is positive; elsewhere there is no such quotient, and this is 0
abbrev pub over : ℤ → ℤ → Fraction
over n (pos zero) = whole (pos 0)
over n (pos (suc d)) = part n d
over n (negsuc d) = whole (pos 0)

infix 50 ◌≤F◌ ◌<F◌ ◌≈F◌
-- the cross products are in order
unfoldable pub Crossed≤ : Fraction → Fraction → Type 0
Crossed≤ p q = (p.num *ℤ pos q.den) ≤ℤ (q.num *ℤ pos p.den)

-- the cross products are strictly in order
unfoldable pub Crossed< : Fraction → Fraction → Type 0
Crossed< p q = (p.num *ℤ pos q.den) <ℤ (q.num *ℤ pos p.den)

-- p is at most q
pub record ◌≤F◌ (p q : Fraction) : Type 0 where
  pub cross : Crossed≤ p q

-- p is less than q
pub record ◌<F◌ (p q : Fraction) : Type 0 where
  pub cross : Crossed< p q

-- p and q are the same number
abbrev pub ◌≈F◌ : Fraction → Fraction → Type 0
p ≈F q = (p ≤F q) × (q ≤F p)

-- whether p is at most q
abbrev pub fraction_le : Fraction → Fraction → Bool
fraction_le p q = int_le (p.num *ℤ pos q.den) (q.num *ℤ pos p.den)

infixl 60 ◌+F◌
infixl 70 ◌*F◌
-- the sum
unfoldable pub ◌+F◌ : Fraction → Fraction → Fraction
p +F q = record { num = p.num *ℤ pos q.den +ℤ q.num *ℤ pos p.den; den = p.den * q.den; positive = mul-pos p.positive q.positive }

-- the product
unfoldable pub ◌*F◌ : Fraction → Fraction → Fraction
p *F q = record { num = p.num *ℤ q.num; den = p.den * q.den; positive = mul-pos p.positive q.positive }

-- q with its sign turned
unfoldable pub minus : Fraction → Fraction
minus q = record { num = neg_ℤ q.num; den = q.den; positive = q.positive }

-- the smaller of two
abbrev pub fraction_min : Fraction → Fraction → Fraction
fraction_min p q = cond (fraction_le p q) p q

-- the greater of two
abbrev pub fraction_max : Fraction → Fraction → Fraction
fraction_max p q = cond (fraction_le p q) q p

-- q held between low and high
abbrev pub held : Fraction → Fraction → Fraction → Fraction
held low high q = fraction_min high (fraction_max low q)
