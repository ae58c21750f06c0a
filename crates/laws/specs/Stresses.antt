-- The exact stress in psi of the block, the trapezoid and the yield law at a strain ratio q.
use Rattle.std.specs.Prelude.{ℕ, ◌-◌, ◌*◌, cond, pos, neg_ℤ}
use Rattle.exact.specs.Fractions.{Fraction, whole, over, fraction_le, ◌*F◌, held}
use Rattle.laws.specs.Strengths.{beta}

-- 0.85 f'c
abbrev pub peak : ℕ → Fraction
peak fc = over (pos (85 * fc)) (pos 100)

-- block: the peak from the ratio (1,000 - β) / 1,000 on, and 0 below it
unfoldable pub block_stress : ℕ → Fraction → Fraction
block_stress fc q = cond (fraction_le (over (pos (1000 - beta fc)) (pos 1000)) q) (peak fc) (whole (pos 0))

-- trapezoid: 0 up to the ratio 0, twice the peak times the ratio up to 1/2, and the peak above
unfoldable pub trapezoid_stress : ℕ → Fraction → Fraction
trapezoid_stress fc q = cond (fraction_le q (whole (pos 0))) (whole (pos 0)) (cond (fraction_le q (over (pos 1) (pos 2))) (peak fc *F (whole (pos 2) *F q)) (peak fc))

-- yield: 87,000 psi times the ratio, held between -fy and fy
unfoldable pub yield_stress : ℕ → Fraction → Fraction
yield_stress fy q = held (whole (neg_ℤ (pos fy))) (whole (pos fy)) (whole (pos 87000) *F q)
