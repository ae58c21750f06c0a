-- Fractions rounded to whole numbers.
use Rattle.std.specs.Prelude.{ℤ, pos, ◌+ℤ◌, ◌-ℤ◌, neg_ℤ}
use Rattle.exact.specs.declared.bounds.Bounds.{Bounds}
use Rattle.exact.specs.Fractions.{Fraction, whole, ◌≤F◌, ◌<F◌}

-- k is the floor of q: the greatest whole number that is not above q
pub record IsFloor (q : Fraction) (k : ℤ) : Type 0 where
  pub reached : whole k ≤F q
  pub next : q <F whole (k +ℤ pos 1)

-- k is the ceiling of q: the smallest whole number that is not below q
pub record IsCeiling (q : Fraction) (k : ℤ) : Type 0 where
  pub reached : q ≤F whole k
  pub before : whole (k -ℤ pos 1) <F q

-- r has the floor of q, and its ceiling
pub record Rounded (q : Fraction) (r : Bounds) : Type 0 where
  pub floor : IsFloor q r.floor
  pub ceiling : IsCeiling q r.ceiling

-- the sign turned: the floor with its sign turned is the ceiling, and the ceiling the floor
abbrev pub turned : Bounds → Bounds
turned r = record { floor = neg_ℤ r.ceiling; ceiling = neg_ℤ r.floor }
