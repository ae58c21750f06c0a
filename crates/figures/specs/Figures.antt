-- Worked figures of the laws, as theorems about their definitions.
use Rattle.std.specs.Prelude.{◌≡◌, List, [], ◌∷◌, ℤ, pos, negsuc, Ok, Result}
use Rattle.exact.specs.declared.bounds.Bounds.{Bounds}
use Rattle.exact.specs.Fractions.{Fraction}
use Rattle.laws.specs.declared.fault.Fault.{Fault}
use Rattle.laws.specs.declared.mill.point.Point.{Point}
use Rattle.laws.specs.Curves.{mill_stress}
use Rattle.laws.specs.Meaning.{Answers}
use Rattle.laws.specs.Strengths.{beta}
use Rattle.laws.specs.Stresses.{block_stress, trapezoid_stress, yield_stress}

-- this floor and this ceiling
abbrev pub bounds : ℤ → ℤ → Bounds
bounds low high = record { floor = low; ceiling = high }

-- a law with the stress f can answer nothing but a at n / m
abbrev pub Gives : (Fraction → Fraction) → ℤ → ℤ → Bounds → Type 0
Gives f n m a = (r : Result Bounds Fault) → Answers f n m r → r ≡ Ok a

-- the points of a mill curve: 60,000 psi at 0.69 of the crushing strain, 80,000 at five times it
abbrev pub measured : List Point
measured =
    record { ratio = 0; stress = 0 } ∷ record { ratio = 690; stress = 60000 } ∷ record { ratio = 5000; stress = 80000 } ∷ []

-- β in thousandths at strengths in psi; floors and ceilings in steps, which are psi
pub record Worked : Type 0 where
  pub beta_4000 : beta 4000 ≡ 850
  pub beta_4100 : beta 4100 ≡ 845
  pub beta_8000 : beta 8000 ≡ 650
  pub beta_10000 : beta 10000 ≡ 650
  pub block_at_edge : Gives (block_stress 4000) (pos 3) (pos 20) (bounds (pos 3400) (pos 3400))
  pub block_below_edge : Gives (block_stress 4000) (pos 29) (pos 200) (bounds (pos 0) (pos 0))
  pub trapezoid_seventh : Gives (trapezoid_stress 4000) (pos 1) (pos 7) (bounds (pos 971) (pos 972))
  pub trapezoid_half : Gives (trapezoid_stress 4000) (pos 1) (pos 2) (bounds (pos 3400) (pos 3400))
  pub yield_seventh : Gives (yield_stress 60000) (pos 1) (pos 7) (bounds (pos 12428) (pos 12429))
  pub yield_in_tension : Gives (yield_stress 60000) (negsuc 0) (pos 7) (bounds (negsuc 12428) (negsuc 12427))
  pub mill_one : Gives (mill_stress measured) (pos 1) (pos 1) (bounds (pos 61438) (pos 61439))
