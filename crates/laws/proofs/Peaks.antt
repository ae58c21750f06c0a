-- The stresses of the block and of the trapezoid are shapes over a peak that is a whole number of psi.
use Rattle.std.specs.Prelude.{◌≡◌, ℕ, ◌-◌, ◌*◌, Bool, true, false, cond, pos}
use Rattle.std.proofs.Common.{subst}
use Rattle.exact.specs.declared.bounds.Bounds.{Bounds}
use Rattle.exact.specs.Fractions.{Fraction, whole, over, fraction_le, ◌≈F◌, ◌*F◌, held}
use Rattle.exact.specs.Rounding.{Rounded}
use Rattle.exact.proofs.Order.{≤_refl}
use Rattle.laws.specs.Meaning.{in_steps}
use Rattle.laws.specs.Strengths.{ConcreteGrade, peak_psi, beta}
use Rattle.laws.specs.Stresses.{peak, block_stress, trapezoid_stress}
use Rattle.laws.specs.Owed.Peaks as P
use Rattle.laws.proofs.Stepping.{rounded_alike}

module _ (fc : ℕ) (grade : ConcreteGrade fc) where
  abbrev top : ℕ
  top = peak_psi fc

  peak_whole : peak fc ≈F whole (pos top)
  peak_whole = P.peak_whole fc grade

  pub block_is : (q : Fraction) {e k : ℕ} {r : Bounds} → Rounded (in_steps (cond (fraction_le (over (pos e) (pos 1000)) q) (whole (pos k)) (whole (pos 0)))) r → e ≡ 1000 - beta fc → k ≡ top → Rounded (in_steps (block_stress fc q)) r
  unfolding block_stress
  block_is q {e} {k} {r} w i j = rounded_alike (both (fraction_le (over (pos (1000 - beta fc)) (pos 1000)) q)) (subst (λ (x : ℕ). Rounded (in_steps (cond (fraction_le (over (pos x) (pos 1000)) q) (whole (pos top)) (whole (pos 0)))) r) i (subst (λ (x : ℕ). Rounded (in_steps (cond (fraction_le (over (pos e) (pos 1000)) q) (whole (pos x)) (whole (pos 0)))) r) j w)) where
    both : (b : Bool) → cond b (whole (pos top)) (whole (pos 0)) ≈F cond b (peak fc) (whole (pos 0))
    both true = (peak_whole.1, peak_whole.0)
    both false = (≤_refl, ≤_refl)

  pub trapezoid_is : (q : Fraction) {s k : ℕ} {r : Bounds} → Rounded (in_steps (held (whole (pos 0)) (whole (pos k)) (whole (pos s) *F q))) r → s ≡ 2 * top → k ≡ top → Rounded (in_steps (trapezoid_stress fc q)) r
  trapezoid_is q {s} {k} {r} w i j = rounded_alike (P.trapezoid_held fc grade q) (subst (λ (x : ℕ). Rounded (in_steps (held (whole (pos 0)) (whole (pos top)) (whole (pos x) *F q))) r) i (subst (λ (x : ℕ). Rounded (in_steps (held (whole (pos 0)) (whole (pos x)) (whole (pos s) *F q))) r) j w))
