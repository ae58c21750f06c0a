-- The yield law's stress is its elastic slope held between the yield strengths.
use Rattle.std.specs.Prelude.{◌≡◌, ℕ, pos, neg_ℤ}
use Rattle.std.proofs.Common.{subst}
use Rattle.exact.specs.declared.bounds.Bounds.{Bounds}
use Rattle.exact.specs.Fractions.{Fraction, whole, ◌*F◌, held}
use Rattle.exact.specs.Rounding.{Rounded}
use Rattle.laws.specs.Meaning.{in_steps}
use Rattle.laws.specs.Stresses.{yield_stress}

pub yield_is : (fy : ℕ) (q : Fraction) {e t k : ℕ} {r : Bounds} → Rounded (in_steps (held (whole (neg_ℤ (pos t))) (whole (pos k)) (whole (pos e) *F q))) r → e ≡ 87000 → t ≡ fy → k ≡ fy → Rounded (in_steps (yield_stress fy q)) r
unfolding yield_stress
yield_is fy q {e} {t} {k} {r} w i j l = subst (λ (v : Fraction). Rounded (in_steps v) r) (same (λ (e t k : ℕ). held (whole (neg_ℤ (pos t))) (whole (pos k)) (whole (pos e) *F q))) w where
  same : (F : ℕ → ℕ → ℕ → Fraction) → F e t k ≡ F 87000 fy fy
  same F = cc
