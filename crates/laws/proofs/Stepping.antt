-- Stresses counted in steps, rounded: the same stress alike, a whole one to itself, a quotient, a product, a step.
use Rattle.std.specs.Prelude.{◌≡◌, ℕ, ◌*◌, ℤ, pos, ◌*ℤ◌, ◌≤ℤ◌}
use Rattle.std.proofs.Common.{subst}
use Rattle.exact.specs.declared.bounds.Bounds.{Bounds}
use Rattle.exact.specs.Fractions.{Fraction, whole, over, ◌≈F◌, ◌*F◌}
use Rattle.exact.specs.Rounding.{IsFloor, IsCeiling, Rounded}
use Rattle.exact.proofs.Arithmetic.{times_over}
use Rattle.exact.proofs.Rounding.{rounded_same, rounded_whole}
use Rattle.laws.specs.Meaning.{steps, in_steps}
use Rattle.laws.specs.Owed.Stepping.{steps_mono, steps_whole}

steps_same : {p q : Fraction} → p ≈F q → in_steps p ≈F in_steps q
steps_same h = (steps_mono h.0, steps_mono h.1)

-- the same stress is rounded alike
pub rounded_alike : {p q : Fraction} {r : Bounds} → p ≈F q → Rounded (in_steps p) r → Rounded (in_steps q) r
rounded_alike h w = rounded_same (steps_same h) w

pub rounded_psi : (k : ℤ) → Rounded (in_steps (whole k)) (record { floor = pos steps *ℤ k; ceiling = pos steps *ℤ k })
rounded_psi k = rounded_same (steps_whole k) (rounded_whole (pos steps *ℤ k))

-- a quotient of steps
pub rounded_over : (n m x y : ℤ) {z a b : ℤ} → pos 1 ≤ℤ m → IsFloor (over z m) a → IsCeiling (over z m) b → z ≡ pos steps *ℤ n → x ≡ a → y ≡ b → Rounded (in_steps (over n m)) (record { floor = x; ceiling = y })
rounded_over n m x y {z} {a} {b} h f g e i j = rw (i, j) (rounded_same (times_over (pos steps) n m z h e) (record { floor = f; ceiling = g }))

-- k times n by m is k times the quotient
pub rounded_times : (k n m : ℤ) {z d : ℤ} {r : Bounds} → pos 1 ≤ℤ m → Rounded (in_steps (over z d)) r → z ≡ k *ℤ n → d ≡ m → Rounded (in_steps (whole k *F over n m)) r
rounded_times k n m {z} {d} {r} h w e f = rounded_alike (times_over k n m z h e) (subst (λ (x : ℤ). Rounded (in_steps (over z x)) r) f w)

-- a whole stress that the code has in steps
pub rounded_steps : (k : ℕ) {x y : ℤ} → x ≡ pos (steps * k) → y ≡ pos (steps * k) → Rounded (in_steps (whole (pos k))) (record { floor = x; ceiling = y })
rounded_steps k e f = rw (e, f) (rounded_psi (pos k))
