-- Stresses counted in steps: they keep their order, and whole ones stay whole.
use Rattle.std.specs.Prelude.{◌≡◌, ℕ, ◌*◌, ℤ, pos, ◌*ℤ◌, neg_ℤ, refl}
use Rattle.std.proofs.Common.{arith}
use Rattle.std.proofs.lemmas.Int.{ints}
use Rattle.exact.specs.Fractions.{Fraction, whole, ◌≤F◌, ◌≈F◌, ◌*F◌}
use Rattle.exact.proofs.Represented as R
use Rattle.exact.proofs.Order.{same_≤, whole_≤}
use Rattle.exact.proofs.Arithmetic.{*_mono}
use Rattle.laws.specs.Meaning.{steps, in_steps}

pub steps_mono : {p q : Fraction} → p ≤F q → in_steps p ≤F in_steps q
steps_mono h = *_mono (whole_≤ (omega (arith, ints))) h

-- steps of a whole number of psi with its sign turned
pub steps_turned : (t : ℕ) → pos steps *ℤ neg_ℤ (pos t) ≡ neg_ℤ (pos (steps * t))
steps_turned t = R.same (R.mul (R.k steps) (R.neg (R.k t))) (R.neg (R.k (steps * t))) (omega arith)

-- a whole number of psi
pub steps_whole : (k : ℤ) → whole (pos steps *ℤ k) ≈F in_steps (whole k)
unfolding ◌*F◌
steps_whole k = (same_≤ refl refl, same_≤ refl refl)
