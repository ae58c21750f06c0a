-- A law of the strength that was given answers for it.
use Rattle.std.proofs.Common.{◌≡◌, ℕ, [], ◌∷◌, ℤ, pos, Result, SFits, w64, to_z, of_z, refl}
use Rattle.std.proofs.lemmas.Int.{to_z-of_z}
use Rattle.exact.specs.declared.bounds.Bounds.{Bounds}
use Rattle.exact.specs.Fractions.{Fraction}
use Rattle.laws.specs.declared.fault.Fault.{Fault}
use Rattle.laws.specs.Meaning.{Answers}
use Rattle.answering.specs.Answering.{OfStrength}
use Rattle.answering.specs.Answering.OfStrength.{graded}

pub of_grade : (Grade : ℕ → Type 0) (stress : ℕ → Fraction → Fraction) (psi : ℕ) (given n m : ℤ) (r : Result Bounds Fault) → SFits w64 given → SFits w64 n → SFits w64 m → Grade psi → to_z w64 (of_z w64 given) ≡ pos psi → Answers (stress psi) (to_z w64 (of_z w64 n)) (to_z w64 (of_z w64 m)) r → (z : ℤ) × (given ∷ [] ≡ z ∷ []) × OfStrength Grade stress z n m r
of_grade Grade stress psi given n m r given_fits n_fits m_fits grade e a =
    (given, refl, graded psi (simp to_z-of_z at e) grade (simp to_z-of_z at a))
