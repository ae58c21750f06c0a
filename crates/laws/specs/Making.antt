-- Which law is made of a strength, and when none is.
use Rattle.std.specs.Prelude.{◌≡◌, ℕ, ℤ, pos, Ok, Err, Result}
use Rattle.laws.specs.declared.fault.Fault.{Fault}
use Rattle.laws.specs.Faults.{refusal}

-- where the strength that was handed in is a grade, a law of just this strength is made; where it is none, it is refused 1
abbrev pub Made : {L : Type 0} → (ℕ → Type 0) → (L → ℕ) → ℤ → Result L Fault → Type 0
Made Grade psi_of given (Ok l) = Grade (psi_of l) × (given ≡ pos (psi_of l))
Made Grade psi_of given (Err e) = ((psi : ℕ) → given ≡ pos psi → Grade psi → ⊥) × (refusal e ≡ 1)
