-- What a question is answered: its law is made of its numbers, and then answers at n / m.
use Rattle.std.specs.Prelude.{◌≡◌, ℕ, true, false, List, [], ◌∷◌, map, ℤ, pos, Err, Result}
use Rattle.exact.specs.declared.bounds.Bounds.{Bounds}
use Rattle.exact.specs.Fractions.{Fraction}
use Rattle.laws.specs.declared.fault.Fault.{Fault}
use Rattle.laws.specs.declared.mill.point.Point.{Point}
use Rattle.laws.specs.declared.mill.reading.Reading.{Reading}
use Rattle.laws.specs.Curves.{mill_stress}
use Rattle.laws.specs.Faults.{refusal}
use Rattle.laws.specs.Meaning.{Answers}
use Rattle.laws.specs.Rules.{reading, ruled}
use Rattle.laws.specs.Strengths.{ConcreteGrade, YieldGrade}
use Rattle.laws.specs.Stresses.{block_stress, trapezoid_stress, yield_stress}
use Rattle.questions.specs.declared.law.Law.{Law}
use Rattle.questions.specs.declared.law.Law.TheVariants.{Block, Trapezoid, Yield, Mill}

-- refused with a number
abbrev pub RefusedBy : ℕ → Result Bounds Fault → Type 0
RefusedBy number r = (e : Fault) × (r ≡ Err e) × (refusal e ≡ number)

-- a law of one strength is asked where the number given is a grade; else 1 is refused
pub data OfStrength (Grade : ℕ → Type 0) (stress : ℕ → Fraction → Fraction) (given n m : ℤ) (r : Result Bounds Fault) : Type 0 where
  graded : (psi : ℕ) → given ≡ pos psi → Grade psi → Answers (stress psi) n m r → OfStrength Grade stress given n m r
  ungraded : ((psi : ℕ) → given ≡ pos psi → Grade psi → ⊥) → RefusedBy 1 r → OfStrength Grade stress given n m r

-- the readings that numbers pair up to: a ratio and a stress each
unfoldable pub paired : List ℤ → List Reading
paired [] = []
paired (ratio ∷ []) = []
paired (ratio ∷ stress ∷ zs) = record { ratio = ratio; stress = stress } ∷ paired zs

-- a mill curve is asked where the readings keep its rules; else 2 is refused
pub data OfReadings (rs : List Reading) (n m : ℤ) (r : Result Bounds Fault) : Type 0 where
  keeping : (points : List Point) → rs ≡ map reading points → ruled rs ≡ true → Answers (mill_stress points) n m r → OfReadings rs n m r
  breaking : ruled rs ≡ false → RefusedBy 2 r → OfReadings rs n m r

-- the answer of the law of the numbers at n / m
abbrev pub Answered : Law → List ℤ → ℤ → ℤ → Result Bounds Fault → Type 0
Answered Block zs n m r = (fc : ℤ) × (zs ≡ fc ∷ []) × OfStrength ConcreteGrade block_stress fc n m r
Answered Trapezoid zs n m r = (fc : ℤ) × (zs ≡ fc ∷ []) × OfStrength ConcreteGrade trapezoid_stress fc n m r
Answered Yield zs n m r = (fy : ℤ) × (zs ≡ fy ∷ []) × OfStrength YieldGrade yield_stress fy n m r
Answered Mill zs n m r = OfReadings (paired zs) n m r
