-- The name and the numbers of a law that is asked.
use Rattle.std.specs.Prelude.{◌≡◌, List, [], ◌∷◌, ℤ, pos, slice_index_or}
use Rattle.std.specs.List.{flat_map}
use Rattle.laws.specs.declared.mill.reading.Reading.{Reading}
use Rattle.questions.specs.declared.law.asked.Asked.{Asked}
use Rattle.questions.specs.declared.law.asked.Asked.TheVariants as made
use Rattle.questions.specs.declared.law.Law.{Law}
use Rattle.questions.specs.declared.law.Law.TheVariants.{Block, Trapezoid, Yield, Mill}
use Rattle.questions.specs.Questions.{Takes}

-- its name
abbrev pub law_of : Asked → Law
law_of (made.Block fc) = Block
law_of (made.Trapezoid fc) = Trapezoid
law_of (made.Yield fy) = Yield
law_of (made.Mill readings) = Mill

-- a ratio and a stress
abbrev pub numbers_in : Reading → List ℤ
numbers_in r = r.ratio ∷ r.stress ∷ []

-- the numbers of which the law is made
abbrev pub numbers_of : Asked → List ℤ
numbers_of (made.Block fc) = fc ∷ []
numbers_of (made.Trapezoid fc) = fc ∷ []
numbers_of (made.Yield fy) = fy ∷ []
numbers_of (made.Mill readings) = flat_map numbers_in readings.items

-- the law that takes the numbers, made of them
pub record IsAskedOf (the_law : Law) (zs : List ℤ) (asked : Asked) : Type 0 where
  pub law : law_of asked ≡ the_law
  pub numbers : numbers_of asked ≡ zs
  pub takes : Takes the_law zs

-- the reading that a pair of numbers is
abbrev pub reading_of : List ℤ → Reading
reading_of pair = record { ratio = slice_index_or pair 0 (pos 0); stress = slice_index_or pair 1 (pos 0) }
