-- The numbers of readings pair up to the readings.
use Rattle.std.proofs.Common.{◌≡◌, List, [], ◌∷◌, refl, ap}
use Rattle.std.specs.List.{flat_map}
use Rattle.laws.specs.declared.mill.reading.Reading.{Reading}
use Rattle.questions.specs.Asked.{numbers_in}
use Rattle.answering.specs.Answering.{paired}

pub paired_numbers : (rs : List Reading) → paired (flat_map numbers_in rs) ≡ rs
unfolding paired
paired_numbers [] = refl
paired_numbers (r ∷ rs) = ap (λ qs. r ∷ qs) (paired_numbers rs)
