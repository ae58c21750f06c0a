-- The numbers of the readings that pairs are stand in the pairs.
use Rattle.std.proofs.Common.{◌≡◌, ℕ, ◌*◌, ◌/◌, ◌%◌, List, [], ◌∷◌, length, map, ℤ, zero, suc, refl, ap, arith}
use Rattle.std.specs.Simd.{first_chunks}
use Rattle.std.specs.List.{flat_map}
use Rattle.questions.specs.Asked.{numbers_in, reading_of}

chunked : (k : ℕ) (zs : List ℤ) → length zs ≡ k * 2 → flat_map numbers_in (map reading_of (first_chunks 2 k zs)) ≡ zs
chunked zero [] e = refl
chunked zero (z ∷ zs) e = absurd (omega arith)
chunked (suc k) [] e = absurd (omega arith)
chunked (suc k) (z ∷ []) e = absurd (omega arith)
chunked (suc k) (a ∷ b ∷ zs) e = ap (λ ys. a ∷ b ∷ ys) (chunked k zs (omega arith))

pub numbers_of_pairs : (zs : List ℤ) → length zs % 2 ≡ 0 → flat_map numbers_in (map reading_of (first_chunks 2 (length zs / 2) zs)) ≡ zs
numbers_of_pairs zs e = chunked (length zs / 2) zs (omega arith)
