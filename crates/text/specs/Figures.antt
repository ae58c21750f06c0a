-- A number in figures.
use Rattle.std.specs.Prelude.{◌≡◌, ℕ, List, ◌∷◌, ℤ, FitsSigned}
use Rattle.std.specs.Int.{w64}
use Rattle.std.specs.Str.Parse.{IsNumeral, without_leading_sign, signed_digits_value}

-- decimal digits, one or more, after a sign or none; the number that they write fits 64 bits
abbrev pub Legible : List ℕ → Type 0
Legible piece = IsNumeral 10 (without_leading_sign piece) × FitsSigned w64 (signed_digits_value 10 piece)

-- and it is z
unfoldable pub Figures : List ℕ → ℤ → Type 0
Figures piece z = Legible piece × (z ≡ signed_digits_value 10 piece)

-- the pieces begin with the figures of z
abbrev pub NumberFirst : List (List ℕ) → ℤ → List (List ℕ) → Type 0
NumberFirst ps z rest = (piece : List ℕ) × (ps ≡ piece ∷ rest) × Figures piece z

-- or with those of no number
abbrev pub NoNumberFirst : List (List ℕ) → Type 0
NoNumberFirst ps = (z : ℤ) (rest : List (List ℕ)) → NumberFirst ps z rest → ⊥
