-- How a text is cut into lines, and a line into pieces.
use Rattle.std.specs.Prelude.{◌≡◌, ℕ, ◌<◌, Bool, cond, ◌||◌, List, [], ◌∷◌, length, ◌==◌}
use Rattle.text.specs.declared.runs.Separator.{Separator}
use Rattle.text.specs.declared.runs.Separator.TheVariants.{LineFeed, Blank}

-- a line feed ends a line; a space, a tab or a carriage return ends a piece of a line
abbrev pub separates : Separator → ℕ → Bool
separates LineFeed b = b == 10
separates Blank b = b == 32 || (b == 9 || b == 13)

-- a byte put before the first run
abbrev pub onto : ℕ → List (List ℕ) → List (List ℕ)
onto b [] = (b ∷ []) ∷ []
onto b (r ∷ rs) = (b ∷ r) ∷ rs

-- the runs of bytes that the separators end; bytes after the last separator are a run too
unfoldable pub runs : Separator → List ℕ → List (List ℕ)
runs s [] = []
runs s (b ∷ bs) = cond (separates s b) ([] ∷ runs s bs) (onto b (runs s bs))

-- the first run of bytes, and what follows the separator that ends it; there is nothing of no bytes
pub record FirstRun (s : Separator) (bytes run rest : List ℕ) : Type 0 where
  pub cut : 0 < length bytes → runs s bytes ≡ run ∷ runs s rest
  pub shorter : 0 < length bytes → length rest < length bytes
  pub none : length bytes ≡ 0 → (run ≡ []) × (rest ≡ [])

-- the lines of a text
abbrev pub lines_of : List ℕ → List (List ℕ)
lines_of text = runs LineFeed text

-- the runs that are not empty
unfoldable pub filled : List (List ℕ) → List (List ℕ)
filled [] = []
filled ([] ∷ rs) = filled rs
filled ((b ∷ bs) ∷ rs) = (b ∷ bs) ∷ filled rs

-- the pieces of a line: what stands between blanks
abbrev pub pieces : List ℕ → List (List ℕ)
pieces line = filled (runs Blank line)
