-- The bars that a section may hold.
use Rattle.std.specs.Prelude.{◌≡◌, ℕ, ◌<◌, List, [], ◌∷◌, length, ℤ, pos, slice_index_or}
use Rattle.section.specs.declared.bars.Bar.{Bar}

-- a bar with a number and an area
abbrev bar : ℕ → ℕ → Bar
bar n a = record { number = n; area = a }

-- each bar by its number and its area in square ticks
abbrev pub bars : List Bar
bars =
    bar 3 1100 ∷ bar 4 2000 ∷ bar 5 3100 ∷ bar 6 4400 ∷ bar 7 6000 ∷ bar 8 7900 ∷ bar 9 10000 ∷ bar 10 12700 ∷ bar 11 15600 ∷ bar 14 22500 ∷ bar 18 40000 ∷ []

-- how many there are
abbrev pub rows : ℕ
rows = length bars

-- the bar at a position of that list, counted from 0; past the end one that no position below `rows` has
unfoldable pub bar_at : ℕ → Bar
bar_at i = slice_index_or bars i (bar 0 0)

-- the bar at this position has the number z
abbrev pub Numbered : ℤ → ℕ → Type 0
Numbered z i = (i < rows) × (z ≡ pos (bar_at i).number)
