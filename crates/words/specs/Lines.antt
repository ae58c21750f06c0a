-- An entry as a line of words and figures.
use Rattle.std.specs.Prelude.{ℕ, List, [], ◌∷◌, ◌++◌, ℤ, codes}
use Rattle.std.specs.Fmt.{signed_decimal}
use Rattle.words.specs.Kinds.{name_of, kind_of}
use Rattle.words.specs.declared.entry.Entry.{Entry}
use Rattle.words.specs.declared.entry.Entry.TheVariants.{Open, Lay, Place, Lift, Axial, Moment, Solve}

-- a number of an entry, with the label that stands before it
pub record Labelled : Type 0 where
  pub label : List ℕ
  pub value : ℤ

-- the number z with the label l
abbrev pub labelled : List ℕ → ℤ → Labelled
labelled l z = record { label = l; value = z }

-- the numbers of an entry, in the order of its line
abbrev pub numbers_of : Entry → List Labelled
numbers_of (Open fc fy) = labelled (codes "fc") fc ∷ labelled (codes "fy") fy ∷ []
numbers_of (Lay thickness width) = labelled (codes "thickness") thickness ∷ labelled (codes "width") width ∷ []
numbers_of (Place bar count depth) = labelled (codes "bar") bar ∷ labelled (codes "count") count ∷ labelled (codes "depth") depth ∷ []
numbers_of (Lift row) = labelled (codes "row") row ∷ []
numbers_of (Axial pu) = labelled (codes "pu") pu ∷ []
numbers_of (Moment member mu) = labelled (codes "member") member ∷ labelled (codes "mu") mu ∷ []
numbers_of Solve = []

-- a space, the label, a space and the figures
abbrev pub shown_number : Labelled → List ℕ
shown_number n = codes " " ++ (n.label ++ (codes " " ++ signed_decimal n.value))

-- such numbers one after another
abbrev pub shown_numbers : List Labelled → List ℕ
shown_numbers [] = []
shown_numbers (n ∷ []) = shown_number n
shown_numbers (n ∷ m ∷ ms) = shown_number n ++ shown_numbers (m ∷ ms)

-- the line: the name of the entry's kind, and then its numbers
abbrev pub line_of : Entry → List ℕ
line_of e = name_of (kind_of e) ++ shown_numbers (numbers_of e)
