-- How the pieces of a line spell an entry.
use Rattle.std.specs.Prelude.{◌≡◌, ℕ, List, [], ◌∷◌, map, ℤ}
use Rattle.std.specs.List.{zip}
use Rattle.words.specs.declared.entry.Entry.{Entry}
use Rattle.words.specs.declared.kind.Kind.{Kind}
use Rattle.words.specs.Kinds.{kind_of, name_of}
use Rattle.words.specs.Lines.{Labelled, labelled, numbers_of}
use Rattle.text.specs.Figures.{Figures}

-- the pieces begin with a label and the figures of z
abbrev pub NumberFirst : List ℕ → List (List ℕ) → ℤ → List (List ℕ) → Type 0
NumberFirst label ps z rest = (piece : List ℕ) × (ps ≡ label ∷ piece ∷ rest) × Figures piece z

-- the pieces are these numbers, each after its label, and nothing else
abbrev pub Numbers : List Labelled → List (List ℕ) → Type 0
Numbers [] ps = ps ≡ []
Numbers (n ∷ ns) ps = (rest : List (List ℕ)) × NumberFirst n.label ps n.value rest × Numbers ns rest

-- numbers, each with the label at its place
abbrev pub labelled_all : List (List ℕ) → List ℤ → List Labelled
labelled_all labels zs = map (λ p. labelled p.0 p.1) (zip labels zs)

-- the pieces are the numbers of no entry of the kind
abbrev pub NoNumbers : Kind → List (List ℕ) → Type 0
NoNumbers k ps = (e : Entry) → kind_of e ≡ k → Numbers (numbers_of e) ps → ⊥

-- the pieces spell the entry: the name of its kind, and then its numbers
abbrev pub Spells : List (List ℕ) → Entry → Type 0
Spells ps e = (rest : List (List ℕ)) × (ps ≡ name_of (kind_of e) ∷ rest) × Numbers (numbers_of e) rest
