-- What the pieces of a line ask.
use Rattle.std.specs.Prelude.{◌≡◌, ℕ, ◌%◌, List, [], ◌∷◌, ◌++◌, length, ℤ, codes}
use Rattle.std.specs.List.{AllZip}
use Rattle.text.specs.Figures.{Figures, NumberFirst}
use Rattle.questions.specs.declared.law.Law.{Law}
use Rattle.questions.specs.declared.law.Law.TheVariants.{Block, Trapezoid, Yield, Mill}

abbrev pub name_of : Law → List ℕ
name_of Block = codes "block"
name_of Trapezoid = codes "trapezoid"
name_of Yield = codes "yield"
name_of Mill = codes "mill"

-- the law takes as many numbers as these: one, or for a mill curve pairs
abbrev pub Takes : Law → List ℤ → Type 0
Takes Block zs = length zs ≡ 1
Takes Trapezoid zs = length zs ≡ 1
Takes Yield zs = length zs ≡ 1
Takes Mill zs = length zs % 2 ≡ 0

-- the pieces are the figures of the numbers, one piece a number
abbrev pub Written : List (List ℕ) → List ℤ → Type 0
Written = AllZip Figures

-- the pieces begin with the figures of the numbers
pub record Leading (ps : List (List ℕ)) (zs : List ℤ) (rest : List (List ℕ)) : Type 0 where
  pub figures : List (List ℕ)
  pub cut : ps ≡ figures ++ rest
  pub written : Written figures zs

-- the pieces are the figures of n and of m, and nothing else
abbrev pub Two : List (List ℕ) → ℤ → ℤ → Type 0
Two ps n m = (rest : List (List ℕ)) × NumberFirst ps n rest × NumberFirst rest m []

-- and with `at` before them
abbrev pub At : List (List ℕ) → ℤ → ℤ → Type 0
At ps n m = (rest : List (List ℕ)) × (ps ≡ codes "at" ∷ rest) × Two rest n m

-- the pieces are the law's name, the figures of as many numbers as it takes, `at`, the figures of n and of m, and nothing else
pub record Asks (ps : List (List ℕ)) (law : Law) (zs : List ℤ) (n m : ℤ) : Type 0 where
  pub numbers : List (List ℕ)
  pub place : List (List ℕ)
  pub cut : ps ≡ name_of law ∷ (numbers ++ place)
  pub written : Written numbers zs
  pub takes : Takes law zs
  pub at : At place n m

abbrev pub AsksNothing : List (List ℕ) → Type 0
AsksNothing ps = (law : Law) (zs : List ℤ) (n m : ℤ) → Asks ps law zs n m → ⊥
