-- The stream that a text asks for.
use Rattle.std.specs.Prelude.{◌≡◌, ℕ, suc, ◌⊎◌, List, [], ◌∷◌, ◌++◌, length, Some, None, Ok, Err}
use Rattle.words.specs.Streams.{spread}
use Rattle.composing.specs.declared.compose.Failure.{Failure}
use Rattle.composing.specs.declared.compose.Failure.TheVariants.{Memory, Line}
use Rattle.composing.specs.Asking.{Answered}
use Rattle.text.specs.Runs.{lines_of}

-- the words that lines ask for, in order: none of a line that is skipped, one of any other
unfoldable pub Asked : List (List ℕ) → List ℕ → Type 0
Asked [] ws = ws ≡ []
Asked (l ∷ ls) ws = (Answered l (Ok None) × Asked ls ws) ⊎ ((w : ℕ) × (more : List ℕ) × (ws ≡ w ∷ more) × Answered l (Ok (Some w)) × Asked ls more)

-- the bytes are those of the words that the lines of the text ask for
pub record Composed (text bytes : List ℕ) : Type 0 where
  pub words : List ℕ
  pub asked : Asked (lines_of text) words
  pub written : bytes ≡ spread words

-- the line is the n-th of the text, counted from 1, and each line before it is skipped or asks for a word
pub record Reached (text line : List ℕ) (n : ℕ) : Type 0 where
  pub before : List (List ℕ)
  pub after : List (List ℕ)
  pub cut : lines_of text ≡ before ++ (line ∷ after)
  pub counted : n ≡ suc (length before)
  pub words : List ℕ
  pub asked : Asked before words

-- no stream is made: the text has such a line which lacks what was expected, or one for whose word memory is wanting
abbrev pub Refused : List ℕ → Failure → Type 0
Refused text Memory = (line : List ℕ) × (n : ℕ) × Reached text line n × ((w : ℕ) × Answered line (Ok (Some w)))
Refused text (Line n x) = (line : List ℕ) × Reached text line n × Answered line (Err x)
