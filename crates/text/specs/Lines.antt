-- The lines of a text, one after another.
use Rattle.std.specs.Prelude.{ℕ, List}
use Rattle.text.specs.declared.lines.Lines.{Lines}
use Rattle.text.specs.Runs.{lines_of}

-- the text whose lines are still to come
abbrev pub text_left : Lines → List ℕ
text_left lines = lines.rest.now

-- those lines
abbrev pub lines_left : Lines → List (List ℕ)
lines_left lines = lines_of (text_left lines)
