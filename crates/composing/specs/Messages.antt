-- What is told of a text that is refused.
use Rattle.std.specs.Prelude.{ℕ, ◌-◌, ◌*◌, ◌^◌, List, [], ◌∷◌, ◌++◌, pos, neg_ℤ, codes, decimal}
use Rattle.std.specs.Fmt.{signed_decimal}
use Rattle.section.specs.declared.bars.Bar.{Bar}
use Rattle.section.specs.Bars.{bars}
use Rattle.words.specs.declared.kind.Kind.{Kind}
use Rattle.words.specs.declared.kind.Kind.TheVariants.{Open, Lay, Place, Lift, Axial, Moment, Solve}
use Rattle.composing.specs.declared.compose.Failure.{Failure}
use Rattle.composing.specs.declared.compose.Failure.TheVariants.{Memory, Line}
use Rattle.composing.specs.declared.expected.Expected.{Expected}
use Rattle.composing.specs.declared.expected.Expected.TheVariants.{Name, Numbers, Fit}

-- the form of a line, with N for each number
abbrev pub form_text : Kind → List ℕ
form_text Open = codes "open fc N fy N"
form_text Lay = codes "lay thickness N width N"
form_text Place = codes "place bar N count N depth N"
form_text Lift = codes "lift row N"
form_text Axial = codes "axial pu N"
form_text Moment = codes "moment member N mu N"
form_text Solve = codes "solve alone"

-- the numbers of bars, a space before each
abbrev pub bar_numbers : List Bar → List ℕ
bar_numbers [] = []
bar_numbers (b ∷ bs) = codes " " ++ (decimal b.number ++ bar_numbers bs)

-- what the numbers of a line may be
abbrev pub ranges_text : Kind → List ℕ
ranges_text Open = codes "fc and fy multiples of " ++ (decimal 100 ++ (codes " from 0 to " ++ decimal (100 * (2 ^ 14 - 1))))
ranges_text Lay = codes "thickness and width from 0 to " ++ decimal (2 ^ 14 - 1)
ranges_text Place = codes "count from 0 to " ++ (decimal (2 ^ 6 - 1) ++ (codes ", depth from 0 to " ++ (decimal (2 ^ 14 - 1) ++ (codes ", bar one of" ++ bar_numbers bars))))
ranges_text Lift = codes "row from 0 to " ++ decimal (2 ^ 28 - 1)
ranges_text Axial = codes "pu from " ++ (signed_decimal (neg_ℤ (pos (2 ^ 27))) ++ (codes " to " ++ signed_decimal (pos (2 ^ 27 - 1))))
ranges_text Moment = codes "member from 0 to " ++ (decimal (2 ^ 2 - 1) ++ (codes ", mu from 0 to " ++ decimal (2 ^ 26 - 1)))
ranges_text Solve = codes "solve alone"

-- what was expected of a line
abbrev pub expected_text : Expected → List ℕ
expected_text Name = codes "open, lay, place, lift, axial, moment or solve"
expected_text (Numbers k) = form_text k
expected_text (Fit k) = ranges_text k

-- the line that was refused, counted from 1, and what was expected of it
abbrev pub failure_text : Failure → List ℕ
failure_text Memory = codes "out of memory"
failure_text (Line n x) = codes "line " ++ (decimal n ++ (codes ": expected " ++ expected_text x))
