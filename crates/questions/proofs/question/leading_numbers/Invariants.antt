-- The numbers so far lead the line, and what is left follows them.
use Rattle.std.proofs.Common.{length, vec_items}
use Rattle.text.specs.Runs.{pieces}
use Rattle.questions.specs.Questions.{Leading}
use Rattle.questions.proofs.question.leading_numbers.Given as goal

abbrev pub invariant-loop-z : goal.invariant-loop-z
invariant-loop-z l = Leading (pieces l.line) (vec_items l.numbers) (pieces l.rest)

abbrev pub decreases-loop-z : goal.decreases-loop-z
decreases-loop-z l = length (pieces l.rest)
