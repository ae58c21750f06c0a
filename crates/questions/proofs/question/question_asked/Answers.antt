-- Where the law does not take the numbers, or `at` and two numbers do not follow them, nothing is asked.
use Rattle.std.proofs.Common.{rules}
use Rattle.questions.proofs.Asked.{not_at, not_taken}
use Rattle.questions.proofs.question.question_asked.Goals as goal

pub returns-then-not-takes : goal.returns-then-not-takes
returns-then-not-takes c =
    not_taken _ _ _ _ _ _ c.in-Some.ensures c.in-Some-law_named.ensures c.in_ok-numbers.ensures (search rules)

pub returns-in_default-two_at : goal.returns-in_default-two_at
returns-in_default-two_at c =
    not_at _ _ _ _ _ _ c.in-Some.ensures c.in-Some-law_named.ensures c.in_ok-numbers.ensures c.in_default-two_at.ensures

pub returns-in_default-2 : goal.returns-in_default-2
returns-in_default-2 c =
    not_taken _ _ _ _ _ _ c.in-Some.ensures c.in-Some-law_named.ensures c.in_ok-numbers.ensures (search rules)
