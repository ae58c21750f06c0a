-- Where no number comes first, or none after it, there are no two.
use Rattle.std.proofs.Common.{[]}
use Rattle.questions.proofs.Asked.{two_after}
use Rattle.questions.proofs.question.two.Goals as goal

pub returns-in_err-n : goal.returns-in_err-n
returns-in_err-n c = rw c.from_residual.ensures (λ n m h. c.in_err-n.ensures n h.0 h.1)

pub returns-in_err-m : goal.returns-in_err-m
returns-in_err-m c =
    rw c.from_residual-in_err-m.ensures (λ n m h. c.in_err-m.ensures m [] (two_after _ _ _ n m c.in_ok-n.ensures h))
