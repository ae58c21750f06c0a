-- Figures are text, and are read as the number that they write.
use Rattle.std.proofs.Common.{rules}
use Rattle.text.proofs.Readings.{figures_utf8, kept, not_kept, number_read}
use Rattle.text.proofs.figures.number.Goals as goal

pub returns-in_err-ok : goal.returns-in_err-ok
returns-in_err-ok c =
    rw c.from_residual.ensures (λ z f. not_kept _ _ _ _ c.from_utf8.ensures.cases c.in_err-ok.ensures.value (figures_utf8 _ z f))

pub returns : goal.returns
returns c =
    let text = kept _ _ c.in_ok-ok.field-0 _ c.from_utf8.ensures.cases c.in_ok-ok.ensures.value in
    number_read _ _ c.parse.result _ text.0 c.parse.ensures.value.0 (search rules)
