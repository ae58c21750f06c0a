-- After `at` there are two numbers, or there is no such place.
use Rattle.std.proofs.Common.{◌≡◌, ◌∷◌, codes, ap, ◌∙◌, rules}
use Rattle.std.proofs.lemmas.Slice.Eq.{text_from_reads}
use Rattle.text.specs.Runs.{pieces}
use Rattle.questions.proofs.Asked.{at_two}
use Rattle.questions.proofs.question.two_at.Goals as goal

pub returns-in-at-default : goal.returns-in-at-default
returns-in-at-default c =
    let word : c.in_ok-first_piece.field-0.0.now ≡ codes "at" = search (rules, text_from_reads) in
    at_two _ _ c.two.result (c.in_ok-first_piece.ensures ∙ ap (λ w. w ∷ pieces c.in_ok-first_piece.field-0.1.now) word) c.two.ensures
