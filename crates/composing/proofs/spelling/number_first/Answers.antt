-- After the label comes a number, or the line has none there.
use Rattle.std.proofs.Common.{◌≡◌, ◌∷◌, ◌∙◌, ap, rules}
use Rattle.text.specs.Runs.{pieces}
use Rattle.composing.proofs.Spelt.{after_label}
use Rattle.composing.proofs.spelling.number_first.Goals as goal

pub returns : goal.returns
returns c =
    let e : c.in_ok-first.first.now ≡ c.args.label.now = search rules in
    after_label (λ q. pieces q.now) _ _ _ c.first_number.result (c.in_ok-first.ensures ∙ ap (λ a. a ∷ pieces c.in_ok-first.rest.now) e) c.first_number.ensures
