-- After a name, the numbers of its kind spell an entry, and without them nothing does.
use Rattle.std.proofs.Common.{◌≡◌, ◌∷◌, rules}
use Rattle.text.specs.Runs.{pieces}
use Rattle.words.specs.Kinds.{name_of}
use Rattle.composing.proofs.Spelt.{spelt_by}
use Rattle.composing.proofs.line.entry_spelt.Goals as goal

pub returns : goal.returns
returns c =
    let p : pieces c.args.line.now ≡ name_of c.in_ok-kind.kind ∷ pieces c.in_ok-name.rest.now = search rules in
    spelt_by _ _ _ c.entry_of_kind.result _ p c.entry_of_kind.ensures c.ok_or-3.ensures.value
