-- What is composed of a listing is the stream that was listed.
use Rattle.std.proofs.Common.{◌^◌, ◌<◌, length, vec_items, rules}
use Rattle.composing.proofs.Returned.{given_back}
use Rattle.composing.proofs.compose.compose.Goals as goal

pub returns-clause-gives_back : goal.returns-clause-gives_back
returns-clause-gives_back c = λ stream readable listed.
    let fits : length c.args.text.now < 2 ^ 64 = search rules in
    given_back vec_items _ stream c.compose_lines.result fits c.compose_lines.ensures readable listed
