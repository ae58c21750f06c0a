-- An empty text has no lines.
use Rattle.std.proofs.Common.{rules}
use Rattle.text.proofs.Cuts.{no_runs}
use Rattle.text.proofs.lines.LinesIterator.next.Goals as goal

pub returns-then-is_empty-clause-steps : goal.returns-then-is_empty-clause-steps
returns-then-is_empty-clause-steps c =
    let none = no_runs _ c.args.self.now.rest.now (search rules) in
    (none, none)
