-- A line of blanks has no piece; any other begins where its blanks end.
use Rattle.std.proofs.Common.{sym}
use Rattle.std.proofs.lemmas.List.{take_rest}
use Rattle.text.proofs.Cuts.{first_piece, no_piece}
use Rattle.text.proofs.runs.first_piece.Goals as goal

pub returns-in_err-start : goal.returns-in_err-start
returns-in_err-start c = rw c.from_residual.ensures (no_piece c.args.line.now (sym c.in_err-start.ensures))

pub returns : goal.returns
returns c = first_piece c.args.line.now _ _ c.in_ok-start.start (sym c.in_ok-start.ensures) (rw take_rest at c.first_run.ensures)
