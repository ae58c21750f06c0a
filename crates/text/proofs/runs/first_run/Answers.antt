-- The bytes are cut at the first separator, or have none.
use Rattle.std.proofs.Common.{◌+◌, sym}
use Rattle.std.proofs.lemmas.List.{take_rest}
use Rattle.text.proofs.Cuts.{first_run_cut, first_run_whole}
use Rattle.text.proofs.runs.first_run.Goals as goal

pub returns-in-Some : goal.returns-in-Some
returns-in-Some c = first_run_cut _ _ _ _ (sym c.in-Some.ensures) (take_rest c.args.bytes.now (c.in-Some.end + 1))

pub returns-in-None : goal.returns-in-None
returns-in-None c = first_run_whole _ _ (sym c.in-None.ensures)
