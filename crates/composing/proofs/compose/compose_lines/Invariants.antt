-- The words that the lines so far ask for are written.
use Rattle.std.proofs.Common.{length, vec_items}
use Rattle.text.specs.Runs.{lines_of}
use Rattle.composing.proofs.Progress.{SoFar}
use Rattle.composing.proofs.compose.compose_lines.Given as goal

abbrev pub invariant-loop-i : goal.invariant-loop-i
invariant-loop-i l = SoFar (lines_of l.fn.text) (length l.yielded) (vec_items l.bytes)
