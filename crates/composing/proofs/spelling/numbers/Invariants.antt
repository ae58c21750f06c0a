-- The numbers so far are read.
use Rattle.std.proofs.Common.{map}
use Rattle.text.specs.Runs.{pieces}
use Rattle.composing.proofs.Numbers.{ReadSoFar}
use Rattle.composing.proofs.spelling.numbers.Given as goal

abbrev pub invariant-loop-i : goal.invariant-loop-i
invariant-loop-i g l = ReadSoFar g.row.N (map (λ a. a.now) l.labels) (pieces l.line) (pieces l.rest) l.numbers l.i
