-- The ratio is not before the last point, and the stress along the points from there on is that of the whole curve.
use Rattle.std.proofs.Common.{drop}
use Rattle.laws.proofs.Walking.{Ahead}
use Rattle.laws.proofs.mill.curve.along.Given as goal

abbrev pub invariant-loop-next : goal.invariant-loop-next
invariant-loop-next l = Ahead l.points l.ratio.n l.ratio.m l.last (drop l.next-index l.rest)
