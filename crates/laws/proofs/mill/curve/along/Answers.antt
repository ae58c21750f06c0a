-- The point at which the walk stops is in its limits.
use Rattle.std.proofs.Common.{◌-◌, drop, length, rules, take}
use Rattle.laws.proofs.Walking.{ahead_leads}
use Rattle.laws.proofs.mill.curve.along.Goals as goal

pub between-requires-clause-limits : goal.between-requires-clause-limits
between-requires-clause-limits c =
    let ps = c.args.points.now in
    let l = ahead_leads _ _ ps (take (length ps - 1) (drop 1 ps)) _ _ c.loop-next.invariant _ (search rules) in
    (l.far, l.strong)
