-- The held slope is the yield law's stress.
use Rattle.std.proofs.Common.{arith}
use Rattle.exact.specs.Fractions.{over}
use Rattle.laws.proofs.Slopes.{yield_is}
use Rattle.laws.proofs.yielding.YieldMaterial.stress_at.Goals as goal

pub returns : goal.returns
returns c = yield_is c.args.self.now.strength.psi (over c.args.ratio.n c.args.ratio.m) c.held_slope.ensures (omega arith) (omega arith) (omega arith)
