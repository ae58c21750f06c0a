-- The shape over the whole peak is the trapezoid's stress.
use Rattle.std.proofs.Common.{arith}
use Rattle.exact.specs.Fractions.{over}
use Rattle.laws.proofs.Peaks.{trapezoid_is}
use Rattle.laws.proofs.trapezoid.RampProfile.stress_at.Goals as goal

pub returns : goal.returns
returns c =
    let s = c.args.strength in
    trapezoid_is s.psi s.graded (over c.args.ratio.n c.args.ratio.m) c.held_slope.ensures (omega arith) c.peak-peak.ensures
