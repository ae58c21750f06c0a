-- The shape over the whole peak is the block's stress.
use Rattle.exact.specs.Fractions.{over}
use Rattle.laws.proofs.Peaks.{block_is}
use Rattle.laws.proofs.block.RectangleProfile.stress_at.Goals as goal

pub returns : goal.returns
returns c =
    let s = c.args.strength in
    block_is s.psi s.graded (over c.args.ratio.n c.args.ratio.m) c.step.ensures c.block_edge.ensures c.peak.ensures
