-- The walk by magnitudes, with the sign of the ratio.
use Rattle.std.proofs.Common.{arith}
use borrow.Author.Differences.{ints}
use Rattle.laws.proofs.Milled.{curve_small, mill_compressed, mill_tensed}
use Rattle.laws.proofs.mill.MillMaterial.stress_at.Goals as goal

pub turned-requires : goal.turned-requires
turned-requires c =
    let small = curve_small _ c.from.result.n c.from.result.m (rw c.measured.ensures c.args.self.now.lawful) c.along-bounds.ensures in
    record { floor_turns = small.0; ceiling_turns = small.1 }

pub returns-then-ratio-lt0 : goal.returns-then-ratio-lt0
returns-then-ratio-lt0 c =
    let q = c.args.ratio in
    rw c.turned.ensures (mill_tensed _ q.n q.m q.from (grind (arith, ints)) c.measured.ensures c.from.ensures.0 c.from.ensures.1 c.along-bounds.ensures)

pub returns-else-ratio-lt0 : goal.returns-else-ratio-lt0
returns-else-ratio-lt0 c =
    let q = c.args.ratio in
    mill_compressed _ q.n q.m q.from (grind (arith, ints)) c.measured.ensures c.from.ensures.0 c.from.ensures.1 c.along-bounds.ensures
