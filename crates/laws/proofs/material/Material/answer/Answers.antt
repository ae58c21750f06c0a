-- The ratio that was made is the one that was asked about.
use Rattle.std.proofs.Common.{sym, w64, SFits}
use Rattle.std.proofs.lemmas.Int.{to_z-of_z}
use Rattle.laws.proofs.material.Material.answer.Goals as goal

pub returns : goal.returns
returns g c =
    let n : SFits w64 c.args.n = c.ranges.n in
    let m : SFits w64 c.args.m = c.ranges.m in
    let made = simp to_z-of_z at c.in_ok-ratio.ensures in
    (made.0, rw (sym made.1, sym made.2) c.stress_at.ensures)
