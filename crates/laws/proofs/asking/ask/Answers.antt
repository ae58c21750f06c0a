-- A law's answer is between its limits and rises, since the law owes it.
use Rattle.std.proofs.Common.{w64, SFits}
use Rattle.std.proofs.lemmas.Int.{to_z-of_z}
use Rattle.laws.specs.Meaning.{Answers}
use Rattle.laws.proofs.Asked.{asked_between, asked_rising, asked_alike}
use Rattle.laws.proofs.asking.ask.Goals as goal

pub returns : goal.returns
returns g c =
    let law = g.met.M.Material.means c.args.law.now in
    let fn : SFits w64 c.args.n = c.ranges.n in
    let fm : SFits w64 c.args.m = c.ranges.m in
    let w : Answers (g.M.Material.stress c.args.law.now) c.args.n c.args.m c.answer.result = simp to_z-of_z at c.answer.ensures in
    record { answered = w; between = asked_between law c.args.n c.args.m c.answer.result w; rising = asked_rising law c.args.n c.args.m c.answer.result w; alike = asked_alike law c.args.n c.args.m c.answer.result w }
