-- A reading that keeps the rules is that of a point.
use Rattle.std.proofs.Common.{rules, pos}
use Rattle.laws.proofs.Reading.{each_read}
use Rattle.laws.proofs.mill.Mill.new.Goals as goal

pub returns-in_err-points : goal.returns-in_err-points
returns-in_err-points c =
    let r = each_read c.args.readings.now (cc) c.loop-i.i (record { ratio = pos 0; stress = pos 0 }) (search rules) in
    absurd (c.in_err-points.ensures.0 r.0 r.1 r.2)
