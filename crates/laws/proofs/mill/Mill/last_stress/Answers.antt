-- The last point of the curve is at the place before the count.
use Rattle.std.proofs.Common.{rules, sym}
use Rattle.laws.proofs.Lasting.{last_at}
use Rattle.laws.proofs.mill.Mill.last_stress.Goals as goal

pub returns : goal.returns
returns c = sym (last_at _ c.args.self.now.count _ (search rules) (search rules))
