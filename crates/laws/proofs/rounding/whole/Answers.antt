-- A whole number of psi in steps is its own floor and ceiling.
use Rattle.std.proofs.Common.{arith}
use borrow.Author.Differences.{ints}
use Rattle.laws.proofs.Stepping.{rounded_steps}
use Rattle.laws.proofs.rounding.whole.Goals as goal

pub returns : goal.returns
returns c = rounded_steps c.args.psi (omega (arith, ints)) (omega (arith, ints))
