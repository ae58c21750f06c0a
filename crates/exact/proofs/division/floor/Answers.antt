-- The quotient that leaves no negative rest is the floor.
use Rattle.std.proofs.Common.{rules}
use Rattle.exact.proofs.Rounding.{floor_divided}
use Rattle.exact.proofs.division.floor.Goals as goal

pub returns : goal.returns
returns c = search (rules, floor_divided)
