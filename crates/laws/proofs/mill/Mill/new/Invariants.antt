-- The points so far are those that were read.
use Rattle.std.proofs.Common.{◌≡◌, map, take, length}
use Rattle.laws.specs.Rules.{reading}
use Rattle.laws.proofs.mill.Mill.new.Given as goal

abbrev pub invariant-loop-i : goal.invariant-loop-i
invariant-loop-i l = record { room : length l.points ≡ 8; read : map reading (take l.i l.points) ≡ take l.i l.readings }
