-- Which mill curve is made of readings, and when none is.
use Rattle.std.specs.Prelude.{◌≡◌, true, false, List, map, take, Ok, Err, Result}
use Rattle.laws.specs.declared.fault.Fault.{Fault}
use Rattle.laws.specs.declared.mill.Mill.{Mill}
use Rattle.laws.specs.declared.mill.point.Point.{Point}
use Rattle.laws.specs.declared.mill.reading.Reading.{Reading}
use Rattle.laws.specs.Faults.{refusal}
use Rattle.laws.specs.Rules.{reading, in_limits, ruled}

-- the point that was read, in its limits, or refused 2 where no point in them reads so
abbrev pub PointRead : Reading → Result Point Fault → Type 0
PointRead r (Ok p) = (r ≡ reading p) × (in_limits r ≡ true)
PointRead r (Err e) = ((p : Point) → r ≡ reading p → in_limits r ≡ true → ⊥) × (refusal e ≡ 2)

-- the points of a mill curve: the first `count`
abbrev pub points : Mill → List Point
points m = take m.count m.points

-- made of just these readings where they keep the rules, and refused 2 where they break one
abbrev pub MadeMill : List Reading → Result Mill Fault → Type 0
MadeMill rs (Ok m) = (ruled rs ≡ true) × (rs ≡ map reading (points m))
MadeMill rs (Err e) = (ruled rs ≡ false) × (refusal e ≡ 2)
