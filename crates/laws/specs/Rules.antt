-- Which readings are the points of a mill curve.
use Rattle.std.specs.Prelude.{Bool, false, ◌&&◌, List, [], ◌∷◌, length, pos, int_le, int_lt, nat_le}
use Rattle.std.specs.Ordering.{int_eq}
use Rattle.laws.specs.declared.mill.point.Point.{Point}
use Rattle.laws.specs.declared.mill.reading.Reading.{Reading}
use Rattle.laws.specs.Meaning.{farthest, greatest_ratio}

-- what a point was read as
abbrev pub reading : Point → Reading
reading p = record { ratio = pos p.ratio; stress = pos p.stress }

-- ratio 0 and stress 0
abbrev pub is_origin : Reading → Bool
is_origin a = int_eq a.ratio (pos 0) && int_eq a.stress (pos 0)

-- the ratio rises from a to b, and the stress does not fall
abbrev pub rises : Reading → Reading → Bool
rises a b = int_lt a.ratio b.ratio && int_le a.stress b.stress

-- neither the ratio nor the stress goes past its limit
abbrev pub in_limits : Reading → Bool
in_limits a = int_le a.ratio (pos greatest_ratio) && int_le a.stress (pos farthest)

-- from a on each rises to the next, and the last is in its limits; so are then all, as they rise
abbrev pub climbs : Reading → List Reading → Bool
climbs a [] = in_limits a
climbs a (b ∷ rs) = rises a b && climbs b rs

-- from the origin on; so none is negative
abbrev pub starts : List Reading → Bool
starts [] = false
starts (a ∷ rs) = is_origin a && climbs a rs

-- two to eight of them
abbrev pub ruled : List Reading → Bool
ruled rs = (nat_le 2 (length rs) && nat_le (length rs) 8) && starts rs
