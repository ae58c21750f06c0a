-- The mill curve is a law.
use Rattle.std.specs.Prelude.{◌≡◌, ◌*◌, true, List, map, pos, neg_ℤ}
use Rattle.laws.specs.declared.mill.point.Point.{Point}
use Rattle.laws.specs.Curves.{curve, mill_stress, last_stress}
use Rattle.laws.specs.Meaning.{steps, Means}
use Rattle.laws.specs.Rules.{reading, ruled}
use Rattle.laws.specs.Owed.Bent.{curve_mono, curve_from, curve_to, last_small}
use Rattle.laws.specs.Owed.Odd.{odd_means}

pub mill_means : (ps : List Point) → ruled (map reading ps) ≡ true → Means (mill_stress ps) (neg_ℤ (pos (steps * last_stress ps))) (pos (steps * last_stress ps))
unfolding mill_stress
mill_means ps h = odd_means (curve ps) (last_stress ps) (curve_mono ps h) (curve_from ps h) (curve_to ps h) (last_small ps h)
