-- The worked figures, computed.
use Rattle.std.proofs.Common.{pos, negsuc, refl}
use Rattle.exact.specs.Fractions.{◌+F◌, ◌*F◌, minus}
use Rattle.laws.specs.Curves.{line, mill_stress}
use Rattle.laws.specs.Meaning.{steps}
use Rattle.laws.specs.Stresses.{block_stress, trapezoid_stress, yield_stress}
use Rattle.figures.specs.Figures.{Worked, bounds, measured}
use Rattle.figures.proofs.Figured.{answered}

pub worked : Worked
unfolding ◌+F◌ ◌*F◌ minus steps line mill_stress block_stress trapezoid_stress yield_stress
worked = record {
  beta_4000 = refl;
  beta_4100 = refl;
  beta_8000 = refl;
  beta_10000 = refl;
  block_at_edge = λ r h. answered (block_stress 4000) (pos 3) (pos 20) (bounds (pos 3400) (pos 3400)) r h (tt, tt, tt, tt) (tt, tt, tt, tt);
  block_below_edge = λ r h. answered (block_stress 4000) (pos 29) (pos 200) (bounds (pos 0) (pos 0)) r h (tt, tt, tt, tt) (tt, tt, tt, tt);
  trapezoid_seventh = λ r h. answered (trapezoid_stress 4000) (pos 1) (pos 7) (bounds (pos 971) (pos 972)) r h (tt, tt, tt, tt) (tt, tt, tt, tt);
  trapezoid_half = λ r h. answered (trapezoid_stress 4000) (pos 1) (pos 2) (bounds (pos 3400) (pos 3400)) r h (tt, tt, tt, tt) (tt, tt, tt, tt);
  yield_seventh = λ r h. answered (yield_stress 60000) (pos 1) (pos 7) (bounds (pos 12428) (pos 12429)) r h (tt, tt, tt, tt) (tt, tt, tt, tt);
  yield_in_tension = λ r h. answered (yield_stress 60000) (negsuc 0) (pos 7) (bounds (negsuc 12428) (negsuc 12427)) r h (tt, tt, tt, tt) (tt, tt, tt, tt);
  mill_one = λ r h. answered (mill_stress measured) (pos 1) (pos 1) (bounds (pos 61438) (pos 61439)) r h (tt, tt, tt, tt) (tt, tt, tt, tt);
}
