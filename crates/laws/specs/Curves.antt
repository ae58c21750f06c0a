-- Mill curves: the stress of steel along points that a mill has measured.
use Rattle.std.specs.Prelude.{ℕ, ◌-◌, ◌*◌, cond, List, [], ◌∷◌, pos}
use Rattle.exact.specs.Fractions.{Fraction, whole, over, fraction_le, ◌+F◌, ◌*F◌, minus}
use Rattle.laws.specs.declared.mill.point.Point.{Point}

-- the strain ratio of a point
abbrev pub at : Point → Fraction
at p = over (pos p.ratio) (pos 1000)

-- the rise from a to b, in psi for the whole of the crushing strain
abbrev pub slope : Point → Point → Fraction
slope a b = over (pos (1000 * (b.stress - a.stress))) (pos (b.ratio - a.ratio))

-- the straight line from a to b: the stress of a, and the slope times the ratio past a
unfoldable pub line : Point → Point → Fraction → Fraction
line a b q = whole (pos a.stress) +F slope a b *F (q +F minus (at a))

-- from a on: straight from point to point, and flat past the last
abbrev pub beyond : Point → List Point → Fraction → Fraction
beyond a [] q = whole (pos a.stress)
beyond a (b ∷ ps) q = cond (fraction_le q (at b)) (line a b q) (beyond b ps q)

-- the curve in compression
abbrev pub curve : List Point → Fraction → Fraction
curve [] q = whole (pos 0)
curve (p ∷ ps) q = beyond p ps q

-- mill curve: in tension the same with its sign turned
unfoldable pub mill_stress : List Point → Fraction → Fraction
mill_stress ps q = cond (fraction_le (whole (pos 0)) q) (curve ps q) (minus (curve ps (minus q)))

-- the stress of the last point
abbrev pub last : Point → List Point → ℕ
last a [] = a.stress
last a (b ∷ ps) = last b ps

-- of the last of all
abbrev pub last_stress : List Point → ℕ
last_stress [] = 0
last_stress (p ∷ ps) = last p ps
