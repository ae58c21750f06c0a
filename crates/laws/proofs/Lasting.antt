-- The last of the first points of a curve is at the place before their count.
use native.Mathlib.Numerals.{unary_clauses}
use Rattle.std.proofs.Common.{◌≡◌, ℕ, zero, suc, ◌-◌, ◌<◌, ◌≤◌, List, [], ◌∷◌, take, length, get_or, refl, arith}
use Rattle.laws.specs.declared.mill.point.Point.{Point}
use Rattle.laws.specs.Curves.{last, last_stress}

-- after p, the first k
last_along : (p : Point) (ps : List Point) (k : ℕ) (d : Point) → k ≤ length ps → last p (take k ps) ≡ (get_or (p ∷ ps) k d).stress
last_along p ps zero d h = refl
last_along p [] (suc k) d h = absurd (omega arith)
last_along p (q ∷ ps) (suc k) d h = last_along q ps k d (omega arith)

pub last_at : (ps : List Point) (n : ℕ) (d : Point) → 0 < n → n ≤ length ps → last_stress (take n ps) ≡ (get_or ps (n - 1) d).stress
last_at ps zero d h l = absurd (omega arith)
last_at [] (suc k) d h l = absurd (omega arith)
last_at (p ∷ ps) (suc k) d h l = simp unary_clauses (last_along p ps k d (omega arith))
