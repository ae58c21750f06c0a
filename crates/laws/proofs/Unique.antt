-- Readings are those of one curve at most.
use Rattle.std.proofs.Common.{◌≡◌, ℕ, List, [], ◌∷◌, map, pos, refl, ap}
use Rattle.laws.specs.declared.mill.point.Point.{Point}
use Rattle.laws.specs.Rules.{reading}

one_point : (p q : Point) → reading p ≡ reading q → p ≡ q
one_point p q e = same p.ratio p.stress q.ratio q.stress (ap (λ r. r.ratio) e) (ap (λ r. r.stress) e)
  where
    same : (a b c d : ℕ) → pos a ≡ pos c → pos b ≡ pos d → ◌≡◌ {A = Point} (record { ratio = a; stress = b }) (record { ratio = c; stress = d })
    same a b c d i j = cc

pub one_curve : (ps qs : List Point) → map reading ps ≡ map reading qs → ps ≡ qs
one_curve [] [] e = refl
one_curve [] (q ∷ qs) e = cc
one_curve (p ∷ ps) [] e = cc
one_curve (p ∷ ps) (q ∷ qs) e =
    let first : reading p ≡ reading q = cc in
    let more : map reading ps ≡ map reading qs = cc in
    let point = one_point p q first in
    let points = one_curve ps qs more in
    cc
