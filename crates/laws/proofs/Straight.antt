-- The straight line from a point to a later one is a quotient of whole numbers.
use Rattle.std.specs.Prelude.{◌≡◌, ℕ, zero, suc, ◌+◌, ◌-◌, ◌*◌, ◌<◌, ◌≤◌, ℤ, pos, ◌+ℤ◌, ◌*ℤ◌, neg_ℤ, ◌≤ℤ◌}
use Rattle.std.proofs.Math.Nat.{mul-pos}
use Rattle.std.proofs.lemmas.Int.{ints}
use Rattle.std.proofs.Common.{arith, refl, sym, subst, ap}
use Rattle.exact.specs.declared.bounds.Bounds.{Bounds}
use Rattle.exact.specs.Fractions.{whole, over, Crossed≤, ◌≈F◌, ◌+F◌, ◌*F◌, minus}
use Rattle.exact.specs.Rounding.{Rounded}
use Rattle.exact.proofs.Represented as R
use Rattle.exact.proofs.Order.{≈_trans, same_≤}
use Rattle.laws.specs.declared.mill.point.Point.{Point}
use Rattle.laws.specs.Curves.{line}
use Rattle.laws.specs.Meaning.{in_steps}
use Rattle.laws.specs.Owed.Straight as S
use Rattle.laws.specs.Owed.Straight.{Leads}
use Rattle.laws.proofs.Stepping.{rounded_alike}

-- the cross products of the line at n / d with a quotient by g d, p thousandths of 1 / d past r
module _ (s e r g n d p : ℕ) (i : n * 1000 ≡ r * d + p) where
  abbrev quotient : ℤ
  quotient = pos (s * (g * d) + p * e) *ℤ pos (1 * (g * (d * 1000)))

  abbrev straight : ℤ
  straight = (pos s *ℤ pos (g * (d * 1000)) +ℤ (pos (1000 * e) *ℤ (pos n *ℤ pos 1000 +ℤ neg_ℤ (pos r) *ℤ pos d)) *ℤ pos 1) *ℤ pos (g * d)

  crossed : quotient ≡ straight
  crossed =
      let j = ap (λ t. t * (1000 * e * (g * d))) i in
      R.same (R.by (R.k (s * (g * d) + p * e)) (1 * (g * (d * 1000)))) (R.by (R.add (R.by (R.k s) (g * (d * 1000))) (R.by (R.mul (R.k (1000 * e)) (R.add (R.by (R.k n) 1000) (R.by (R.neg (R.k r)) d))) 1)) (g * d)) (omega arith)

line_at : (s e r g n d p : ℕ) → 0 < g → 0 < d → n * 1000 ≡ r * d + p → (real : 0 < g * d) → record { num = pos (s * (g * d) + p * e); den = g * d; positive = real } ≈F whole (pos s) +F over (pos (1000 * e)) (pos g) *F (over (pos n) (pos d) +F minus (over (pos r) (pos 1000)))
unfolding Crossed≤ ◌+F◌ ◌*F◌ minus
line_at s e r zero n d p h k i real = absurd (omega arith)
line_at s e r (suc g) n zero p h k i real = absurd (omega arith)
line_at s e r (suc g) n (suc d) p h k i real = let c = crossed s e r (suc g) n (suc d) p i in (record { cross = same c }, record { cross = same (sym c) }) where
  same : {x y : ℤ} → x ≡ y → x ≤ℤ y
  same e = omega (arith, ints)

module _ (a b : Point) (l : Leads a b) where
  line_over : (n m : ℕ) → 1 ≤ m → a.ratio * m ≤ n * 1000 → over (pos (a.stress * ((b.ratio - a.ratio) * m) + (n * 1000 - a.ratio * m) * (b.stress - a.stress))) (pos ((b.ratio - a.ratio) * m)) ≈F line a b (over (pos n) (pos m))
  unfolding line
  line_over n m h p =
      let i : n * 1000 ≡ a.ratio * m + (n * 1000 - a.ratio * m) = omega arith in
      let gap = S.gap a b l in
      let real = mul-pos gap h in
      ≈_trans (parts _ ((b.ratio - a.ratio) * m) real) (line_at a.stress (b.stress - a.stress) a.ratio (b.ratio - a.ratio) n m (n * 1000 - a.ratio * m) gap h i real)
    where
      parts : (t u : ℕ) (real : 0 < u) → over (pos t) (pos u) ≈F record { num = pos t; den = u; positive = real }
      parts t zero real = absurd (omega arith)
      parts t (suc u) real = (same_≤ refl refl, same_≤ refl refl)

  -- z / d, worked out as one quotient, is rounded as the line is
  pub rounded_line : (n m : ℕ) → 1 ≤ m → a.ratio * m ≤ n * 1000 → {z d : ℤ} {r : Bounds} → Rounded (in_steps (over z d)) r → z ≡ pos (a.stress * ((b.ratio - a.ratio) * m) + (n * 1000 - a.ratio * m) * (b.stress - a.stress)) → d ≡ pos ((b.ratio - a.ratio) * m) → Rounded (in_steps (line a b (over (pos n) (pos m)))) r
  rounded_line n m h p {z} {d} {r} w e f = rounded_alike (line_over n m h p) (subst (λ (x : ℤ). Rounded (in_steps (over x (pos ((b.ratio - a.ratio) * m)))) r) e (subst (λ (x : ℤ). Rounded (in_steps (over z x)) r) f w))
