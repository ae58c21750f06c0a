-- The straight line from a point to a later one rises from the one stress to the other.
use Rattle.std.specs.Prelude.{◌≡◌, ℕ, zero, suc, ◌+◌, ◌-◌, ◌*◌, ◌<◌, ◌≤◌, true, pos}
use Rattle.std.proofs.lemmas.Int.{ints}
use Rattle.std.proofs.Common.{arith, subst}
use Rattle.std.proofs.lemmas.Bool.Decides.{nat_tests}
use Rattle.exact.specs.Fractions.{Fraction, whole, over, Crossed≤, ◌≤F◌, ◌+F◌, ◌*F◌, minus}
use Rattle.exact.proofs.Represented as R
use Rattle.exact.proofs.Order.{≤_refl, ≤_trans, over_from}
use Rattle.exact.proofs.Arithmetic.{+_mono, *_mono, *_from, +_from, past_from}
use Rattle.laws.specs.declared.mill.point.Point.{Point}
use Rattle.laws.specs.Curves.{at, line}
use Rattle.laws.specs.Meaning.{farthest, greatest_ratio}
use Rattle.laws.specs.Rules.{reading, rises, in_limits}

-- b comes after a, and is in its limits
pub record Leads (a b : Point) : Type 0 where
  pub ratio : a.ratio < b.ratio
  pub stress : a.stress ≤ b.stress
  pub far : b.ratio ≤ greatest_ratio
  pub strong : b.stress ≤ farthest

pub leads : (a b : Point) → rises (reading a) (reading b) ≡ true → in_limits (reading b) ≡ true → Leads a b
leads a b h g = record { ratio = grind (arith, ints, nat_tests); stress = grind (arith, ints, nat_tests); far = grind (arith, ints, nat_tests); strong = grind (arith, ints, nat_tests) }

-- s psi at the ratio r, and e psi more at the ratio g thousandths past it
line_end : (s e r g : ℕ) → 0 < g → whole (pos s) +F over (pos (1000 * e)) (pos g) *F (over (pos (r + g)) (pos 1000) +F minus (over (pos r) (pos 1000))) ≤F whole (pos (s + e))
unfolding Crossed≤ ◌+F◌ ◌*F◌ minus
line_end s e r zero h = absurd (omega arith)
line_end s e r (suc g) h = record {
  cross =
      R.le (R.by (R.add (R.by (R.k s) (suc g * (1000 * 1000))) (R.by (R.mul (R.k (1000 * e)) (R.add (R.by (R.k (r + suc g)) 1000) (R.by (R.neg (R.k r)) 1000))) 1)) 1) (R.by (R.k (s + e)) (1 * (suc g * (1000 * 1000)))) (omega arith);
}

module _ (a b : Point) (l : Leads a b) where
  pub gap : 0 < b.ratio - a.ratio
  gap = let r = l.ratio in omega arith

  pub line_mono : {p q : Fraction} → p ≤F q → line a b p ≤F line a b q
  unfolding line
  line_mono h = +_mono ≤_refl (*_mono (over_from (1000 * (b.stress - a.stress)) (pos (b.ratio - a.ratio))) (+_mono h ≤_refl))

  pub line_from : {q : Fraction} → at a ≤F q → whole (pos a.stress) ≤F line a b q
  unfolding line
  line_from h = +_from (*_from (over_from (1000 * (b.stress - a.stress)) (pos (b.ratio - a.ratio))) (past_from h))

  pub line_to : {q : Fraction} → q ≤F at b → line a b q ≤F whole (pos b.stress)
  unfolding line
  line_to h = ≤_trans (line_mono h) (subst (λ (x : ℕ). line a b (at b) ≤F whole (pos x)) up (subst (λ (x : ℕ). line a b (over (pos x) (pos 1000)) ≤F whole (pos (a.stress + (b.stress - a.stress)))) along (line_end a.stress (b.stress - a.stress) a.ratio (b.ratio - a.ratio) gap))) where
    along : a.ratio + (b.ratio - a.ratio) ≡ b.ratio
    along = let r = l.ratio in omega arith

    up : a.stress + (b.stress - a.stress) ≡ b.stress
    up = let r = l.stress in omega arith
