-- When a stress in psi is a law: it rises and stays between whole limits. A step is such.
use Rattle.std.specs.Prelude.{◌≡◌, ℕ, ◌*◌, ◌≤◌, cond, ℤ, pos, neg_ℤ}
use Rattle.std.proofs.Common.{arith, mul-le-mul_right, subst}
use Rattle.std.proofs.lemmas.Int.{ints}
use Rattle.exact.specs.Fractions.{Fraction, whole, fraction_le, ◌≤F◌}
use Rattle.exact.proofs.Order.{≤_refl, ≤_trans, by_fraction_le, clash, whole_≤}
use Rattle.laws.specs.Meaning.{steps, farthest, Means}
use Rattle.laws.specs.Owed.Stepping.{steps_mono, steps_whole, steps_turned}

-- a stress from -t to k psi
pub law_means : {f : Fraction → Fraction} (t k : ℕ) → ((p q : Fraction) → q ≤F whole (pos 1) → p ≤F q → f p ≤F f q) → ((p : Fraction) → p ≤F whole (pos 1) → whole (neg_ℤ (pos t)) ≤F f p) → ((p : Fraction) → p ≤F whole (pos 1) → f p ≤F whole (pos k)) → t ≤ farthest → k ≤ farthest → Means f (neg_ℤ (pos (steps * t))) (pos (steps * k))
law_means {f} t k up from to st sk = record {
  rises = λ {p} {q} one h. up p q one h;
  from = λ {p} one. ≤_trans (≤_trans (whole_≤ (let e = steps_turned t in omega (arith, ints))) (steps_whole (neg_ℤ (pos t))).0) (steps_mono (from p one));
  to = λ {p} one. ≤_trans (steps_mono (to p one)) (steps_whole (pos k)).1;
  least_from = let h = mul-le-mul_right steps st in omega (arith, ints);
  least_to = omega (arith, ints);
  most_from = omega (arith, ints);
  most_to = let h = mul-le-mul_right steps sk in omega (arith, ints);
}

-- a stress from 0 to k psi
pub compression_means : {f : Fraction → Fraction} (k : ℕ) → ((p q : Fraction) → q ≤F whole (pos 1) → p ≤F q → f p ≤F f q) → ((p : Fraction) → p ≤F whole (pos 1) → whole (pos 0) ≤F f p) → ((p : Fraction) → p ≤F whole (pos 1) → f p ≤F whole (pos k)) → k ≤ farthest → Means f (pos 0) (pos (steps * k))
compression_means {f} k up from to sk =
    let n : neg_ℤ (pos (steps * 0)) ≡ pos 0 = omega (arith, ints) in
    subst (λ (z : ℤ). Means f z (pos (steps * k))) n (law_means 0 k up from to (omega arith) sk)

-- a step up to k rises
pub step_rises : (a : Fraction) {k : Fraction} → whole (pos 0) ≤F k → {p q : Fraction} → p ≤F q → cond (fraction_le a p) k (whole (pos 0)) ≤F cond (fraction_le a q) k (whole (pos 0))
step_rises a {k} n {p} {q} h =
    by_fraction_le (λ (v : Fraction). v ≤F cond (fraction_le a q) k (whole (pos 0))) a p
    (λ x. by_fraction_le (λ (v : Fraction). k ≤F v) a q (λ y. ≤_refl) (λ y. absurd (clash (≤_trans x h) y)))
    (λ x. by_fraction_le (λ (v : Fraction). whole (pos 0) ≤F v) a q (λ y. n) (λ y. ≤_refl))

-- and lies from 0 to k
pub step_from : (a : Fraction) {k : Fraction} → whole (pos 0) ≤F k → (p : Fraction) → whole (pos 0) ≤F cond (fraction_le a p) k (whole (pos 0))
step_from a n p = by_fraction_le (λ (v : Fraction). whole (pos 0) ≤F v) a p (λ x. n) (λ x. ≤_refl)

pub step_to : (a : Fraction) {k : Fraction} → whole (pos 0) ≤F k → (p : Fraction) → cond (fraction_le a p) k (whole (pos 0)) ≤F k
step_to a {k} n p = by_fraction_le (λ (v : Fraction). v ≤F k) a p (λ x. ≤_refl) (λ x. n)
