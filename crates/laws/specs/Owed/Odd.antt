-- A stress that is the same in tension with its sign turned is a law where it rises from 0 to a whole limit in compression.
use Rattle.std.specs.Prelude.{ℕ, ◌*◌, ◌≤◌, cond, pos, neg_ℤ}
use Rattle.std.proofs.Common.{arith}
use Rattle.std.proofs.lemmas.Int.{ints}
use Rattle.exact.specs.Fractions.{Fraction, whole, fraction_le, Crossed≤, ◌≤F◌, ◌<F◌, minus}
use Rattle.exact.proofs.Order.{≤_trans, <_weak, clash, whole_≤, by_fraction_le}
use Rattle.exact.proofs.Arithmetic.{minus_mono}
use Rattle.laws.specs.Meaning.{steps, farthest, Means}
use Rattle.laws.specs.Owed.Lawful.{law_means}

abbrev none : Fraction
none = whole (pos 0)

-- 0 with its sign turned
unturned : minus none ≤F none
unfolding Crossed≤ minus
unturned = record { cross = omega (arith, ints) }

turned : none ≤F minus none
unfolding Crossed≤ minus
turned = record { cross = omega (arith, ints) }

compressed : {p : Fraction} → p <F none → none ≤F minus p
compressed h = ≤_trans turned (minus_mono (<_weak h))

module _ (f : Fraction → Fraction) (k : ℕ) (up : (p q : Fraction) → p ≤F q → f p ≤F f q) (from : (p : Fraction) → none ≤F p → none ≤F f p) (to : (p : Fraction) → f p ≤F whole (pos k)) where
  abbrev odd : Fraction → Fraction
  odd q = cond (fraction_le none q) (f q) (minus (f (minus q)))

  below : {p : Fraction} → p <F none → minus (f (minus p)) ≤F none
  below {p} h = ≤_trans (minus_mono (from (minus p) (compressed h))) unturned

  rises : (p q : Fraction) → p ≤F q → odd p ≤F odd q
  rises p q h =
      by_fraction_le (λ (v : Fraction). v ≤F odd q) none p
      (λ x. by_fraction_le (λ (v : Fraction). f p ≤F v) none q (λ y. up p q h) (λ y. absurd (clash (≤_trans x h) y)))
      (λ x. by_fraction_le (λ (v : Fraction). minus (f (minus p)) ≤F v) none q (λ y. ≤_trans (below x) (from q y)) (λ y. minus_mono (up (minus q) (minus p) (minus_mono h))))

  least : (p : Fraction) → whole (neg_ℤ (pos k)) ≤F odd p
  unfolding minus
  least p = by_fraction_le (λ (v : Fraction). whole (neg_ℤ (pos k)) ≤F v) none p
      (λ x. ≤_trans (whole_≤ (omega (arith, ints))) (from p x))
      (λ x. minus_mono (to (minus p)))

  most : (p : Fraction) → odd p ≤F whole (pos k)
  most p = by_fraction_le (λ (v : Fraction). v ≤F whole (pos k)) none p
      (λ x. to p)
      (λ x. ≤_trans (below x) (whole_≤ (omega (arith, ints))))

  pub odd_means : k ≤ farthest → Means odd (neg_ℤ (pos (steps * k))) (pos (steps * k))
  odd_means s = law_means k k (λ p q one h. rises p q h) (λ p one. least p) (λ p one. most p) s s
