-- What follows from the meaning of a law for its answers, whatever the law.
use Rattle.std.proofs.Common.{zero, suc, ℤ, pos, negsuc, ◌≤ℤ◌, IfOk, Ok, Err, Result, arith}
use borrow.Author.Differences.{ints}
use Rattle.exact.specs.declared.bounds.Bounds.{Bounds}
use Rattle.exact.specs.Fractions.{Fraction, whole, over, Crossed≤, ◌≤F◌, ◌≈F◌}
use Rattle.exact.proofs.Rounding.{floor_from, ceiling_from, ceiling_to, floor_mono, ceiling_mono, rounded_one}
use Rattle.exact.proofs.Order.{<_weak}
use Rattle.laws.specs.declared.fault.Fault.{Fault}
use Rattle.laws.specs.Asking.{Between, Rising, Alike}
use Rattle.laws.specs.Meaning.{Means, Answerable, Answers}
use Rattle.laws.specs.Owed.Stepping.{steps_mono}
use Rattle.laws.proofs.Stepping.{rounded_alike}

-- a ratio that is asked about is at most 1
at_most_one : {n m : ℤ} → Answerable n m → over n m ≤F whole (pos 1)
unfolding Crossed≤
at_most_one {n} {m} w = at m w.from w.high where
  at : (m : ℤ) → pos 1 ≤ℤ m → n ≤ℤ m → over n m ≤F whole (pos 1)
  at (pos zero) h g = absurd h.le
  at (pos (suc d)) h g = record { cross = omega (arith, ints) }
  at (negsuc d) h g = absurd h.le

module _ {f : Fraction → Fraction} {least most : ℤ} (law : Means f least most) (n m : ℤ) where
  pub asked_between : (r : Result Bounds Fault) → Answers f n m r → IfOk r (λ a. Between least most a)
  asked_between (Err e) w = tt
  asked_between (Ok a) (w, r) = record {
    from = floor_from (law.from (at_most_one w)) r.floor;
    ordered = ceiling_from r.floor.reached r.ceiling;
    close = ceiling_to (<_weak r.floor.next) r.ceiling;
    to = ceiling_to (law.to (at_most_one w)) r.ceiling;
  }

  pub asked_rising : (r : Result Bounds Fault) → Answers f n m r → IfOk r (λ a. Rising f n m a)
  asked_rising (Err e) w = tt
  asked_rising (Ok a) (w, r) = λ n' m' b v h.
      let g = steps_mono (law.rises (at_most_one v.0) h) in
      (floor_mono g r.floor v.1.floor, ceiling_mono g r.ceiling v.1.ceiling)

  pub asked_alike : (r : Result Bounds Fault) → Answers f n m r → IfOk r (λ a. Alike f n m a)
  asked_alike (Err e) w = tt
  asked_alike (Ok a) (w, r) = λ n' m' b v h.
      let e : f (over n m) ≈F f (over n' m') = (law.rises (at_most_one v.0) h.0, law.rises (at_most_one w) h.1) in
      (e, rounded_one (rounded_alike e r) v.1)
