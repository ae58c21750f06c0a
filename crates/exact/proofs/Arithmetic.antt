-- Sums and products of fractions, and sign: how they keep the order.
use Rattle.std.proofs.Common.{◌≡◌, ℕ, zero, suc, ◌+◌, ◌-◌, ◌*◌, ◌≤◌, ℤ, pos, negsuc, ◌+ℤ◌, ◌-ℤ◌, ◌*ℤ◌, neg_ℤ, ◌≤ℤ◌, sym, subst, mul-le-mul_right, arith}
use borrow.Author.Differences.{ints, up, down}
use Rattle.exact.specs.declared.bounds.Bounds.{Bounds}
use Rattle.exact.specs.Fractions.{Fraction, whole, over, Crossed≤, Crossed<, ◌≤F◌, ◌<F◌, ◌≈F◌, ◌+F◌, ◌*F◌, minus}
use Rattle.exact.specs.Rounding.{Rounded, turned}
use Rattle.exact.proofs.Represented as R
use Rattle.exact.proofs.Order.{out, out<, ≤_trans, same_≤}

-- a sum rises with both its parts
pub +_mono : {p q r s : Fraction} → p ≤F q → r ≤F s → p +F r ≤F q +F s
unfolding Crossed≤ ◌+F◌
+_mono {p} {q} {r} {s} h g = record {
  cross =
      R.le (R.by (R.add (R.by (R.v p.num) r.den) (R.by (R.v r.num) p.den)) (q.den * s.den)) (R.by (R.add (R.by (R.v q.num) s.den) (R.by (R.v s.num) q.den)) (p.den * r.den))
      (added (up p.num) (down p.num) p.den (up q.num) (down q.num) q.den (up r.num) (down r.num) r.den (up s.num) (down s.num) s.den (out h) (out g));
}
  where
    grown : (x y z w k : ℕ) → x + y ≤ z + w → x * k + y * k ≤ z * k + w * k
    grown x y z w k h = let h1 = mul-le-mul_right k h in omega arith

    added : (a a' b c c' d e e' f g g' h : ℕ) → a * d + c' * b ≤ c * b + a' * d → e * h + g' * f ≤ g * f + e' * h → (a * f + e * b) * (d * h) + (c' * h + g' * d) * (b * f) ≤ (c * h + g * d) * (b * f) + (a' * f + e' * b) * (d * h)
    added a a' b c c' d e e' f g g' h x y =
        let x1 = grown (a * d) (c' * b) (c * b) (a' * d) (f * h) x in
        let y1 = grown (e * h) (g' * f) (g * f) (e' * h) (b * d) y in
        let l1 : (a * f + e * b) * (d * h) ≡ a * d * (f * h) + e * h * (b * d) = omega arith in
        let l2 : (c' * h + g' * d) * (b * f) ≡ c' * b * (f * h) + g' * f * (b * d) = omega arith in
        let r1 : (c * h + g * d) * (b * f) ≡ c * b * (f * h) + g * f * (b * d) = omega arith in
        let r2 : (a' * f + e' * b) * (d * h) ≡ a' * d * (f * h) + e' * h * (b * d) = omega arith in
        omega arith

-- a product by what is not negative rises with its other part
pub *_mono : {k p q : Fraction} → whole (pos 0) ≤F k → p ≤F q → k *F p ≤F k *F q
unfolding Crossed≤ ◌*F◌
*_mono {k} {p} {q} n h =
    let n' : down k.num ≤ up k.num = omega (arith, ints) in
    let h1 = mul-le-mul_right k.den (widened (up k.num) (down k.num) _ _ n' (out h)) in
    record { cross = R.le (R.mul (R.mul (R.v k.num) (R.v p.num)) (R.k (k.den * q.den))) (R.mul (R.mul (R.v k.num) (R.v q.num)) (R.k (k.den * p.den))) (omega arith) }
  where
    apart : (d x a y : ℕ) → (d + x) * a + d * (a + y) ≤ (d + x) * (a + y) + d * a
    apart d x a y = omega arith

    widened : (u d a b : ℕ) → d ≤ u → a ≤ b → u * a + d * b ≤ u * b + d * a
    widened u d a b h g =
        let e : u ≡ d + (u - d) = omega arith in
        let f : b ≡ a + (b - a) = omega arith in
        rw e (rw f (apart d (u - d) a (b - a)))

-- a whole number times n / m
pub times_over : (k n m z : ℤ) → pos 1 ≤ℤ m → z ≡ k *ℤ n → over z m ≈F whole k *F over n m
unfolding ◌*F◌
times_over k n (pos zero) z h e = absurd h.le
times_over k n (negsuc d) z h e = absurd h.le
times_over k n (pos (suc d)) z h e =
    let f : suc d ≡ 1 * suc d = omega arith in
    (same_≤ e f, same_≤ (sym e) (sym f))

*_none : (k : Fraction) → whole (pos 0) ≤F k *F whole (pos 0)
unfolding Crossed≤ ◌*F◌
*_none k = record { cross = R.le (R.by (R.k 0) (k.den * 1)) (R.by (R.mul (R.v k.num) (R.k 0)) 1) (omega arith) }

-- a product of what is not negative is not negative
pub *_from : {k r : Fraction} → whole (pos 0) ≤F k → whole (pos 0) ≤F r → whole (pos 0) ≤F k *F r
*_from h g = ≤_trans (*_none _) (*_mono h g)

-- a sum is at least what something not negative is added to
pub +_from : {p r : Fraction} → whole (pos 0) ≤F r → p ≤F p +F r
unfolding Crossed≤ ◌+F◌
+_from {p} {r} h =
    let o = mul-le-mul_right (p.den * p.den) (out h) in
    record { cross = R.le (R.by (R.v p.num) (p.den * r.den)) (R.by (R.add (R.by (R.v p.num) r.den) (R.by (R.v r.num) p.den)) p.den) (omega arith) }

-- what is past p is past it by something not negative
pub past_from : {p q : Fraction} → p ≤F q → whole (pos 0) ≤F q +F minus p
unfolding Crossed≤ ◌+F◌ minus
past_from {p} {q} h =
    let o = out h in
    record { cross = R.le (R.by (R.k 0) (q.den * p.den)) (R.by (R.add (R.by (R.v q.num) p.den) (R.by (R.neg (R.v p.num)) q.den)) 1) (omega arith) }

-- turning the sign turns the order
pub minus_mono : {p q : Fraction} → p ≤F q → minus q ≤F minus p
unfolding Crossed≤ minus
minus_mono {p} {q} h = let o = out h in record { cross = R.le (R.by (R.neg (R.v q.num)) p.den) (R.by (R.neg (R.v p.num)) q.den) (omega arith) }

minus_mono< : {p q : Fraction} → p <F q → minus q <F minus p
unfolding Crossed< minus
minus_mono< {p} {q} h = let o = out< h in record { cross = R.lt (R.by (R.neg (R.v q.num)) p.den) (R.by (R.neg (R.v p.num)) q.den) (omega arith) }

-- and exchanges floor and ceiling
pub minus_rounded : {q : Fraction} {r : Bounds} → Rounded q r → Rounded (minus q) (turned r)
unfolding minus
minus_rounded {q} {r} w =
    let e : neg_ℤ (r.ceiling -ℤ pos 1) ≡ neg_ℤ r.ceiling +ℤ pos 1 = omega (arith, ints) in
    let f : neg_ℤ (r.floor +ℤ pos 1) ≡ neg_ℤ r.floor -ℤ pos 1 = omega (arith, ints) in
    record {
      floor = record { reached = minus_mono w.ceiling.reached; next = subst (λ (z : ℤ). minus q <F whole z) e (minus_mono< w.ceiling.before) };
      ceiling = record { reached = minus_mono w.floor.reached; before = subst (λ (z : ℤ). whole z <F minus q) f (minus_mono< w.floor.next) };
    }
