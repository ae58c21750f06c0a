-- An integer as a difference of two naturals, so that polynomials of integers are left to naturals.
use Rattle.std.proofs.Common.{◌≡◌, ℕ, ◌+◌, ◌*◌, ◌<◌, ◌≤◌, ℤ, pos, ◌+ℤ◌, ◌-ℤ◌, ◌*ℤ◌, neg_ℤ, ◌≤ℤ◌, ◌<ℤ◌, ap, arith}
use borrow.Author.Differences.{up, down, sum_is_lem, neg_is, product_is, same_in, at_most_in, below_in}

pub record Rep (z : ℤ) (p n : ℕ) : Type 0 where
  pub eq : up z + n ≡ down z + p

pub v : (z : ℤ) → Rep z (up z) (down z)
v z = record { eq = omega arith }

pub k : (n : ℕ) → Rep (pos n) n 0
k n = record { eq = refl' n } where
  refl' : (n : ℕ) → n + 0 ≡ 0 + n
  refl' n = omega arith

pub neg : {a : ℤ} {p n : ℕ} → Rep a p n → Rep (neg_ℤ a) n p
neg {a} {p} {n} r = record { eq = omega (arith, neg_is a, r.eq) }

pub add : {a b : ℤ} {p n q m : ℕ} → Rep a p n → Rep b q m → Rep (a +ℤ b) (p + q) (n + m)
add {a} {b} r s = record { eq = omega (arith, sum_is_lem a b, r.eq, s.eq) }

pub sub : {a b : ℤ} {p n q m : ℕ} → Rep a p n → Rep b q m → Rep (a -ℤ b) (p + m) (n + q)
sub {a} {b} r s = add r (neg s)

mul' : (a c p n b d q m : ℕ) → a + n ≡ c + p → b + m ≡ d + q → (a * b + c * d) + (p * m + n * q) ≡ (a * d + c * b) + (p * q + n * m)
mul' a c p n b d q m e f =
    let e1 : (a + n) * b ≡ (c + p) * b = ap (λ x. x * b) e in
    let e2 : (a + n) * d ≡ (c + p) * d = ap (λ x. x * d) e in
    let f1 : p * (b + m) ≡ p * (d + q) = ap (λ x. p * x) f in
    let f2 : n * (b + m) ≡ n * (d + q) = ap (λ x. n * x) f in
    omega arith

pub mul : {a b : ℤ} {p n q m : ℕ} → Rep a p n → Rep b q m → Rep (a *ℤ b) (p * q + n * m) (p * m + n * q)
mul {a} {b} {p} {n} {q} {m} r s = record { eq = let h = mul' (up a) (down a) p n (up b) (down b) q m r.eq s.eq in omega (arith, product_is a b) }

pub same : {a b : ℤ} {p n q m : ℕ} → Rep a p n → Rep b q m → p + m ≡ q + n → a ≡ b
same {a} {b} r s h = same_in a b (omega (arith, r.eq, s.eq))

pub le : {a b : ℤ} {p n q m : ℕ} → Rep a p n → Rep b q m → p + m ≤ q + n → a ≤ℤ b
le {a} {b} r s h = at_most_in a b (omega (arith, r.eq, s.eq))

pub lt : {a b : ℤ} {p n q m : ℕ} → Rep a p n → Rep b q m → p + m < q + n → a <ℤ b
lt {a} {b} r s h = below_in a b (omega (arith, r.eq, s.eq))

pub from_same : {a b : ℤ} {p n q m : ℕ} → Rep a p n → Rep b q m → a ≡ b → p + m ≡ q + n
from_same {a} {b} r s h = omega (arith, r.eq, s.eq, ap up h, ap down h)

-- by a natural
pub by : {a : ℤ} {p n : ℕ} → Rep a p n → (k : ℕ) → Rep (a *ℤ pos k) (p * k) (n * k)
by {a} {p} {n} r k = record { eq = let h : (up a + n) * k ≡ (down a + p) * k = ap (λ x. x * k) r.eq in omega (arith, product_is a (pos k)) }
