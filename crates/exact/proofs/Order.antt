-- The order of fractions: reflexive, transitive, total; whole numbers keep theirs; a test of it, by cases.
use Rattle.std.proofs.Common.{◌≡◌, ℕ, zero, suc, ◌+◌, ◌*◌, ◌<◌, ◌≤◌, Bool, true, false, cond, ◌⊎◌, ℤ, pos, negsuc, ◌*ℤ◌, ◌≤ℤ◌, ◌<ℤ◌, refl, inl, inr, mul-le-mul_right, lt_of_mul-lt-mul_right, mul-lt-mul_of_pos_right, le_of_mul-le-mul_right, arith}
use borrow.Author.Differences.{ints, up, down}
use Rattle.exact.specs.Fractions.{Fraction, whole, over, Crossed≤, Crossed<, ◌≤F◌, ◌<F◌, ◌≈F◌, fraction_le}

-- an order of fractions as one of naturals, and back
pub out : {p q : Fraction} → p ≤F q → up p.num * q.den + down q.num * p.den ≤ up q.num * p.den + down p.num * q.den
unfolding Crossed≤
out h = omega (arith, ints)

pub out< : {p q : Fraction} → p <F q → up p.num * q.den + down q.num * p.den < up q.num * p.den + down p.num * q.den
unfolding Crossed<
out< h = omega (arith, ints)

into : {p q : Fraction} → up p.num * q.den + down q.num * p.den ≤ up q.num * p.den + down p.num * q.den → p ≤F q
unfolding Crossed≤
into h = record { cross = omega (arith, ints) }

into< : {p q : Fraction} → up p.num * q.den + down q.num * p.den < up q.num * p.den + down p.num * q.den → p <F q
unfolding Crossed<
into< h = record { cross = omega (arith, ints) }

pub ≤_refl : {p : Fraction} → p ≤F p
unfolding Crossed≤
≤_refl {p} = record { cross = omega (arith, ints) }

pub ≤_trans : {p q r : Fraction} → p ≤F q → q ≤F r → p ≤F r
≤_trans {p} {q} {r} h g =
    let h1 = mul-le-mul_right r.den (out h) in
    let g1 = mul-le-mul_right p.den (out g) in
    into (le_of_mul-le-mul_right {k = q.den} (omega arith) q.positive)

pub ≈_trans : {p q r : Fraction} → p ≈F q → q ≈F r → p ≈F r
≈_trans h g = (≤_trans h.0 g.0, ≤_trans g.1 h.1)

pub ≤<_trans : {p q r : Fraction} → p ≤F q → q <F r → p <F r
≤<_trans {p} {q} {r} h g =
    let h1 = mul-le-mul_right r.den (out h) in
    let g1 = mul-lt-mul_of_pos_right (out< g) p.positive in
    into< (lt_of_mul-lt-mul_right q.den (omega arith))

pub <≤_trans : {p q r : Fraction} → p <F q → q ≤F r → p <F r
<≤_trans {p} {q} {r} h g =
    let h1 = mul-lt-mul_of_pos_right (out< h) r.positive in
    let g1 = mul-le-mul_right p.den (out g) in
    into< (lt_of_mul-lt-mul_right q.den (omega arith))

pub <_weak : {p q : Fraction} → p <F q → p ≤F q
unfolding Crossed≤ Crossed<
<_weak h = record { cross = omega (arith, ints) }

pub clash : {p q : Fraction} → p ≤F q → q <F p → ⊥
unfolding Crossed≤ Crossed<
clash h g = omega (arith, ints)

-- whole numbers
pub whole_≤ : {a b : ℤ} → a ≤ℤ b → whole a ≤F whole b
unfolding Crossed≤
whole_≤ h = record { cross = omega (arith, ints) }

pub of_whole_≤ : {a b : ℤ} → whole a ≤F whole b → a ≤ℤ b
unfolding Crossed≤
of_whole_≤ h = omega (arith, ints)

pub of_whole_< : {a b : ℤ} → whole a <F whole b → a <ℤ b
unfolding Crossed<
of_whole_< h = omega (arith, ints)

-- the same parts are the same number
pub same_≤ : {p q : Fraction} → p.num ≡ q.num → p.den ≡ q.den → p ≤F q
unfolding Crossed≤
same_≤ {p} {q} e f = record { cross = rw (e, f) (self (q.num *ℤ pos q.den)) } where
  self : (z : ℤ) → z ≤ℤ z
  self z = omega (arith, ints)

-- a quotient of what is not negative is not negative
pub over_from : (n : ℕ) (m : ℤ) → whole (pos 0) ≤F over (pos n) m
unfolding Crossed≤
over_from n (pos zero) = record { cross = omega (arith, ints) }
over_from n (pos (suc d)) = record { cross = omega (arith, ints) }
over_from n (negsuc d) = record { cross = omega (arith, ints) }

-- a test, by cases
fraction_le_case : (p q : Fraction) → ((fraction_le p q ≡ true) × (p ≤F q)) ⊎ ((fraction_le p q ≡ false) × (q <F p))
unfolding Crossed≤ Crossed<
fraction_le_case p q = at (fraction_le p q) refl where
  at : (b : Bool) → fraction_le p q ≡ b → ((fraction_le p q ≡ true) × (p ≤F q)) ⊎ ((fraction_le p q ≡ false) × (q <F p))
  at true e = inl (e, record { cross = omega (arith, ints) })
  at false e = inr (e, record { cross = omega (arith, ints) })

pub by_fraction_le : (P : Fraction → Type 0) (p q : Fraction) {x y : Fraction} → (p ≤F q → P x) → (q <F p → P y) → P (cond (fraction_le p q) x y)
by_fraction_le P p q {x} {y} f g = at (fraction_le_case p q) where
  at : (((fraction_le p q ≡ true) × (p ≤F q)) ⊎ ((fraction_le p q ≡ false) × (q <F p))) → P (cond (fraction_le p q) x y)
  at (inl c) = rw c.0 (f c.1)
  at (inr c) = rw c.0 (g c.1)

-- two values of which one stands up to a, the other past it
pub rising_past : {a p q : Fraction} (f g : Fraction → Fraction) → p ≤F q → (q ≤F a → f p ≤F f q) → (a <F p → g p ≤F g q) → (p ≤F a → a <F q → f p ≤F g q) → cond (fraction_le p a) (f p) (g p) ≤F cond (fraction_le q a) (f q) (g q)
rising_past {a} {p} {q} f g h up more across =
    by_fraction_le (λ (v : Fraction). v ≤F cond (fraction_le q a) (f q) (g q)) p a
    (λ x. by_fraction_le (λ (v : Fraction). f p ≤F v) q a up (across x))
    (λ x. by_fraction_le (λ (v : Fraction). g p ≤F v) q a (λ y. absurd (clash y (<≤_trans x h))) (λ y. more x))
