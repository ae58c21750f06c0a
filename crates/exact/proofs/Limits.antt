-- The smaller and the greater of two fractions, and a fraction held between limits.
use Rattle.exact.specs.Fractions.{Fraction, ◌≤F◌, ◌≈F◌, fraction_min, fraction_max, held}
use Rattle.exact.proofs.Order.{≤_refl, ≤_trans, <_weak, by_fraction_le}

fraction_min_left : (p q : Fraction) → fraction_min p q ≤F p
fraction_min_left p q = by_fraction_le (λ (v : Fraction). v ≤F p) p q (λ x. ≤_refl) <_weak

fraction_min_right : (p q : Fraction) → fraction_min p q ≤F q
fraction_min_right p q = by_fraction_le (λ (v : Fraction). v ≤F q) p q (λ x. x) (λ x. ≤_refl)

fraction_min_over : {l : Fraction} (p q : Fraction) → l ≤F p → l ≤F q → l ≤F fraction_min p q
fraction_min_over {l} p q h g = by_fraction_le (λ (v : Fraction). l ≤F v) p q (λ x. h) (λ x. g)

fraction_max_left : (p q : Fraction) → p ≤F fraction_max p q
fraction_max_left p q = by_fraction_le (λ (v : Fraction). p ≤F v) p q (λ x. x) (λ x. ≤_refl)

fraction_max_right : (p q : Fraction) → q ≤F fraction_max p q
fraction_max_right p q = by_fraction_le (λ (v : Fraction). q ≤F v) p q (λ x. ≤_refl) <_weak

fraction_max_under : {u : Fraction} (p q : Fraction) → p ≤F u → q ≤F u → fraction_max p q ≤F u
fraction_max_under {u} p q h g = by_fraction_le (λ (v : Fraction). v ≤F u) p q (λ x. g) (λ x. h)

-- what is held rises with what is held, and lies between the limits
pub held_mono : (l h : Fraction) {p q : Fraction} → p ≤F q → held l h p ≤F held l h q
held_mono l h {p} {q} g = fraction_min_over h (fraction_max l q) (fraction_min_left h (fraction_max l p)) (≤_trans (fraction_min_right h (fraction_max l p)) (fraction_max_under l p (fraction_max_left l q) (≤_trans g (fraction_max_right l q))))

pub held_most : (l h q : Fraction) → held l h q ≤F h
held_most l h q = fraction_min_left h (fraction_max l q)

pub held_least : (l h q : Fraction) → l ≤F h → l ≤F held l h q
held_least l h q g = fraction_min_over h (fraction_max l q) g (fraction_max_left l q)

-- below the limits, between them, above them
pub held_low : {l h q : Fraction} → l ≤F h → q ≤F l → held l h q ≈F l
held_low {l} {h} {q} g x = (≤_trans (fraction_min_right h (fraction_max l q)) (fraction_max_under l q ≤_refl x), held_least l h q g)

pub held_between : {l h q : Fraction} → l ≤F q → q ≤F h → held l h q ≈F q
held_between {l} {h} {q} x y = (≤_trans (fraction_min_right h (fraction_max l q)) (fraction_max_under l q x ≤_refl), fraction_min_over h (fraction_max l q) y (fraction_max_right l q))

pub held_high : (l : Fraction) {h q : Fraction} → h ≤F q → held l h q ≈F h
held_high l {h} {q} x = (held_most l h q, fraction_min_over h (fraction_max l q) ≤_refl (≤_trans x (fraction_max_right l q)))
