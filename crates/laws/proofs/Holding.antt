-- A stress held between whole limits is rounded by holding what it is rounded to.
use Rattle.std.proofs.Common.{◌≡◌, ℤ, pos, ◌*ℤ◌, ◌≤ℤ◌, sym, subst, arith}
use borrow.Author.Differences.{ints}
use Rattle.std.specs.Int.{int_max, int_min}
use Rattle.std.proofs.lemmas.Int.{clamps}
use Rattle.exact.specs.declared.bounds.Bounds.{Bounds}
use Rattle.exact.specs.Fractions.{Fraction, whole, ◌≤F◌, fraction_min, fraction_max, held}
use Rattle.exact.specs.Rounding.{IsFloor, IsCeiling, Rounded}
use Rattle.exact.proofs.Order.{≤_trans, <_weak, by_fraction_le}
use Rattle.exact.proofs.Rounding.{floor_from, floor_to, ceiling_from, ceiling_to}
use Rattle.laws.specs.Meaning.{steps, in_steps}
use Rattle.laws.specs.Owed.Stepping.{steps_mono, steps_whole}
use Rattle.laws.proofs.Stepping.{rounded_psi}

int_max_is : (a b : ℤ) → (b ≤ℤ a → int_max a b ≡ a) × (a ≤ℤ b → int_max a b ≡ b)
int_max_is a b = (λ h. omega (arith, ints, clamps), λ h. omega (arith, ints, clamps))

int_min_is : (a b : ℤ) → (b ≤ℤ a → int_min a b ≡ b) × (a ≤ℤ b → int_min a b ≡ a)
int_min_is a b = (λ h. omega (arith, ints, clamps), λ h. omega (arith, ints, clamps))

module _ (q : Fraction) (l : ℤ) (r : Bounds) (w : Rounded (in_steps q) r) where
  abbrev limit : ℤ
  limit = pos steps *ℤ l

  above : whole l ≤F q → whole limit ≤F in_steps q
  above x = ≤_trans (steps_whole l).0 (steps_mono x)

  below : q ≤F whole l → in_steps q ≤F whole limit
  below x = ≤_trans (steps_mono x) (steps_whole l).1

  -- both numbers as they are, or both at the limit
  kept : {x y : ℤ} → x ≡ r.floor → y ≡ r.ceiling → Rounded (in_steps q) (record { floor = x; ceiling = y })
  kept e f = record { floor = subst (IsFloor (in_steps q)) (sym e) w.floor; ceiling = subst (IsCeiling (in_steps q)) (sym f) w.ceiling }

  stopped : {x y : ℤ} → x ≡ limit → y ≡ limit → Rounded (in_steps (whole l)) (record { floor = x; ceiling = y })
  stopped e f = record { floor = subst (IsFloor (in_steps (whole l))) (sym e) (rounded_psi l).floor; ceiling = subst (IsCeiling (in_steps (whole l))) (sym f) (rounded_psi l).ceiling }

  rounded_max : Rounded (in_steps (fraction_max (whole l) q)) (record { floor = int_max r.floor limit; ceiling = int_max r.ceiling limit })
  rounded_max = by_fraction_le (λ (v : Fraction). Rounded (in_steps v) (record { floor = int_max r.floor limit; ceiling = int_max r.ceiling limit })) (whole l) q
      (λ x. kept ((int_max_is r.floor limit).0 (floor_from (above x) w.floor)) ((int_max_is r.ceiling limit).0 (ceiling_from (above x) w.ceiling)))
      (λ x. stopped ((int_max_is r.floor limit).1 (floor_to (below (<_weak x)) w.floor)) ((int_max_is r.ceiling limit).1 (ceiling_to (below (<_weak x)) w.ceiling)))

  rounded_min : Rounded (in_steps (fraction_min (whole l) q)) (record { floor = int_min r.floor limit; ceiling = int_min r.ceiling limit })
  rounded_min = by_fraction_le (λ (v : Fraction). Rounded (in_steps v) (record { floor = int_min r.floor limit; ceiling = int_min r.ceiling limit })) (whole l) q
      (λ x. stopped ((int_min_is r.floor limit).0 (floor_from (above x) w.floor)) ((int_min_is r.ceiling limit).0 (ceiling_from (above x) w.ceiling)))
      (λ x. kept ((int_min_is r.floor limit).1 (floor_to (below (<_weak x)) w.floor)) ((int_min_is r.ceiling limit).1 (ceiling_to (below (<_weak x)) w.ceiling)))

-- x and y are the two numbers as they were held
pub held_is : (q : Fraction) (l h : ℤ) {r : Bounds} {x y : ℤ} → Rounded (in_steps q) r → x ≡ int_min (int_max r.floor (pos steps *ℤ l)) (pos steps *ℤ h) → y ≡ int_min (int_max r.ceiling (pos steps *ℤ l)) (pos steps *ℤ h) → Rounded (in_steps (held (whole l) (whole h) q)) (record { floor = x; ceiling = y })
held_is q l h {r} w e f = rw (e, f) (rounded_min (fraction_max (whole l) q) h _ (rounded_max q l r w))
