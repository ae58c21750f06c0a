-- Floors and ceilings: they rise with the fraction, there is one of each, and Euclidean division by a positive number gives them.
use Rattle.std.proofs.Common.{◌≡◌, ℕ, zero, suc, ◌+◌, ◌-◌, ◌*◌, ◌/◌, ◌%◌, ◌<◌, ◌≤◌, ℤ, pos, negsuc, ◌+ℤ◌, ◌-ℤ◌, ◌*ℤ◌, ◌≤ℤ◌, ◌<ℤ◌, refl, mod-lt, arith, w64, SFits, of_z, to_z}
use Rattle.std.proofs.lemmas.Int.{to_z-of_z}
use Rattle.std.proofs.Math.Nat.{div-add-mod}
use borrow.Author.Differences.{ints, up, down}
use Rattle.std.specs.Int.{int_div_euclid, int_rem_euclid}
use Rattle.exact.specs.declared.bounds.Bounds.{Bounds}
use Rattle.exact.specs.Fractions.{Fraction, whole, part, over, Crossed≤, Crossed<, ◌≤F◌, ◌≈F◌}
use Rattle.exact.specs.Rounding.{IsFloor, IsCeiling, Rounded}
use Rattle.exact.proofs.Represented as R
use Rattle.exact.proofs.Order.{≤_refl, ≤_trans, ≤<_trans, <≤_trans, of_whole_≤, of_whole_<}

-- a whole number below the next one of another, or above the one before
before_next : {a b : ℤ} → a <ℤ (b +ℤ pos 1) → a ≤ℤ b
before_next h = omega (arith, ints)

after_before : {a b : ℤ} → (a -ℤ pos 1) <ℤ b → a ≤ℤ b
after_before h = omega (arith, ints)

-- whole numbers on either side of q, and its floor and ceiling
pub floor_from : {q : Fraction} {a k : ℤ} → whole a ≤F q → IsFloor q k → a ≤ℤ k
floor_from h f = before_next (of_whole_< (≤<_trans h f.next))

pub floor_to : {q : Fraction} {a k : ℤ} → q ≤F whole a → IsFloor q k → k ≤ℤ a
floor_to h f = of_whole_≤ (≤_trans f.reached h)

pub ceiling_from : {q : Fraction} {a k : ℤ} → whole a ≤F q → IsCeiling q k → a ≤ℤ k
ceiling_from h f = of_whole_≤ (≤_trans h f.reached)

pub ceiling_to : {q : Fraction} {a k : ℤ} → q ≤F whole a → IsCeiling q k → k ≤ℤ a
ceiling_to h f = after_before (of_whole_< (<≤_trans f.before h))

pub floor_mono : {p q : Fraction} {k l : ℤ} → p ≤F q → IsFloor p k → IsFloor q l → k ≤ℤ l
floor_mono h f g = floor_from (≤_trans f.reached h) g

pub ceiling_mono : {p q : Fraction} {k l : ℤ} → p ≤F q → IsCeiling p k → IsCeiling q l → k ≤ℤ l
ceiling_mono h f g = ceiling_to (≤_trans h g.reached) f

-- a whole number is its own floor and ceiling
floor_whole : (k : ℤ) → IsFloor (whole k) k
unfolding Crossed≤ Crossed<
floor_whole k = record { reached = record { cross = omega (arith, ints) }; next = record { cross = omega (arith, ints) } }

ceiling_whole : (k : ℤ) → IsCeiling (whole k) k
unfolding Crossed≤ Crossed<
ceiling_whole k = record { reached = record { cross = omega (arith, ints) }; before = record { cross = omega (arith, ints) } }

pub rounded_whole : (k : ℤ) → Rounded (whole k) (record { floor = k; ceiling = k })
rounded_whole k = record { floor = floor_whole k; ceiling = ceiling_whole k }

-- the same number is rounded alike
pub rounded_same : {p q : Fraction} {r : Bounds} → p ≈F q → Rounded p r → Rounded q r
rounded_same h w = record {
  floor = record { reached = ≤_trans w.floor.reached h.0; next = ≤<_trans h.1 w.floor.next };
  ceiling = record { reached = ≤_trans h.1 w.ceiling.reached; before = <≤_trans w.ceiling.before h.0 };
}

-- there is one pair of floor and ceiling
pub rounded_one : {q : Fraction} {r s : Bounds} → Rounded q r → Rounded q s → r ≡ s
rounded_one w v = pair
    (both (floor_mono ≤_refl w.floor v.floor) (floor_mono ≤_refl v.floor w.floor))
    (both (ceiling_mono ≤_refl w.ceiling v.ceiling) (ceiling_mono ≤_refl v.ceiling w.ceiling))
  where
    both : {a b : ℤ} → a ≤ℤ b → b ≤ℤ a → a ≡ b
    both h g = omega (arith, ints)

    pair : {a b x y : ℤ} → a ≡ x → b ≡ y → ◌≡◌ {A = Bounds} (record { floor = a; ceiling = b }) (record { floor = x; ceiling = y })
    pair e f = cc

-- z is k times d + 1, and a rest of at most d
record Parted (z k : ℤ) (d rest : ℕ) : Type 0 where
  sum : z ≡ k *ℤ pos (suc d) +ℤ pos rest
  small : rest ≤ d

module _ (z k : ℤ) (d rest : ℕ) (p : Parted z k d rest) where
  at : up z + (down k * suc d + 0) ≡ up k * suc d + rest + down z
  at = R.from_same (R.v z) (R.add (R.by (R.v k) (suc d)) (R.k rest)) p.sum

  parted_floor : IsFloor (part z d) k
  unfolding Crossed≤ Crossed<
  parted_floor = let e = at in let s = p.small in record {
    reached = record { cross = R.le (R.by (R.v k) (suc d)) (R.by (R.v z) 1) (omega arith) };
    next = record { cross = R.lt (R.by (R.v z) 1) (R.by (R.add (R.v k) (R.k 1)) (suc d)) (omega arith) };
  }

  parted_ceiling : rest ≡ 0 → IsCeiling (part z d) k
  unfolding Crossed≤ Crossed<
  parted_ceiling n = let e = at in record {
    reached = record { cross = R.le (R.by (R.v z) 1) (R.by (R.v k) (suc d)) (omega arith) };
    before = record { cross = R.lt (R.by (R.sub (R.v k) (R.k 1)) (suc d)) (R.by (R.v z) 1) (omega arith) };
  }

  parted_next : 0 < rest → IsCeiling (part z d) (k +ℤ pos 1)
  unfolding Crossed≤ Crossed<
  parted_next n = let e = at in let s = p.small in record {
    reached = record { cross = R.le (R.by (R.v z) 1) (R.by (R.add (R.v k) (R.k 1)) (suc d)) (omega arith) };
    before = record { cross = R.lt (R.by (R.sub (R.add (R.v k) (R.k 1)) (R.k 1)) (suc d)) (R.by (R.v z) 1) (omega arith) };
  }

  -- a rest leaves room above the quotient
  parted_room : (w : ℕ) → 0 < rest → z ≤ℤ pos w → k <ℤ pos w
  parted_room w n h = room k p.sum where
    room : (k : ℤ) → z ≡ k *ℤ pos (suc d) +ℤ pos rest → k <ℤ pos w
    room (pos a) e = omega (arith, ints)
    room (negsuc a) e = omega (arith, ints)

-- the Euclidean quotient and its rest are such
parted : (z : ℤ) (d : ℕ) → (rest : ℕ) × (int_rem_euclid z (pos (suc d)) ≡ pos rest) × Parted z (int_div_euclid z (pos (suc d))) d rest
parted (pos a) d =
    let s = div-add-mod a (suc d) in
    let l = mod-lt a {m = suc d} (omega arith) in
    (a % suc d, refl, record { sum = omega (arith, ints); small = omega arith })
parted (negsuc a) d =
    let s = div-add-mod a (suc d) in
    let l = mod-lt a {m = suc d} (omega arith) in
    (suc d - 1 - a % suc d, refl, record { sum = R.same (R.v (negsuc a)) (R.add (R.by (R.v (negsuc (a / suc d))) (suc d)) (R.k (suc d - 1 - a % suc d))) (omega arith); small = omega arith })

pub floor_is : (z m k x : ℤ) → pos 1 ≤ℤ m → k ≡ int_div_euclid z m → x ≡ k → IsFloor (over z m) x
floor_is z (pos zero) k x h e i = absurd h.le
floor_is z (negsuc d) k x h e i = absurd h.le
floor_is z (pos (suc d)) k x h e i = rw (i, e) (let p = parted z d in parted_floor z (int_div_euclid z (pos (suc d))) d p.0 p.2)

-- the floor of machine numbers, by the machine's quotient
pub floor_divided : {z m k : ℤ} → SFits w64 z → SFits w64 m → SFits w64 k → pos 1 ≤ℤ m → k ≡ int_div_euclid (to_z w64 (of_z w64 z)) (to_z w64 (of_z w64 m)) → IsFloor (over z m) (to_z w64 (of_z w64 k))
floor_divided {z} {m} {k} f g h p e = floor_is z m k _ p (simp (to_z-of_z w64 z f, to_z-of_z w64 m g) at e) (to_z-of_z w64 k h)

pub ceiling_is : (z m k r x : ℤ) → pos 1 ≤ℤ m → k ≡ int_div_euclid z m → r ≡ int_rem_euclid z m → r ≡ pos 0 → x ≡ k → IsCeiling (over z m) x
ceiling_is z (pos zero) k r x h e f n i = absurd h.le
ceiling_is z (negsuc d) k r x h e f n i = absurd h.le
ceiling_is z (pos (suc d)) k r x h e f n i = rw (i, e) (let p = parted z d in let q = p.1 in parted_ceiling z (int_div_euclid z (pos (suc d))) d p.0 p.2 (omega (arith, ints)))

pub ceiling_next : (z m k r x : ℤ) → pos 1 ≤ℤ m → k ≡ int_div_euclid z m → r ≡ int_rem_euclid z m → (r ≡ pos 0 → ⊥) → x ≡ k +ℤ pos 1 → IsCeiling (over z m) x
ceiling_next z (pos zero) k r x h e f n i = absurd h.le
ceiling_next z (negsuc d) k r x h e f n i = absurd h.le
ceiling_next z (pos (suc d)) k r x h e f n i = rw (i, e) (let p = parted z d in let q = p.1 in parted_next z (int_div_euclid z (pos (suc d))) d p.0 p.2 (omega (arith, ints)))

-- it fits where z does
pub next_fits : (z m k r : ℤ) (w : ℕ) → pos 1 ≤ℤ m → k ≡ int_div_euclid z m → r ≡ int_rem_euclid z m → (r ≡ pos 0 → ⊥) → z ≤ℤ pos w → k <ℤ pos w
next_fits z (pos zero) k r w h e f n l = absurd h.le
next_fits z (negsuc d) k r w h e f n l = absurd h.le
next_fits z (pos (suc d)) k r w h e f n l = rw e (let p = parted z d in let q = p.1 in parted_room z (int_div_euclid z (pos (suc d))) d p.0 p.2 w (omega (arith, ints)) l)
