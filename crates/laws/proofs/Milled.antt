-- The mill curve's stress is that of the curve in compression, with the sign of the ratio.
use Rattle.std.specs.Prelude.{◌≡◌, ℕ, zero, suc, true, List, map, ℤ, pos, negsuc, ◌≤ℤ◌, ◌<ℤ◌, unsigned_abs, neg_ℤ, FitsSigned, refl}
use Rattle.std.proofs.Common.{arith, sym, subst}
use Rattle.std.specs.Int.{w64}
use Rattle.std.proofs.lemmas.Int.{ints}
use Rattle.exact.specs.declared.bounds.Bounds.{Bounds}
use Rattle.exact.specs.Fractions.{Fraction, whole, part, over, Crossed≤, Crossed<, ◌≤F◌, ◌<F◌, ◌≈F◌, ◌*F◌, minus}
use Rattle.exact.specs.Rounding.{Rounded, turned}
use Rattle.exact.proofs.Represented as R
use Rattle.exact.proofs.Order.{≤_trans, same_≤, by_fraction_le, over_from, whole_≤}
use Rattle.exact.proofs.Arithmetic.{minus_rounded}
use Rattle.exact.proofs.Rounding.{floor_from, floor_to, ceiling_from, ceiling_to, rounded_same}
use Rattle.laws.specs.declared.mill.point.Point.{Point}
use Rattle.laws.specs.Curves.{curve, mill_stress}
use Rattle.laws.specs.Meaning.{steps, in_steps, farthest}
use Rattle.laws.specs.Rules.{reading, ruled}
use Rattle.laws.specs.Owed.Bent.{curve_from, curve_to, last_small}
use Rattle.laws.specs.Owed.Stepping.{steps_mono, steps_whole}

-- what is rounded of the curve is so small that its sign can be turned
pub curve_small : (ps : List Point) (n m : ℕ) {r : Bounds} → ruled (map reading ps) ≡ true → Rounded (in_steps (curve ps (over (pos n) (pos m)))) r → FitsSigned w64 (neg_ℤ r.floor) × FitsSigned w64 (neg_ℤ r.ceiling)
unfolding steps
curve_small ps n m {r} h w =
    let q = over (pos n) (pos m) in
    let from = ≤_trans (steps_whole (pos 0)).0 (steps_mono (curve_from ps h q (over_from n (pos m)))) in
    let to = ≤_trans (steps_mono (≤_trans (curve_to ps h q) (whole_≤ (let s = last_small ps h in omega (arith, ints))))) (steps_whole (pos farthest)).1 in
    let a = floor_from from w.floor in
    let b = floor_to to w.floor in
    let c = ceiling_from from w.ceiling in
    let d = ceiling_to to w.ceiling in
    (omega (arith, ints), omega (arith, ints))

-- steps of a stress with its sign turned
steps_minus : (q : Fraction) → minus (in_steps q) ≈F in_steps (minus q)
unfolding ◌*F◌ minus
steps_minus q = let e = R.same (R.neg (R.mul (R.k steps) (R.v q.num))) (R.mul (R.k steps) (R.neg (R.v q.num))) (omega arith) in (same_≤ e refl, same_≤ (sym e) refl)

-- on either side of 0
compressed : (n d : ℕ) → part (pos n) d <F whole (pos 0) → ⊥
unfolding Crossed<
compressed n d h = omega (arith, ints)

tensed : (n d : ℕ) → whole (pos 0) ≤F part (negsuc n) d → ⊥
unfolding Crossed≤
tensed n d h = omega (arith, ints)

module _ (ps : List Point) {r : Bounds} where
  in_compression : (n d : ℕ) → Rounded (in_steps (curve ps (part (pos n) d))) r → Rounded (in_steps (mill_stress ps (part (pos n) d))) r
  unfolding mill_stress
  in_compression n d w = by_fraction_le (λ (v : Fraction). Rounded (in_steps v) r) (whole (pos 0)) (part (pos n) d) (λ x. w) (λ x. absurd (compressed n d x))

  in_tension : (n d : ℕ) → Rounded (in_steps (curve ps (part (pos (suc n)) d))) r → Rounded (in_steps (mill_stress ps (part (negsuc n) d))) (turned r)
  unfolding mill_stress minus
  in_tension n d w = by_fraction_le (λ (v : Fraction). Rounded (in_steps v) (turned r)) (whole (pos 0)) (part (negsuc n) d) (λ x. absurd (tensed n d x)) (λ x. rounded_same (steps_minus (curve ps (part (pos (suc n)) d))) (minus_rounded w))

-- the points and the magnitudes as the walk was given them
walked : {ps qs : List Point} {x y u v : ℕ} {r : Bounds} → qs ≡ ps → x ≡ u → y ≡ v → Rounded (in_steps (curve qs (over (pos x) (pos y)))) r → Rounded (in_steps (curve ps (over (pos u) (pos v)))) r
walked {ps} {qs} {x} {y} {u} {v} {r} d e f w = subst (λ (z : Fraction). Rounded (in_steps z) r) (same (λ (ps : List Point) (x y : ℕ). curve ps (over (pos x) (pos y)))) w where
  same : (F : List Point → ℕ → ℕ → Fraction) → F qs x y ≡ F ps u v
  same F = cc

-- n and m by their magnitudes x and y: as it is where n is not negative, and elsewhere with its sign turned
pub mill_compressed : (ps : List Point) (n m : ℤ) {qs : List Point} {x y : ℕ} {r : Bounds} → pos 1 ≤ℤ m → pos 0 ≤ℤ n → qs ≡ ps → x ≡ unsigned_abs n → y ≡ unsigned_abs m → Rounded (in_steps (curve qs (over (pos x) (pos y)))) r → Rounded (in_steps (mill_stress ps (over n m))) r
mill_compressed ps n (pos zero) h g d e f w = absurd h.le
mill_compressed ps n (negsuc k) h g d e f w = absurd h.le
mill_compressed ps (negsuc n) (pos (suc k)) h g d e f w = absurd g.le
mill_compressed ps (pos n) (pos (suc k)) h g d e f w = in_compression ps n k (walked d e f w)

pub mill_tensed : (ps : List Point) (n m : ℤ) {qs : List Point} {x y : ℕ} {r : Bounds} → pos 1 ≤ℤ m → n <ℤ pos 0 → qs ≡ ps → x ≡ unsigned_abs n → y ≡ unsigned_abs m → Rounded (in_steps (curve qs (over (pos x) (pos y)))) r → Rounded (in_steps (mill_stress ps (over n m))) (turned r)
mill_tensed ps n (pos zero) h g d e f w = absurd h.le
mill_tensed ps n (negsuc k) h g d e f w = absurd h.le
mill_tensed ps (pos n) (pos (suc k)) h g d e f w = absurd (omega (arith, ints))
mill_tensed ps (negsuc n) (pos (suc k)) h g d e f w = in_tension ps n k (walked d e f w)
