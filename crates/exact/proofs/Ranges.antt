-- How far from zero products are, and that they fit 64 bits.
use Rattle.std.proofs.Common.{ℕ, suc, ◌*◌, ◌^◌, ◌<◌, ◌≤◌, ℤ, pos, negsuc, ◌*ℤ◌, mul-le-mul, arith, w64, SFits}
use borrow.Author.Differences.{ints}
use Rattle.exact.specs.Ranges.{Within}

pub within_fits : {k : ℕ} {z : ℤ} → Within k z → k < 2 ^ 63 → SFits w64 z
within_fits w h = omega (arith, ints)

pub within_times : {x y : ℕ} {a b : ℤ} → Within x a → Within y b → Within (x * y) (a *ℤ b)
within_times {x} {y} {a} {b} v w = at a b v w where
  at : (a b : ℤ) → Within x a → Within y b → Within (x * y) (a *ℤ b)
  at (pos a) (pos b) v w = let m : a * b ≤ x * y = mul-le-mul (omega (arith, ints)) (omega (arith, ints)) in record { low = omega (arith, ints); high = omega (arith, ints) }
  at (pos a) (negsuc b) v w = let m : a * suc b ≤ x * y = mul-le-mul (omega (arith, ints)) (omega (arith, ints)) in record { low = omega (arith, ints); high = omega (arith, ints) }
  at (negsuc a) (pos b) v w = let m : suc a * b ≤ x * y = mul-le-mul (omega (arith, ints)) (omega (arith, ints)) in record { low = omega (arith, ints); high = omega (arith, ints) }
  at (negsuc a) (negsuc b) v w = let m : suc a * suc b ≤ x * y = mul-le-mul (omega (arith, ints)) (omega (arith, ints)) in record { low = omega (arith, ints); high = omega (arith, ints) }
