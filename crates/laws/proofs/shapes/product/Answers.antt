-- The product is that of whole numbers, since it fits.
use Rattle.std.proofs.Common.{◌≡◌, ℕ, ℤ, pos, ◌*ℤ◌, ap, ◌∙◌, arith, lit<, w32, w64, Fits, SFits, to_z, of_z}
use borrow.Author.Differences.{ints}
use Rattle.std.proofs.lemmas.Int.{to_z-of_z}
use Rattle.exact.specs.Ranges.{Within}
use Rattle.exact.proofs.Ranges.{within_fits, within_times}
use Rattle.laws.specs.Meaning.{greatest_axis}
use Rattle.laws.proofs.shapes.product.Goals as goal

far : (t : ℕ) (z : ℤ) → Fits w32 t → Within greatest_axis z → Within 515396075520000 (pos t *ℤ z)
far t z f w = within_times {x = 4294967296} {y = greatest_axis} {a = pos t} {b = z} (record { low = omega (arith, ints); high = omega (arith, ints) }) w

-- both factors as the code has them
factors : (t : ℕ) (x z : ℤ) → Fits w32 t → SFits w64 z → x ≡ pos t → to_z w64 (of_z w64 x) *ℤ to_z w64 (of_z w64 z) ≡ pos t *ℤ z
factors t x z f g h = let e : to_z w64 (of_z w64 x) ≡ pos t = omega (arith, ints) in simp (e, to_z-of_z)

pub returns : goal.returns
returns c =
    let w = far c.args.times c.args.number c.ranges.times c.requires in
    let e = ap (λ (z : ℤ). to_z w64 (of_z w64 z)) (factors c.args.times c.from.result c.args.number c.ranges.times c.ranges.number c.from.ensures) ∙ to_z-of_z w64 (pos c.args.times *ℤ c.args.number) (within_fits w (lit< tt)) in
    record { value = e; small = rw e (record { low = omega (arith, ints); high = omega (arith, ints) }) }
