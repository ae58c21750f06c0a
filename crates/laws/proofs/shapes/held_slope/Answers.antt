-- Both numbers are held as the stress is.
use Rattle.std.proofs.Common.{◌≡◌, pos, ◌-ℤ◌, ◌*ℤ◌, neg_ℤ, arith, w64, to_z, of_z}
use borrow.Author.Differences.{ints}
use Rattle.std.proofs.lemmas.Int.{clamps}
use Rattle.laws.specs.Meaning.{steps}
use Rattle.laws.specs.Owed.Stepping.{steps_turned}
use Rattle.laws.proofs.Holding.{held_is}
use Rattle.laws.proofs.shapes.held_slope.Goals as goal

pub returns : goal.returns
returns c =
    let t = steps_turned c.args.tension in
    let low : to_z w64 (of_z w64 (pos 0 -ℤ to_z w64 (of_z w64 c.in_steps-least.result))) ≡ pos steps *ℤ neg_ℤ (pos c.args.tension) = omega (arith, ints) in
    let high : to_z w64 (of_z w64 c.in_steps-most.result) ≡ pos steps *ℤ pos c.args.compression = omega (arith, ints) in
    held_is _ (neg_ℤ (pos c.args.tension)) (pos c.args.compression) c.slope-bounds.ensures (omega (arith, ints, clamps)) (omega (arith, ints, clamps))
