-- Where the rest is 0 the quotient is the ceiling, elsewhere the number after it.
use Rattle.std.proofs.Common.{◌≡◌, pos, arith, w64, SFits, rules}
use borrow.Author.Differences.{ints}
use Rattle.std.specs.Int.{int_div_euclid, int_rem_euclid}
use Rattle.std.proofs.lemmas.Int.{to_z-of_z}
use Rattle.exact.proofs.Rounding.{ceiling_is, ceiling_next, next_fits}
use Rattle.exact.proofs.division.ceiling.Goals as goal

pub returns-then-rem_euclid-eq0 : goal.returns-then-rem_euclid-eq0
returns-then-rem_euclid-eq0 c =
    let n : SFits w64 c.args.num = c.ranges.num in
    let m : SFits w64 c.args.den.value = search rules in
    ceiling_is _ _ c.div_euclid-whole.result c.rem_euclid.result _ c.args.den.positive (simp to_z-of_z at c.div_euclid-whole.ensures) (simp to_z-of_z at c.rem_euclid.ensures.value) (omega (arith, ints)) (omega (arith, ints))

pub returns-else-rem_euclid-eq0 : goal.returns-else-rem_euclid-eq0
returns-else-rem_euclid-eq0 c =
    let n : SFits w64 c.args.num = c.ranges.num in
    let m : SFits w64 c.args.den.value = search rules in
    let e : c.div_euclid-whole.result ≡ int_div_euclid c.args.num c.args.den.value = simp to_z-of_z at c.div_euclid-whole.ensures in
    let f : c.rem_euclid.result ≡ int_rem_euclid c.args.num c.args.den.value = simp to_z-of_z at c.rem_euclid.ensures.value in
    let some = λ (z : c.rem_euclid.result ≡ pos 0). c.if-rem_euclid-eq0.false (omega (arith, ints)) in
    let room = next_fits c.args.num c.args.den.value c.div_euclid-whole.result c.rem_euclid.result 9223372036854775807 c.args.den.positive e f some (omega (arith, ints)) in
    ceiling_next _ _ c.div_euclid-whole.result c.rem_euclid.result _ c.args.den.positive e f some (omega (arith, ints))
