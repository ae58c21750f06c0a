-- The line is a quotient of numbers that fit.
use Rattle.std.proofs.Common.{◌≡◌, ℕ, ◌+◌, ◌-◌, ◌*◌, ◌≤◌, pos, mul-le-mul, arith, w64, to_z}
use borrow.Author.Differences.{ints}
use Rattle.laws.proofs.Straight.{rounded_line}
use Rattle.laws.proofs.mill.curve.between.Goals as goal

pub returns : goal.returns
returns c =
    let a = c.args.a in
    let b = c.args.b in
    let n = c.args.ratio.n in
    let m = c.args.ratio.m in
    let den : ℕ = (b.ratio - a.ratio) * m in
    let num : ℕ = a.stress * den + (n * 1000 - a.ratio * m) * (b.stress - a.stress) in
    let run : b.ratio - a.ratio ≤ 100000 = omega arith in
    let far : m ≤ 120000 = c.args.ratio.to in
    let width = mul-le-mul run far in
    let start : a.stress ≤ 100000 = omega arith in
    let past : n * 1000 - a.ratio * m ≤ 120000000 = omega arith in
    let rise : b.stress - a.stress ≤ 100000 = omega arith in
    let below = mul-le-mul start width in
    let above = mul-le-mul past rise in
    let d : to_z w64 den ≡ pos den = omega (arith, ints) in
    let z : to_z w64 num ≡ pos num = omega (arith, ints) in
    rounded_line a b (record { ratio = c.requires.further; stress = c.requires.no_less; far = c.requires.limits.0; strong = c.requires.limits.1 }) n m c.args.ratio.from c.requires.past {z = to_z w64 num} {d = to_z w64 den} (simp (c.from.ensures, c.from-2.ensures, c.from-start.ensures, c.from-rise.ensures) at c.rounded.ensures) z d
