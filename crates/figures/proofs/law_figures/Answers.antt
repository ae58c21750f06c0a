-- The laws are made, and what they answer is what their definitions give.
use Rattle.std.proofs.Common.{◌≡◌, refl, sym, lit≤, rules}
use Rattle.laws.specs.Curves.{mill_stress}
use Rattle.laws.specs.Stresses.{block_stress, trapezoid_stress, yield_stress}
use Rattle.laws.proofs.Unique.{one_curve}
use Rattle.figures.specs.Figures.{measured}
use Rattle.figures.proofs.Figured.{figure}
use Rattle.figures.proofs.Proved.{worked}
use Rattle.figures.proofs.law_figures.Goals as goal

pub returns-in_err-block : goal.returns-in_err-block
returns-in_err-block c = absurd (c.in_err-block.ensures.0 4000 refl (lit≤ tt, lit≤ tt, refl))

pub returns-in_err-steel : goal.returns-in_err-steel
returns-in_err-steel c = absurd (c.in_err-steel.ensures.0 60000 refl (lit≤ tt, lit≤ tt, refl))

pub returns-in_err-new-2 : goal.returns-in_err-new-2
returns-in_err-new-2 c = absurd (c.in_err-new-2.ensures.0 4100 refl (lit≤ tt, lit≤ tt, refl))

pub returns-in_err-new-3 : goal.returns-in_err-new-3
returns-in_err-new-3 c = absurd (c.in_err-new-3.ensures.0 8000 refl (lit≤ tt, lit≤ tt, refl))

pub returns-in_err-new-4 : goal.returns-in_err-new-4
returns-in_err-new-4 c = absurd (c.in_err-new-4.ensures.0 10000 refl (lit≤ tt, lit≤ tt, refl))

pub returns : goal.returns
returns c =
    let block : c.in_ok-block.block.strength.psi ≡ 4000 = search rules in
    let trapezoid : c.in_ok-trapezoid.trapezoid.strength.psi ≡ 4000 = search rules in
    let steel : c.in_ok-steel.steel.strength.psi ≡ 60000 = search rules in
    let b1 : c.beta.result ≡ 850 = search rules in
    let b2 : c.beta-2.result ≡ 845 = search rules in
    let b3 : c.beta-3.result ≡ 650 = search rules in
    let b4 : c.beta-4.result ≡ 650 = search rules in
    let mill = one_curve _ measured (sym c.in_ok-mill.ensures.1) in
    let f1 = figure block_stress worked.block_at_edge c.answer.ensures block c.in_ok-answer.was in
    let f2 = figure block_stress worked.block_below_edge c.answer-2.ensures block c.in_ok-answer-2.was in
    let f3 = figure trapezoid_stress worked.trapezoid_seventh c.answer-3.ensures trapezoid c.in_ok-answer-3.was in
    let f4 = figure trapezoid_stress worked.trapezoid_half c.answer-4.ensures trapezoid c.in_ok-answer-4.was in
    let f5 = figure yield_stress worked.yield_seventh c.answer-5.ensures steel c.in_ok-answer-5.was in
    let f6 = figure yield_stress worked.yield_in_tension c.answer-6.ensures steel c.in_ok-answer-6.was in
    let f7 = figure mill_stress worked.mill_one c.answer-7.ensures mill c.in_ok-answer-7.was in
    record { worked = worked; returned = rw (b1, b2, b3, b4, f1, f2, f3, f4, f5, f6, f7) refl }
