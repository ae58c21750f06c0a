-- The law of the strength that was given is asked, or the curve through the readings.
use Rattle.std.proofs.Common.{◌∙◌, sym, w64, SFits, rules}
use Rattle.std.proofs.lemmas.Int.{to_z-of_z}
use Rattle.laws.specs.Strengths.{ConcreteGrade, YieldGrade}
use Rattle.laws.specs.Stresses.{block_stress, trapezoid_stress, yield_stress}
use Rattle.answering.specs.Answering.OfReadings.{keeping, breaking}
use Rattle.answering.proofs.Made.{of_grade}
use Rattle.answering.proofs.Paired.{paired_numbers}
use Rattle.answering.proofs.answer.answer.Goals as goal

pub returns-in_err-new-in-Mill : goal.returns-in_err-new-in-Mill
returns-in_err-new-in-Mill c =
    let readings = c.as_slice.ensures.value in
    let made = c.in_err-new-in-Mill.ensures in
    rw (c.in-Mill.is, paired_numbers) (breaking (rw readings at made.0) (search rules))

pub returns-in_ok-new-in-Block : goal.returns-in_ok-new-in-Block
returns-in_ok-new-in-Block c =
    let made = c.in_ok-new-in-Block.ensures in
    rw c.in-Block.is (of_grade ConcreteGrade block_stress _ _ _ _ _ (search rules) (search rules) (search rules) made.0 made.1 c.ask.ensures.answered)

pub returns-in_ok-new-in-Trapezoid : goal.returns-in_ok-new-in-Trapezoid
returns-in_ok-new-in-Trapezoid c =
    let made = c.in_ok-new-in-Trapezoid.ensures in
    rw c.in-Trapezoid.is (of_grade ConcreteGrade trapezoid_stress _ _ _ _ _ (search rules) (search rules) (search rules) made.0 made.1 c.ask-in-Trapezoid.ensures.answered)

pub returns-in_ok-new-in-Yield : goal.returns-in_ok-new-in-Yield
returns-in_ok-new-in-Yield c =
    let made = c.in_ok-new-in-Yield.ensures in
    rw c.in-Yield.is (of_grade YieldGrade yield_stress _ _ _ _ _ (search rules) (search rules) (search rules) made.0 made.1 c.ask-in-Yield.ensures.answered)

pub returns-in_ok-new-in-Mill : goal.returns-in_ok-new-in-Mill
returns-in_ok-new-in-Mill c =
    let n : SFits w64 c.args.question.now.n = search rules in
    let m : SFits w64 c.args.question.now.m = search rules in
    let readings = c.as_slice.ensures.value in
    let made = c.in_ok-new-in-Mill.ensures in
    rw (c.in-Mill.is, paired_numbers) (keeping _ (sym readings ∙ made.1) (rw readings at made.0) (simp to_z-of_z at c.ask-in-Mill.ensures.answered))
