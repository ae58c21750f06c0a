-- With each bar, what is written so far has one number more of the table.
use Rattle.std.proofs.Common.{refl}
use Rattle.section.specs.Bars.{bars}
use Rattle.std.proofs.Output.{has_written_of_eq, has_written_append}
use Rattle.composing.proofs.Told.{numbers_more}
use Rattle.composing.proofs.message.BarNumbersDisplay.fmt.Goals as goal

pub loop-bar-preserved : goal.loop-bar-preserved
loop-bar-preserved g c =
    λ plain.
    let before = c.loop-bar.invariant plain in
    let now = c.in_ok-write.ensures.writes before.plain refl in
    has_written_of_eq _ _ _ _ _ (numbers_more bars c.table-bar-items.result.now c.loop-bar.bar-index _ c.table-bar-items.ensures c.loop-bar-test.true) (has_written_append _ _ _ _ _ _ before now)
