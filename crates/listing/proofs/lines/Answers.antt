-- The line of the next word follows.
use Rattle.listing.proofs.Growth.{lines_more}
use Rattle.listing.proofs.lines.Goals as goal

pub loop-index-preserved : goal.loop-index-preserved
loop-index-preserved c =
    rw (c.in_ok-push_str.ensures.bytes, c.as_str.ensures.value) (lines_more c.args.words.now _ _ c.loop-index.index c.loop-index-test.true c.loop-index.invariant c.in_ok-line.ensures)
