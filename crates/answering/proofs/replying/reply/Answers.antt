-- Each line adds what is printed for it, and the replies are the only ones.
use Rattle.answering.proofs.Growth.{ahead_all, ahead_more}
use Rattle.answering.proofs.Single.{replies_one}
use Rattle.answering.proofs.replying.reply.Goals as goal

pub loop-line-preserved : goal.loop-line-preserved
loop-line-preserved c =
    ahead_more _ _ _ _ _ _ _ _ c.in-Some.ensures.steps c.in_ok-printed.ensures c.as_str.ensures.value c.in_ok-push_str.ensures.bytes c.loop-line.invariant

pub returns-clause-replied : goal.returns-clause-replied
returns-clause-replied c = ahead_all _ _ _ c.in-None.ensures.steps.0 c.loop-line.invariant

pub returns-clause-only : goal.returns-clause-only
returns-clause-only c = replies_one _ _ (ahead_all _ _ _ c.in-None.ensures.steps.0 c.loop-line.invariant)
