-- Whatever replies to the lines that are still to come, it completes the text.
use Rattle.std.proofs.Common.{string_bytes}
use Rattle.text.specs.Lines.{lines_left}
use Rattle.answering.proofs.Growth.{Ahead}
use Rattle.answering.proofs.replying.reply.Given as goal

abbrev pub invariant-loop-line : goal.invariant-loop-line
invariant-loop-line l = Ahead l.text (lines_left l.line-iterator) (string_bytes l.replies)
