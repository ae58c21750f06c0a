-- The numbers so far are written.
use Rattle.std.proofs.Common.{take}
use Rattle.std.specs.Fmt.{IsPlainFormatter, HasWritten}
use Rattle.section.specs.Bars.{bars}
use Rattle.composing.specs.Messages.{bar_numbers}
use Rattle.composing.proofs.message.BarNumbersDisplay.fmt.Given as goal

abbrev pub invariant-loop-bar : goal.invariant-loop-bar
invariant-loop-bar g l = IsPlainFormatter l.initial.f → HasWritten g.W.Write.write_str_gives l.initial.f (bar_numbers (take l.bar-index bars)) l.f
