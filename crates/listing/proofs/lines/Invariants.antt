-- The text lists the words so far.
use Rattle.std.proofs.Common.{take, string_bytes}
use Rattle.listing.specs.Listing.{Lines}
use Rattle.listing.proofs.lines.Given as goal

abbrev pub invariant-loop-index : goal.invariant-loop-index
invariant-loop-index l = Lines 0 (take l.index l.words) (string_bytes l.text)
