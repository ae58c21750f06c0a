-- The line of a readable word is that of the entry that was read.
use Rattle.std.proofs.lemmas.Result.{IfOk-weaker}
use Rattle.listing.specs.Listing.Line.{stands}
use Rattle.listing.proofs.line.Goals as goal

pub returns-in-Ok : goal.returns-in-Ok
returns-in-Ok c = IfOk-weaker _ _ _ (λ s e. stands c.in-Ok.entry c.in-Ok.ensures.0 e) c.format.ensures.ok
