-- The words so far are those of the chunks so far.
use Rattle.std.proofs.Common.{◌≡◌, map, take, w32, vec_items}
use Rattle.std.specs.Int.{from_be_bytes}
use Rattle.words.proofs.stream.cut.Given as goal

abbrev pub invariant-loop-chunk : goal.invariant-loop-chunk
invariant-loop-chunk l = vec_items l.words ≡ map (from_be_bytes w32) (take l.chunk-index l.chunks)
