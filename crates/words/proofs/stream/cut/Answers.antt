-- All chunks are taken, and less than a chunk is left over.
use Rattle.std.proofs.Common.{◌/◌, length, arith}
use Rattle.std.proofs.lemmas.List.{take_all}
use Rattle.words.proofs.Streams.{spread_chunks}
use Rattle.words.proofs.stream.cut.Goals as goal

pub returns : goal.returns
returns c =
    let all = take_all _ _ c.loop-chunk-test.false in
    let stream = spread_chunks (length c.args.bytes.now / 4) c.args.bytes.now (omega arith) (λ i. (c.type_inv.bytes i).fits) in
    record { whole = cc; short = omega arith }
