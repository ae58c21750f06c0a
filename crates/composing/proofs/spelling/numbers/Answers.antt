-- One number more is read, or the line has not as many; at its end all are.
use Rattle.std.proofs.Common.{[], sym, ◌∙◌, SFits, w64, rules}
use Rattle.std.proofs.lemmas.List.{get_or-map, length-map}
use Rattle.std.proofs.lemmas.Int.{to_z-of_z}
use Rattle.composing.proofs.Numbers.{none_next, read_all, read_more}
use Rattle.composing.proofs.spelling.numbers.Goals as goal

pub returns-in_err-number : goal.returns-in_err-number
returns-in_err-number g c =
    let label = get_or-map _ c.args.labels.now c.loop-i.i _ [] c.loop-i-test.true ∙ sym c.as_bytes.ensures.value in
    rw c.from_residual.ensures (none_next _ _ _ _ _ c.loop-i.i _ (rw length-map c.loop-i-test.true) (rw length-map c.requires) label c.loop-i.invariant c.in_err-number.ensures)

pub loop-i-preserved : goal.loop-i-preserved
loop-i-preserved g c =
    let fits : SFits w64 c.in_ok-number.number = search rules in
    let label = get_or-map _ c.args.labels.now c.loop-i.i _ [] c.loop-i-test.true ∙ sym c.as_bytes.ensures.value in
    simp to_z-of_z (read_more _ _ _ _ _ _ c.loop-i.i _ _ (rw length-map c.loop-i-test.true) (rw length-map c.requires) label c.loop-i.invariant c.in_ok-number.ensures)

pub returns : goal.returns
returns g c = read_all _ _ _ _ _ c.loop-i.i (search rules) (rw length-map c.requires) c.loop-i.invariant (search rules)
