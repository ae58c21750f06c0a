-- A line that lacks the numbers of a kind spells no entry of it.
use Rattle.std.proofs.Common.{◌≡◌, length, get_or, pos, sym, SFits, w64, rules}
use Rattle.std.proofs.lemmas.Int.{to_z-of_z}
use Rattle.text.specs.Runs.{pieces}
use Rattle.words.specs.declared.kind.Kind.TheVariants.{Place}
use Rattle.composing.proofs.Numbers.{three_numbers}
use Rattle.composing.proofs.Spelt.{labels_of, no_numbers}
use Rattle.composing.proofs.spelling.entry_of_kind.Goals as goal

pub returns-in_err-fc-in-Open : goal.returns-in_err-fc-in-Open
returns-in_err-fc-in-Open c = rw (c.in-Open.is, c.from_residual.ensures) (no_numbers _ _ c.in_err-fc-in-Open.ensures)

pub returns-in_err-thickness-in-Lay : goal.returns-in_err-thickness-in-Lay
returns-in_err-thickness-in-Lay c = rw (c.in-Lay.is, c.from_residual-in_err-thickness-in-Lay.ensures) (no_numbers _ _ c.in_err-thickness-in-Lay.ensures)

pub returns-in_err-bar-in-Place : goal.returns-in_err-bar-in-Place
returns-in_err-bar-in-Place c = rw (c.in-Place.is, c.from_residual-in_err-bar-in-Place.ensures) (no_numbers _ _ c.in_err-bar-in-Place.ensures)

pub returns-in_err-row-in-Lift : goal.returns-in_err-row-in-Lift
returns-in_err-row-in-Lift c = rw (c.in-Lift.is, c.from_residual-in_err-row-in-Lift.ensures) (no_numbers _ _ c.in_err-row-in-Lift.ensures)

pub returns-in_err-pu-in-Axial : goal.returns-in_err-pu-in-Axial
returns-in_err-pu-in-Axial c = rw (c.in-Axial.is, c.from_residual-in_err-pu-in-Axial.ensures) (no_numbers _ _ c.in_err-pu-in-Axial.ensures)

pub returns-in_err-member-in-Moment : goal.returns-in_err-member-in-Moment
returns-in_err-member-in-Moment c = rw (c.in-Moment.is, c.from_residual-in_err-member-in-Moment.ensures) (no_numbers _ _ c.in_err-member-in-Moment.ensures)

pub returns-in_err-numbers-in-Solve : goal.returns-in_err-numbers-in-Solve
returns-in_err-numbers-in-Solve c = rw (c.in-Solve.is, c.from_residual-in_err-numbers-in-Solve.ensures) (no_numbers _ _ c.in_err-numbers-in-Solve.ensures)

pub returns-in_ok-bar-in-Place : goal.returns-in_ok-bar-in-Place
returns-in_ok-bar-in-Place c =
    let l : length c.in_ok-bar-in-Place.field-0 ≡ 3 = search rules in
    let bar : SFits w64 (get_or c.in_ok-bar-in-Place.field-0 0 (pos 0)) = search rules in
    let count : SFits w64 (get_or c.in_ok-bar-in-Place.field-0 1 (pos 0)) = search rules in
    let depth : SFits w64 (get_or c.in_ok-bar-in-Place.field-0 2 (pos 0)) = search rules in
    simp to_z-of_z (sym c.in-Place.is, three_numbers (labels_of Place) (pieces c.args.line.now) c.in_ok-bar-in-Place.field-0 l c.in_ok-bar-in-Place.ensures)
