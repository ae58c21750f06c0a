-- The kinds of entry and their names.
use Rattle.std.specs.Prelude.{ℕ, List, codes}
use Rattle.words.specs.declared.entry.Entry.{Entry}
use Rattle.words.specs.declared.entry.Entry.TheVariants as entry
use Rattle.words.specs.declared.kind.Kind.{Kind}
use Rattle.words.specs.declared.kind.Kind.TheVariants.{Open, Lay, Place, Lift, Axial, Moment, Solve}

-- the name with which the line of an entry of this kind begins
abbrev pub name_of : Kind → List ℕ
name_of Open = codes "open"
name_of Lay = codes "lay"
name_of Place = codes "place"
name_of Lift = codes "lift"
name_of Axial = codes "axial"
name_of Moment = codes "moment"
name_of Solve = codes "solve"

-- the kind of an entry
abbrev pub kind_of : Entry → Kind
kind_of (entry.Open fc fy) = Open
kind_of (entry.Lay thickness width) = Lay
kind_of (entry.Place bar count depth) = Place
kind_of (entry.Lift row) = Lift
kind_of (entry.Axial pu) = Axial
kind_of (entry.Moment member mu) = Moment
kind_of entry.Solve = Solve
