-- Pieces spell at most one entry: by its name they tell its kind, and their numbers come one after another.
use Rattle.std.proofs.Common.{◌≡◌, ℕ, List, [], ◌∷◌, length, ℤ, Some, None, Option, Result, codes, sym, refl, ap, ◌∙◌, subst, arith, MatchOption, MatchResult}
use Rattle.std.specs.Option.{ok_or}
use Rattle.text.specs.Figures as figures
use Rattle.words.specs.declared.entry.Entry.{Entry}
use Rattle.words.specs.declared.entry.Entry.TheVariants.{Open, Lay, Place, Lift, Axial, Moment, Solve}
use Rattle.words.specs.declared.kind.Kind.{Kind}
use Rattle.words.specs.declared.kind.Kind.TheVariants as kinds
use Rattle.words.specs.Kinds.{kind_of, name_of}
use Rattle.words.specs.Lines.{Labelled, labelled, numbers_of}
use Rattle.composing.specs.declared.expected.Expected.{Expected}
use Rattle.composing.specs.declared.expected.Expected.TheVariants as expected
use Rattle.composing.specs.Asking.{Lacks}
use Rattle.composing.specs.Spelling.{NoNumbers, NumberFirst, Numbers, Spells, labelled_all}

-- what follows the first number is what follows it however it is read
pub numbers_after : (label : List ℕ) (ps rest : List (List ℕ)) (y z : ℤ) (ns : List Labelled) → NumberFirst label ps y rest → Numbers (labelled label z ∷ ns) ps → Numbers ns rest
numbers_after label ps rest y z ns h n =
    let e = h.1 in
    let f = n.1.1 in
    let same : n.0 ≡ rest = cc in
    subst (Numbers ns) same n.2

-- after the label stands a number where one comes first
pub after_label : {B : Type 0} (view : B → List (List ℕ)) (label : List ℕ) (ps more : List (List ℕ)) (o : Option (ℤ × B)) → ps ≡ label ∷ more → MatchOption o (figures.NoNumberFirst more) (λ p. figures.NumberFirst more p.0 (view p.1)) → MatchOption o ((z : ℤ) (rest : List (List ℕ)) → NumberFirst label ps z rest → ⊥) (λ p. NumberFirst label ps p.0 (view p.1))
after_label view label ps more None e h = λ z rest f. let q = f.1 in h z rest (f.0, cc, f.2)
after_label view label ps more (Some p) e h = (h.0, e ∙ ap (λ qs. label ∷ qs) h.1, h.2)

pub one_kind : (j k : Kind) → name_of j ≡ name_of k → j ≡ k
one_kind j k e = grind arith

-- the labels of a kind, and the numbers that an entry has after them
abbrev pub labels_of : Kind → List (List ℕ)
labels_of kinds.Open = codes "fc" ∷ codes "fy" ∷ []
labels_of kinds.Lay = codes "thickness" ∷ codes "width" ∷ []
labels_of kinds.Place = codes "bar" ∷ codes "count" ∷ codes "depth" ∷ []
labels_of kinds.Lift = codes "row" ∷ []
labels_of kinds.Axial = codes "pu" ∷ []
labels_of kinds.Moment = codes "member" ∷ codes "mu" ∷ []
labels_of kinds.Solve = []

values_of : (e : Entry) → (zs : List ℤ) × (length zs ≡ length (labels_of (kind_of e))) × (numbers_of e ≡ labelled_all (labels_of (kind_of e)) zs)
values_of (Open fc fy) = (fc ∷ fy ∷ [], refl, refl)
values_of (Lay thickness width) = (thickness ∷ width ∷ [], refl, refl)
values_of (Place bar count depth) = (bar ∷ count ∷ depth ∷ [], refl, refl)
values_of (Lift row) = (row ∷ [], refl, refl)
values_of (Axial pu) = (pu ∷ [], refl, refl)
values_of (Moment member mu) = (member ∷ mu ∷ [], refl, refl)
values_of Solve = ([], refl, refl)

-- where a line has no numbers after the labels of a kind, it has those of no entry of the kind
pub no_numbers : (k : Kind) (ps : List (List ℕ)) → ((zs : List ℤ) → length zs ≡ length (labels_of k) → Numbers (labelled_all (labels_of k) zs) ps → ⊥) → NoNumbers k ps
no_numbers k ps none e is h =
    let v = values_of e in
    subst (λ j. ((zs : List ℤ) → length zs ≡ length (labels_of j) → Numbers (labelled_all (labels_of j) zs) ps → ⊥)) (sym is) none v.0 v.1 (subst (λ ns. Numbers ns ps) v.2 h)

-- where a name has no numbers of its kind after it, the pieces spell nothing
pub not_spelt : (k : Kind) (ps rest : List (List ℕ)) → ps ≡ name_of k ∷ rest → NoNumbers k rest → (e : Entry) → Spells ps e → ⊥
not_spelt k ps rest p h e s =
    let q = s.1 in
    let names : name_of (kind_of e) ≡ name_of k = cc in
    let rests : s.0 ≡ rest = cc in
    h e (one_kind (kind_of e) k names) (subst (Numbers (numbers_of e)) rests s.2)

-- after a name, an entry of its kind is spelt where its numbers follow, and else numbers are lacking
pub spelt_by : (k : Kind) (ps rest : List (List ℕ)) (o : Option Entry) (r : Result Entry Expected) → ps ≡ name_of k ∷ rest → MatchOption o (NoNumbers k rest) (λ e. (kind_of e ≡ k) × Numbers (numbers_of e) rest) → r ≡ ok_or o (expected.Numbers k) → MatchResult r (λ e. Spells ps e) (λ x. Lacks ps x)
spelt_by k ps rest None r p h e = rw e ((rest, p), not_spelt k ps rest p h)
spelt_by k ps rest (Some f) r p h e = rw e (rest, p ∙ ap (λ j. name_of j ∷ rest) (sym h.0), h.1)
