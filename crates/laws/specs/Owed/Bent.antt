-- A mill curve in compression rises from 0 to its last stress, point by point.
use Rattle.std.specs.Prelude.{◌≡◌, ℕ, ◌<◌, ◌≤◌, true, List, [], ◌∷◌, map, pos}
use Rattle.std.proofs.Common.{arith, subst}
use Rattle.std.proofs.lemmas.Int.{ints}
use Rattle.std.proofs.lemmas.Bool.Decides.{nat_tests}
use Rattle.exact.specs.Fractions.{Fraction, whole, over, Crossed≤, ◌≤F◌}
use Rattle.exact.proofs.Order.{≤_refl, ≤_trans, <_weak, whole_≤, by_fraction_le, rising_past}
use Rattle.laws.specs.declared.mill.point.Point.{Point}
use Rattle.laws.specs.Curves.{at, line, beyond, curve, last, last_stress}
use Rattle.laws.specs.Meaning.{farthest, greatest_ratio}
use Rattle.laws.specs.declared.mill.reading.Reading.{Reading}
use Rattle.laws.specs.Rules.{reading, rises, in_limits, climbs, ruled}
use Rattle.laws.specs.Owed.Straight.{Leads, leads, line_mono, line_from, line_to}

-- what the rules say of the first point, and of the rest
pub record First (p : Point) (ps : List Point) : Type 0 where
  pub ratio : p.ratio ≡ 0
  pub stress : p.stress ≡ 0
  pub rest : climbs (reading p) (map reading ps) ≡ true

pub first : (p : Point) (ps : List Point) → ruled (map reading (p ∷ ps)) ≡ true → First p ps
first p ps h = record { ratio = grind (arith, ints, nat_tests); stress = grind (arith, ints, nat_tests); rest = grind (arith, ints, nat_tests) }

-- and of two that follow one another
pub record Climbs (a b : Point) (ps : List Point) : Type 0 where
  pub rise : rises (reading a) (reading b) ≡ true
  pub rest : climbs (reading b) (map reading ps) ≡ true

pub climbs_more : (a b : Point) (ps : List Point) → climbs (reading a) (map reading (b ∷ ps)) ≡ true → Climbs a b ps
climbs_more a b ps h = record { rise = grind (arith, ints, nat_tests); rest = grind (arith, ints, nat_tests) }

-- how far a climb goes
record Reach (a : Point) (ps : List Point) : Type 0 where
  ratio : a.ratio ≤ greatest_ratio
  from : a.stress ≤ last a ps
  to : last a ps ≤ farthest

reach : (a : Point) (ps : List Point) → climbs (reading a) (map reading ps) ≡ true → Reach a ps
reach a [] h = record { ratio = grind (arith, ints, nat_tests); from = omega arith; to = grind (arith, ints, nat_tests) }
reach a (b ∷ ps) h =
    let c = climbs_more a b ps h in
    let i = reach b ps c.rest in
    let r : a.ratio < b.ratio = grind (arith, ints, nat_tests) in
    let s : a.stress ≤ b.stress = grind (arith, ints, nat_tests) in
    record { ratio = omega arith; from = omega arith; to = i.to }

-- what climbs is in its limits
pub limited : (a : Reading) (rs : List Reading) → climbs a rs ≡ true → in_limits a ≡ true
limited a [] h = h
limited a (b ∷ rs) h = let l = limited b rs (grind (arith, nat_tests)) in grind (arith, ints, nat_tests)

next : (a b : Point) (ps : List Point) → climbs (reading a) (map reading (b ∷ ps)) ≡ true → Leads a b
next a b ps h = let c = climbs_more a b ps h in leads a b c.rise (limited (reading b) (map reading ps) c.rest)

beyond_from : (a : Point) (ps : List Point) → climbs (reading a) (map reading ps) ≡ true → (q : Fraction) → at a ≤F q → whole (pos a.stress) ≤F beyond a ps q
beyond_from a [] h q l = ≤_refl
beyond_from a (b ∷ ps) h q l =
    let d = next a b ps h in
    by_fraction_le (λ (v : Fraction). whole (pos a.stress) ≤F v) q (at b)
    (λ x. line_from a b d l)
    (λ x. ≤_trans (whole_≤ (let s = d.stress in omega (arith, ints))) (beyond_from b ps (climbs_more a b ps h).rest q (<_weak x)))

beyond_to : (a : Point) (ps : List Point) → climbs (reading a) (map reading ps) ≡ true → (q : Fraction) → beyond a ps q ≤F whole (pos (last a ps))
beyond_to a [] h q = ≤_refl
beyond_to a (b ∷ ps) h q =
    let r = (climbs_more a b ps h).rest in
    by_fraction_le (λ (v : Fraction). v ≤F whole (pos (last b ps))) q (at b)
    (λ x. ≤_trans (line_to a b (next a b ps h) x) (whole_≤ (let s = (reach b ps r).from in omega (arith, ints))))
    (λ x. beyond_to b ps r q)

beyond_mono : (a : Point) (ps : List Point) → climbs (reading a) (map reading ps) ≡ true → (p q : Fraction) → p ≤F q → beyond a ps p ≤F beyond a ps q
beyond_mono a [] h p q l = ≤_refl
beyond_mono a (b ∷ ps) h p q l =
    let d = next a b ps h in
    let r = (climbs_more a b ps h).rest in
    rising_past (line a b) (beyond b ps) l
    (λ x. line_mono a b d l)
    (λ x. beyond_mono b ps r p q l)
    (λ x y. ≤_trans (line_to a b d x) (beyond_from b ps r q (<_weak y)))

-- the whole curve
pub curve_mono : (ps : List Point) → ruled (map reading ps) ≡ true → (p q : Fraction) → p ≤F q → curve ps p ≤F curve ps q
curve_mono [] h p q l = ≤_refl
curve_mono (a ∷ ps) h p q l = beyond_mono a ps (first a ps h).rest p q l

pub curve_from : (ps : List Point) → ruled (map reading ps) ≡ true → (q : Fraction) → whole (pos 0) ≤F q → whole (pos 0) ≤F curve ps q
unfolding Crossed≤
curve_from [] h q l = ≤_refl
curve_from (p ∷ ps) h q l =
    let f = first p ps h in
    subst (λ (n : ℕ). whole (pos n) ≤F beyond p ps q) f.stress (beyond_from p ps f.rest q (≤_trans (start p.ratio f.ratio) l)) where
      start : (r : ℕ) → r ≡ 0 → over (pos r) (pos 1000) ≤F whole (pos 0)
      start r e = record { cross = omega (arith, ints) }

pub curve_to : (ps : List Point) → ruled (map reading ps) ≡ true → (q : Fraction) → curve ps q ≤F whole (pos (last_stress ps))
curve_to [] h q = ≤_refl
curve_to (p ∷ ps) h q = beyond_to p ps (first p ps h).rest q

pub last_small : (ps : List Point) → ruled (map reading ps) ≡ true → last_stress ps ≤ farthest
last_small [] h = omega arith
last_small (p ∷ ps) h = (reach p ps (first p ps h).rest).to
