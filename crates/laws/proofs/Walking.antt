-- A walk along the points of a mill curve: what is left of it is the rest of the curve.
use Rattle.std.proofs.Common.{◌≡◌, ℕ, ◌+◌, ◌*◌, ◌<◌, ◌≤◌, true, List, ◌∷◌, map, length, get_or, drop, pos, subst}
use Rattle.std.proofs.lemmas.List.{drop_more, drop_all}
use Rattle.exact.specs.declared.bounds.Bounds.{Bounds}
use Rattle.exact.specs.Fractions.{Fraction, whole, over}
use Rattle.exact.specs.Rounding.{Rounded}
use Rattle.laws.specs.declared.mill.point.Point.{Point}
use Rattle.laws.specs.Curves.{beyond, curve}
use Rattle.laws.specs.Meaning.{in_steps}
use Rattle.laws.specs.Rules.{reading, climbs}
use Rattle.laws.specs.Owed.Bent.{climbs_more, limited}
use Rattle.laws.specs.Owed.Straight.{Leads, leads}

-- from `last` on, past which the ratio n / m is, the rest is the curve's
pub record Ahead (ps : List Point) (n m : ℕ) (last : Point) (rest : List Point) : Type 0 where
  pub curve : beyond last rest (over (pos n) (pos m)) ≡ curve ps (over (pos n) (pos m))
  pub rules : climbs (reading last) (map reading rest) ≡ true
  pub past : last.ratio * m ≤ n * 1000

-- at the place i of the points qs that are left, a being the point before
module _ (n m : ℕ) (ps qs : List Point) (a : Point) (i : ℕ) (w : Ahead ps n m a (drop i qs)) where
  abbrev ratio : Fraction
  ratio = over (pos n) (pos m)

  module _ (d : Point) (h : i < length qs) where
    abbrev b : Point
    b = get_or qs i d

    pub here : Ahead ps n m a (b ∷ drop (i + 1) qs)
    here = subst (Ahead ps n m a) (drop_more qs i d h) w

    pub ahead_leads : Leads a b
    ahead_leads =
        let c = climbs_more a b (drop (i + 1) qs) here.rules in
        leads a b c.rise (limited (reading b) (map reading (drop (i + 1) qs)) c.rest)

  pub ahead_end : {r : Bounds} → length qs ≤ i → Rounded (in_steps (whole (pos a.stress))) r → Rounded (in_steps (curve ps ratio)) r
  ahead_end {r} h e =
      let v = subst (Ahead ps n m a) (drop_all i qs h) w in
      subst (λ (u : Fraction). Rounded (in_steps u) r) v.curve e
