-- Readings that keep the rules are those of points, and sorted readings climb.
use Rattle.std.proofs.Common.{◌≡◌, ℕ, zero, suc, ◌+◌, ◌-◌, ◌<◌, Bool, true, false, ◌&&◌, List, [], ◌∷◌, length, get_or, ℤ, pos, negsuc, nat_abs, ◌≤ℤ◌, sym, refl, arith}
use native.Mathlib.Numerals.{unary_clauses}
use borrow.Author.Differences.{ints}
use Rattle.std.proofs.Math.Bool.{and-false}
use Rattle.std.proofs.lemmas.Bool.Decides.{nat_tests}
use Rattle.std.specs.Prelude.{nat_le}
use Rattle.std.specs.List.{IsAllAdjacentAnswer}
use Rattle.laws.specs.declared.mill.point.Point.{Point}
use Rattle.laws.specs.declared.mill.reading.Reading.{Reading}
use Rattle.laws.specs.Rules.{reading, is_origin, rises, in_limits, climbs, ruled}
use Rattle.laws.specs.Owed.Bent.{limited}

-- a whole number without a sign
natural : (z : ℤ) → pos 0 ≤ℤ z → z ≡ pos (nat_abs z)
natural (pos n) h = refl
natural (negsuc n) h = absurd (omega (arith, ints))

-- r is read of a point, and in its limits
abbrev pub IsRead : Reading → Type 0
IsRead r = (p : Point) × (r ≡ reading p) × (in_limits r ≡ true)

-- so is one that is neither negative nor past a limit
read : (r : Reading) → pos 0 ≤ℤ r.ratio → pos 0 ≤ℤ r.stress → in_limits r ≡ true → IsRead r
read r h g l = (record { ratio = nat_abs r.ratio; stress = nat_abs r.stress }, same (natural r.ratio h) (natural r.stress g), l) where
  same : {x y u v : ℤ} → x ≡ u → y ≡ v → ◌≡◌ {A = Reading} (record { ratio = x; stress = y }) (record { ratio = u; stress = v })
  same e f = cc

climbing : (a : Reading) (rs : List Reading) → pos 0 ≤ℤ a.ratio → pos 0 ≤ℤ a.stress → climbs a rs ≡ true → (i : ℕ) (d : Reading) → i < length rs + 1 → IsRead (get_or (a ∷ rs) i d)
climbing a rs h g k zero d l = read a h g (limited a rs k)
climbing a [] h g k (suc i) d l = absurd (omega arith)
climbing a (b ∷ rs) h g k (suc i) d l =
    let r : pos 0 ≤ℤ b.ratio = grind (arith, ints, nat_tests) in
    let s : pos 0 ≤ℤ b.stress = grind (arith, ints, nat_tests) in
    climbing b rs r s (grind (arith, ints, nat_tests)) i d (omega arith)

pub each_read : (rs : List Reading) → ruled rs ≡ true → (i : ℕ) (d : Reading) → i < length rs → IsRead (get_or rs i d)
each_read [] h i d l = absurd (omega arith)
each_read (a ∷ rs) h i d l =
    let r : pos 0 ≤ℤ a.ratio = grind (arith, ints, nat_tests) in
    let s : pos 0 ≤ℤ a.stress = grind (arith, ints, nat_tests) in
    climbing a rs r s (grind (arith, ints, nat_tests)) i d (omega arith)

-- each rises to the next, or one does not
abbrev pub Sorted : List Reading → Bool → Type 0
Sorted rs b = IsAllAdjacentAnswer (λ x y t. t ≡ rises x y) rs b

-- which decides with the last one whether they climb
climbs_is : (a : Reading) (rs : List Reading) (d : Reading) (b : Bool) → Sorted (a ∷ rs) b → climbs a rs ≡ (b && in_limits (get_or (a ∷ rs) (length rs) d))
climbs_is a [] d true h = refl
climbs_is a [] d false h = absurd (let l = h.1 in omega arith)
climbs_is a (b ∷ rs) d true h =
    let e = h 0 d (omega arith) in
    rw (sym e) (climbs_is b rs d true (λ k d l. simp unary_clauses (simp unary_clauses at (h (suc k) d (omega arith)))))
climbs_is a (b ∷ rs) d false h = unsorted h.0 h.1 h.2 (λ k l e. climbs_is b rs d false (k, l, e)) where
  unsorted : (k : ℕ) → k + 1 < length (a ∷ b ∷ rs) → ((d : Reading) → false ≡ rises (get_or (a ∷ b ∷ rs) k d) (get_or (a ∷ b ∷ rs) (k + 1) d)) → ((k : ℕ) → k + 1 < length (b ∷ rs) → ((d : Reading) → false ≡ rises (get_or (b ∷ rs) k d) (get_or (b ∷ rs) (k + 1) d)) → climbs b rs ≡ false) → (rises a b && climbs b rs) ≡ false
  unsorted zero l e more = rw (sym (e d)) refl
  unsorted (suc k) l e more = rw (more k (omega arith) (λ d. simp unary_clauses (simp unary_clauses at (e d)))) (and-false (rises a b))

pub ruled_is : (rs : List Reading) (d : Reading) (b : Bool) → Sorted rs b → ruled rs ≡ ((nat_le 2 (length rs) && nat_le (length rs) 8) && (is_origin (get_or rs 0 d) && (b && in_limits (get_or rs (length rs - 1) d))))
ruled_is [] d b h = refl
ruled_is (a ∷ rs) d b h = rw (climbs_is a rs d b h) (simp unary_clauses)

pub not_from_origin : (rs : List Reading) (d : Reading) → is_origin (get_or rs 0 d) ≡ false → ruled rs ≡ false
not_from_origin [] d h = refl
not_from_origin (a ∷ rs) d h = rw h (and-false _)
