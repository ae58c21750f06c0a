-- What a law answers at a ratio is the floor and the ceiling of its stress, which are computed at literals.
use Rattle.std.proofs.Common.{◌≡◌, Bool, T, ℤ, pos, ◌+ℤ◌, ◌-ℤ◌, ◌*ℤ◌, neg_ℤ, Ok, Err, Result, ap, subst}
use Rattle.std.specs.Int.Signed.{le_z, lt_z, le_z_yes, lt_z_yes}
use Rattle.exact.specs.declared.bounds.Bounds.{Bounds}
use Rattle.exact.specs.Fractions.{Fraction, Crossed≤, Crossed<, whole, over, fraction_le}
use Rattle.exact.specs.Rounding.{Rounded}
use Rattle.exact.proofs.Rounding.{rounded_one}
use Rattle.laws.specs.declared.fault.Fault.{Fault}
use Rattle.laws.specs.Meaning.{Answerable, Answers, greatest_axis, greatest_depth, in_steps}
use Rattle.figures.specs.Figures.{Gives}

-- the tests that n / m is a ratio that a law answers for
abbrev pub InRange : ℤ → ℤ → Type 0
InRange n m = T (le_z (pos 1) m) × T (le_z m (pos greatest_axis)) × T (le_z (neg_ℤ (pos greatest_depth)) n) × T (le_z n m)

-- whether p is less than q
abbrev less : Fraction → Fraction → Bool
less p q = lt_z (p.num *ℤ pos q.den) (q.num *ℤ pos p.den)

-- the tests that r has the floor of q and its ceiling
abbrev pub Tested : Fraction → Bounds → Type 0
Tested q r = T (fraction_le (whole r.floor) q) × T (less q (whole (r.floor +ℤ pos 1))) × T (fraction_le q (whole r.ceiling)) × T (less (whole (r.ceiling -ℤ pos 1)) q)

in_range : {n m : ℤ} → InRange n m → Answerable n m
in_range t = record { from = le_z_yes t.0; to = le_z_yes t.1; low = le_z_yes t.2; high = le_z_yes t.3 }

rounded : {q : Fraction} {r : Bounds} → Tested q r → Rounded q r
unfolding Crossed≤ Crossed<
rounded t = record {
  floor = record { reached = record { cross = le_z_yes t.0 }; next = record { cross = lt_z_yes t.1 } };
  ceiling = record { reached = record { cross = le_z_yes t.2 }; before = record { cross = lt_z_yes t.3 } };
}

-- so nothing else is answered there
pub answered : (f : Fraction → Fraction) (n m : ℤ) (a : Bounds) (r : Result Bounds Fault) → Answers f n m r → InRange n m → Tested (in_steps (f (over n m))) a → r ≡ Ok a
answered f n m a (Ok b) h t u = ap (λ (x : Bounds). Ok x) (rounded_one h.1 (rounded u))
answered f n m a (Err e) h t u = absurd (h.0 (in_range t))

-- the law that was made is that of `of`, and it answered b
pub figure : {K : Type 0} (stress : K → Fraction → Fraction) {made of : K} {n m : ℤ} {a b : Bounds} {r : Result Bounds Fault} → Gives (stress of) n m a → Answers (stress made) n m r → made ≡ of → r ≡ Ok b → b ≡ a
figure stress {made} {of} {n} {m} {a} {b} {r} g h e f = let i = g r (subst (λ k. Answers (stress k) n m r) e h) in cc
