-- What a material law means, and what it answers.
use Rattle.std.specs.Prelude.{◌≡◌, ℕ, ◌*◌, ℤ, pos, neg_ℤ, ◌≤ℤ◌, Ok, Err, Result}
use Rattle.exact.specs.declared.bounds.Bounds.{Bounds}
use Rattle.exact.specs.Fractions.{Fraction, whole, over, ◌≤F◌, ◌*F◌}
use Rattle.exact.specs.Rounding.{Rounded}
use Rattle.laws.specs.declared.fault.Fault.{Fault}
use Rattle.laws.specs.Faults.{refusal}

-- A law answers in steps of stress: so many of them are a psi.
unfoldable pub steps : ℕ
steps = 1

-- a stress in psi, counted in steps
abbrev pub in_steps : Fraction → Fraction
in_steps q = whole (pos steps) *F q

-- the stresses of a law are from minus so many psi to as many
abbrev pub farthest : ℕ
farthest = 100000

-- and those of a concrete law at most so many
abbrev pub strongest : ℕ
strongest = 10000

-- no point of a mill curve has a greater ratio, in thousandths
abbrev pub greatest_ratio : ℕ
greatest_ratio = 100000

-- A strain ratio is the strain over the crushing strain 0.003, compression positive; it is at most 1. f gives the exact
-- stress in psi at each ratio. It is a law where it never falls as the ratio grows, and stays from a least to a most:
-- whole numbers of steps, the least from -100,000 psi to 0, the most from 0 to 100,000 psi.
pub record Means (f : Fraction → Fraction) (least most : ℤ) : Type 0 where
  pub rises : {p q : Fraction} → q ≤F whole (pos 1) → p ≤F q → f p ≤F f q
  pub from : {p : Fraction} → p ≤F whole (pos 1) → whole least ≤F in_steps (f p)
  pub to : {p : Fraction} → p ≤F whole (pos 1) → in_steps (f p) ≤F whole most
  pub least_from : neg_ℤ (pos (steps * farthest)) ≤ℤ least
  pub least_to : least ≤ℤ pos 0
  pub most_from : pos 0 ≤ℤ most
  pub most_to : most ≤ℤ pos (steps * farthest)

-- the greatest neutral axis depth in ticks, which are hundredths of an inch
abbrev pub greatest_axis : ℕ
greatest_axis = 120000

-- the greatest depth of a section, in ticks
abbrev pub greatest_depth : ℕ
greatest_depth = 12000

-- n / m is a ratio that a law answers for
pub record Answerable (n m : ℤ) : Type 0 where
  pub from : pos 1 ≤ℤ m
  pub to : m ≤ℤ pos greatest_axis
  pub low : neg_ℤ (pos greatest_depth) ≤ℤ n
  pub high : n ≤ℤ m

-- the answer at n / m of a law with the stress f: its floor and its ceiling in steps, or a refusal
abbrev pub Answers : (Fraction → Fraction) → ℤ → ℤ → Result Bounds Fault → Type 0
Answers f n m (Ok a) = Answerable n m × Rounded (in_steps (f (over n m))) a
Answers f n m (Err e) = (Answerable n m → ⊥) × (refusal e ≡ 3)

-- Inner functions take stresses from minus so many psi to as many: counted in steps, they fit 64 bits.
abbrev pub countable : ℕ
countable = 100000000000000000
