-- The strengths of concrete and steel.
use Rattle.std.specs.Prelude.{◌≡◌, ℕ, ◌-◌, ◌*◌, ◌/◌, ◌%◌, ◌≤◌, max}

-- a multiple of 100 psi from lo to hi
abbrev pub Graded : ℕ → ℕ → ℕ → Type 0
Graded lo hi psi = (lo ≤ psi) × (psi ≤ hi) × (psi % 100 ≡ 0)

-- a strength f'c of concrete
abbrev pub ConcreteGrade : ℕ → Type 0
ConcreteGrade = Graded 3000 10000

-- a yield strength fy of steel
abbrev pub YieldGrade : ℕ → Type 0
YieldGrade = Graded 40000 75000

-- 0.85 f'c, a whole number of psi for a grade of concrete
abbrev pub peak_psi : ℕ → ℕ
peak_psi fc = 85 * fc / 100

-- β in thousandths: 850 up to 4,000 psi, then 5 less for each further 100 psi, and never under 650
abbrev pub beta : ℕ → ℕ
beta fc = max 650 (850 - 5 * ((fc - 4000) / 100))
