-- The numbers of refusals, and how they are told.
use Rattle.std.specs.Prelude.{ℕ, List, ◌++◌, codes, decimal}
use Rattle.laws.specs.declared.fault.Fault.{Fault}
use Rattle.laws.specs.declared.fault.Fault.TheVariants.{Strength, Points, Ratio}

-- the number by which each fault is told
abbrev pub refusal : Fault → ℕ
refusal Strength = 1
refusal Points = 2
refusal Ratio = 3

-- a refusal in bytes: its number
abbrev pub refused_text : Fault → List ℕ
refused_text e = codes "refused " ++ decimal (refusal e)
