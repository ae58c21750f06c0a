-- The numbers of refusals, and how a refusal is told.
use Rattle.std.specs.Prelude.{ℕ, List, ◌++◌, codes, decimal}
use Rattle.words.specs.declared.fault.Fault.{Fault}
use Rattle.words.specs.declared.fault.Fault.TheVariants.{Unreadable, Unwritable, Unfinished}

-- the number by which each fault is told
abbrev pub refusal : Fault → ℕ
refusal Unreadable = 13
refusal Unwritable = 13
refusal Unfinished = 15

-- a refusal in words and figures
abbrev pub refused_text : Fault → List ℕ
refused_text fault = codes "refused " ++ decimal (refusal fault)
