-- The first bar with the number has it, and where there is no first one there is none.
use Rattle.std.proofs.Common.{◌≡◌, ℕ, ◌<◌, length, Option, Some, None, ℤ, pos, rules, arith, MatchOption}
use Rattle.std.specs.List.{AllWithin, HoldsAt}
use Rattle.std.proofs.lemmas.Iterator.{YieldsList-from_slice, IsFirst-from_position}
use Rattle.section.specs.declared.bars.Bar.{Bar}
use Rattle.section.specs.Bars.{bars, bar_at, Numbered}
use Rattle.section.proofs.bars.position_of.Goals as goal

-- a bar with the number z, and one without
abbrev With : ℤ → Bar → Type 0
With z b = z ≡ pos b.number

abbrev Without : ℤ → Bar → Type 0
Without z b = With z b → ⊥

first_numbered : (z : ℤ) (r : Option ℕ) → MatchOption r (AllWithin (Without z) bars 0 (length bars)) (λ i. (i < length bars) × HoldsAt (With z) bars i × AllWithin (Without z) bars 0 i) → MatchOption r ((i : ℕ) → Numbered z i → ⊥) (λ i. Numbered z i)
unfolding bar_at
first_numbered z None none = λ i n. none i _ (omega arith) n.0 n.1
first_numbered z (Some i) first = (first.0, first.1 _)

pub returns : goal.returns
returns c =
    first_numbered c.args.number c.position.result
    (IsFirst-from_position _ _ c.position.result (With c.args.number) (Without c.args.number) c.position.ensures.ran (YieldsList-from_slice bars (search rules)) (λ x q w. search rules) (λ x q w. search rules))
