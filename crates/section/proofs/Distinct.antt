-- No two bars of the table have one number, and each number is small.
use Rattle.std.proofs.Common.{◌≡◌, ℕ, ◌^◌, ◌<◌, true, false, eqb, ltb, ℤ, rules, refl, arith}
use borrow.Author.Differences.{ints}
use Rattle.std.specs.List.{IsDistinct, list_all}
use Rattle.std.proofs.lemmas.Bool.Decides.{nat_tests}
use Rattle.std.proofs.lemmas.List.Sums.{AllPass-from_list_all}
use Rattle.std.proofs.lemmas.Map.Keys.{apart_from_distinct}
use Rattle.section.specs.declared.bars.Bar.{Bar}
use Rattle.section.specs.Bars.{bars, bar_at, rows, Numbered}

-- both by computing
distinct : IsDistinct (λ (a b : Bar). eqb a.number b.number) bars
unfolding IsDistinct
distinct = search rules

small : list_all (λ (b : Bar). ltb b.number (2 ^ 8)) bars ≡ true
small = refl

-- a bar's number is small
pub small_number : (i : ℕ) → i < rows → (bar_at i).number < 2 ^ 8
unfolding bar_at
small_number i h =
    let below : ltb (bar_at i).number (2 ^ 8) ≡ true = AllPass-from_list_all (λ (b : Bar). ltb b.number (2 ^ 8)) bars small i _ h in
    grind (arith, nat_tests)

no_later : (z : ℤ) (i j : ℕ) → Numbered z i → Numbered z j → i < j → ⊥
unfolding bar_at
no_later z i j h g l =
    let apart : eqb (bar_at i).number (bar_at j).number ≡ false = apart_from_distinct _ bars i j _ distinct l g.0 in
    grind (arith, nat_tests, ints)

pub one_position : (z : ℤ) (i j : ℕ) → Numbered z i → Numbered z j → i ≡ j
one_position z i j h g = omega (arith, no_later z i j h g, no_later z j i g h)
