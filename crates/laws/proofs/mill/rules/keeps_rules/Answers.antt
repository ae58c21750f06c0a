-- Each test decides a rule.
use Rattle.std.proofs.Common.{◌≡◌, true, false, ◌&&◌, get_or, length, arith, rules, pos}
use Rattle.std.proofs.lemmas.Bool.Decides.{nat_tests}
use Rattle.std.proofs.lemmas.List.Sorted.{answers_always}
use Rattle.std.specs.Prelude.{nat_le}
use Rattle.laws.specs.declared.mill.reading.Reading.{Reading}
use Rattle.laws.specs.Rules.{rises, is_origin}
use Rattle.laws.proofs.Reading.{ruled_is, not_from_origin}
use Rattle.laws.proofs.mill.rules.keeps_rules.Goals as goal
use Rattle.laws.proofs.mill.rules.keeps_rules.Goals.{then-contains, else-contains, then-eq, else-eq}

abbrev none : Reading
none = record { ratio = pos 0; stress = pos 0 }

pub returns-then-is_sorted_by : goal.returns-then-is_sorted_by
returns-then-is_sorted_by c = elim c.if-eq.branch [
  | then-eq w ↦ elim c.if-contains.branch [
    | then-contains v ↦
        let rs = c.args.readings.now in
        let few : (nat_le 2 (length rs) && nat_le (length rs) 8) ≡ true = grind (arith, nat_tests) in
        let origin : is_origin (get_or rs 0 none) ≡ true = cc in
        let sorted : w.is_sorted_by.result ≡ true = cc in
        rw (ruled_is rs none w.is_sorted_by.result (w.is_sorted_by.ensures.cases rises (answers_always _ _ _ (λ f a r g h. search rules))), few, origin, sorted) c.in_limits.ensures
    | else-contains v ↦ absurd (cc)
  ]
  | else-eq w ↦ absurd (cc)
]

pub returns-else-is_sorted_by : goal.returns-else-is_sorted_by
returns-else-is_sorted_by c = elim c.if-eq.branch [
  | then-eq w ↦ elim c.if-contains.branch [
    | then-contains v ↦
        let rs = c.args.readings.now in
        let few : (nat_le 2 (length rs) && nat_le (length rs) 8) ≡ true = grind (arith, nat_tests) in
        let origin : is_origin (get_or rs 0 none) ≡ true = cc in
        let sorted : w.is_sorted_by.result ≡ false = cc in
        rw (ruled_is rs none w.is_sorted_by.result (w.is_sorted_by.ensures.cases rises (answers_always _ _ _ (λ f a r g h. search rules))), few, origin, sorted) c.if-is_sorted_by.false
    | else-contains v ↦ absurd (cc)
  ]
  | else-eq w ↦ elim c.if-contains.branch [
    | then-contains v ↦
        let origin : is_origin (get_or c.args.readings.now 0 none) ≡ false = cc in
        rw (not_from_origin c.args.readings.now none origin) c.if-is_sorted_by.false
    | else-contains v ↦
        let few : (nat_le 2 (length c.args.readings.now) && nat_le (length c.args.readings.now) 8) ≡ false = grind (arith, nat_tests) in
        rw few c.if-is_sorted_by.false
  ]
]
