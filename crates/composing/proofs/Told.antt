-- The numbers of the bars are told one after another.
use Rattle.std.proofs.Common.{◌≡◌, ℕ, ◌+◌, ◌<◌, List, [], ◌∷◌, ◌++◌, length, get_or, take, decimal, sym, ap, ◌∙◌}
use Rattle.std.proofs.lemmas.List.{append_assoc, append-nil, take_more}
use Rattle.section.specs.declared.bars.Bar.{Bar}
use Rattle.composing.specs.Messages.{bar_numbers}

numbers_push : (bs : List Bar) (b : Bar) → bar_numbers (bs ++ b ∷ []) ≡ bar_numbers bs ++ (32 ∷ decimal b.number)
numbers_push [] b = ap (λ l. 32 ∷ l) (append-nil (decimal b.number))
numbers_push (c ∷ bs) b =
    ap (λ l. 32 ∷ (decimal c.number ++ l)) (numbers_push bs b) ∙ ap (λ l. 32 ∷ l) (sym (append_assoc (decimal c.number) (bar_numbers bs) (32 ∷ decimal b.number)))

-- the table as it is read, at the row i
pub numbers_more : (bs table : List Bar) (i : ℕ) (d : Bar) → table ≡ bs → i < length table → bar_numbers (take i bs) ++ (32 ∷ decimal (get_or table i d).number) ≡ bar_numbers (take (i + 1) bs)
numbers_more bs table i d e l =
    ap (λ cs. bar_numbers (take i cs) ++ (32 ∷ decimal (get_or table i d).number)) (sym e) ∙ sym (numbers_push (take i table) (get_or table i d)) ∙ ap bar_numbers (sym (take_more table i d l)) ∙ ap (λ cs. bar_numbers (take (i + 1) cs)) e
