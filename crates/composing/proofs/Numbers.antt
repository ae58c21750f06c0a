-- A line is read number by number: those so far, then the others, are its numbers, and none else are.
use Rattle.std.proofs.Common.{◌≡◌, ℕ, zero, suc, ◌+◌, ◌<◌, ◌≤◌, List, [], ◌∷◌, ◌++◌, length, get_or, take, drop, ℤ, pos, refl, ap, ◌∙◌, subst, add-one, arith}
use Rattle.std.proofs.Math.ListN.{set, length-set}
use Rattle.std.proofs.lemmas.List.{append-nil, take_all}
use Rattle.words.specs.Lines.{Labelled, labelled}
use Rattle.composing.specs.Spelling.{NumberFirst, Numbers, labelled_all}
use Rattle.composing.proofs.Spelt.{numbers_after}

pub record ReadSoFar (n : ℕ) (labels ps rest : List (List ℕ)) (zs : List ℤ) (i : ℕ) : Type 0 where
  pub sized : length zs ≡ n
  pub made : (ns : List Labelled) → Numbers ns rest → Numbers (labelled_all (take i labels) (take i zs) ++ ns) ps
  pub only : (ys : List ℤ) → length ys ≡ n → Numbers (labelled_all labels ys) ps → Numbers (labelled_all (drop i labels) (drop i ys)) rest

-- what comes at the place i
labelled_rest : (labels : List (List ℕ)) (ys : List ℤ) (i : ℕ) → i < length labels → i < length ys → labelled_all (drop i labels) (drop i ys) ≡ labelled (get_or labels i []) (get_or ys i (pos 0)) ∷ labelled_all (drop (suc i) labels) (drop (suc i) ys)
labelled_rest [] ys i l m = absurd (omega arith)
labelled_rest (a ∷ labels) [] i l m = absurd (omega arith)
labelled_rest (a ∷ labels) (y ∷ ys) zero l m = refl
labelled_rest (a ∷ labels) (y ∷ ys) (suc i) l m = labelled_rest labels ys i (omega arith) (omega arith)

labelled_more : (labels : List (List ℕ)) (zs : List ℤ) (i : ℕ) (z : ℤ) (ns : List Labelled) → i < length labels → i < length zs → labelled_all (take (suc i) labels) (take (suc i) (set zs i z)) ++ ns ≡ labelled_all (take i labels) (take i zs) ++ (labelled (get_or labels i []) z ∷ ns)
labelled_more [] zs i z ns l m = absurd (omega arith)
labelled_more (a ∷ labels) [] i z ns l m = absurd (omega arith)
labelled_more (a ∷ labels) (y ∷ zs) zero z ns l m = refl
labelled_more (a ∷ labels) (y ∷ zs) (suc i) z ns l m = ap (λ ms. labelled a y ∷ ms) (labelled_more labels zs i z ns (omega arith) (omega arith))

-- one number more
pub read_more : (n : ℕ) (labels ps rest more : List (List ℕ)) (zs : List ℤ) (i : ℕ) (label : List ℕ) (z : ℤ) → i < length labels → length labels ≡ n → get_or labels i [] ≡ label → ReadSoFar n labels ps rest zs i → NumberFirst label rest z more → ReadSoFar n labels ps more (set zs i z) (i + 1)
read_more n labels ps rest more zs i label z l e same h f =
    let s = h.sized in
    record {
      sized = length-set zs i z ∙ s;
      made = λ ns k. rw (add-one, labelled_more labels zs i z ns l (omega arith), same) (h.made (labelled label z ∷ ns) (more, f, k));
      only = λ ys m k. rw add-one (numbers_after label rest more z _ _ f (rw (labelled_rest labels ys i l (omega arith), same) at (h.only ys m k)));
    }

-- where no number comes next, the line has not as many
pub none_next : (n : ℕ) (labels ps rest : List (List ℕ)) (zs : List ℤ) (i : ℕ) (label : List ℕ) → i < length labels → length labels ≡ n → get_or labels i [] ≡ label → ReadSoFar n labels ps rest zs i → ((z : ℤ) (more : List (List ℕ)) → NumberFirst label rest z more → ⊥) → (ys : List ℤ) → length ys ≡ n → Numbers (labelled_all labels ys) ps → ⊥
none_next n labels ps rest zs i label l e same h none ys m k =
    let next = rw (labelled_rest labels ys i l (omega arith), same) at (h.only ys m k) in
    none _ next.0 next.1

pub read_all : (n : ℕ) (labels ps rest : List (List ℕ)) (zs : List ℤ) (i : ℕ) → n ≤ i → length labels ≡ n → ReadSoFar n labels ps rest zs i → rest ≡ [] → Numbers (labelled_all labels zs) ps
read_all n labels ps rest zs i l e h z =
    let sized = h.sized in
    let every_label : take i labels ≡ labels = take_all i labels (omega arith) in
    let every_number : take i zs ≡ zs = take_all i zs (omega arith) in
    subst (λ ns. Numbers ns ps) (append-nil _ ∙ ap (λ ls. labelled_all ls (take i zs)) every_label ∙ ap (labelled_all labels) every_number) (h.made [] z)

-- three numbers, one by one
pub three_numbers : (labels ps : List (List ℕ)) (zs : List ℤ) → length zs ≡ 3 → Numbers (labelled_all labels zs) ps → Numbers (labelled_all labels (get_or zs 0 (pos 0) ∷ get_or zs 1 (pos 0) ∷ get_or zs 2 (pos 0) ∷ [])) ps
three_numbers labels ps (x ∷ y ∷ z ∷ []) l h = h
three_numbers labels ps [] l h = absurd (omega arith)
three_numbers labels ps (x ∷ []) l h = absurd (omega arith)
three_numbers labels ps (x ∷ y ∷ []) l h = absurd (omega arith)
three_numbers labels ps (x ∷ y ∷ z ∷ w ∷ zs) l h = absurd (omega arith)
