-- A line asks one question at most: its numbers end where no figures follow, and `at` is none.
use Rattle.std.proofs.Common.{◌≡◌, ℕ, List, [], ◌∷◌, ◌++◌, ℤ, Some, None, codes, Option, sym, refl, ap, ◌∙◌, arith, MatchOption}
use Rattle.std.proofs.lemmas.List.{append_assoc}
use Rattle.text.specs.Figures.{Figures, NoNumberFirst, NumberFirst}
use Rattle.text.proofs.Readings.{one_number}
use Rattle.questions.specs.declared.law.Law.{Law}
use Rattle.questions.specs.Questions.{Asks, AsksNothing, At, Leading, Takes, Two, Written, name_of}

pub leading_none : (ps : List (List ℕ)) (zs : List ℤ) → zs ≡ [] → Leading ps zs ps
leading_none ps zs e = record { figures = []; cut = refl; written = rw e tt }

written_push : (ps : List (List ℕ)) (zs : List ℤ) (p : List ℕ) (z : ℤ) → Written ps zs → Figures p z → Written (ps ++ p ∷ []) (zs ++ z ∷ [])
written_push [] [] p z h f = (f, tt)
written_push [] (y ∷ zs) p z h f = absurd h
written_push (q ∷ ps) [] p z h f = absurd h
written_push (q ∷ ps) (y ∷ zs) p z h f = (h.0, written_push ps zs p z h.1 f)

-- one number more
pub leading_more : (ps rest more : List (List ℕ)) (zs ys : List ℤ) (z : ℤ) → Leading ps zs rest → NumberFirst rest z more → ys ≡ zs ++ z ∷ [] → Leading ps ys more
leading_more ps rest more zs ys z h f e =
    record {
      figures = h.figures ++ f.0 ∷ [];
      cut = h.cut ∙ ap (λ qs. h.figures ++ qs) f.1 ∙ sym (append_assoc h.figures (f.0 ∷ []) more);
      written = rw e (written_push h.figures zs f.0 z h.written f.2);
    }

-- the numbers end where no figures follow
one_leading : (fs gs ks ls : List (List ℕ)) (zs ys : List ℤ) → fs ++ ks ≡ gs ++ ls → Written fs zs → Written gs ys → NoNumberFirst ks → NoNumberFirst ls → (zs ≡ ys) × (ks ≡ ls)
one_leading [] [] ks ls [] [] e h g none no_more = (refl, e)
one_leading [] [] ks ls [] (y ∷ ys) e h g none no_more = absurd g
one_leading [] [] ks ls (z ∷ zs) ys e h g none no_more = absurd h
one_leading [] (p ∷ gs) ks ls zs [] e h g none no_more = absurd g
one_leading [] (p ∷ gs) ks ls zs (y ∷ ys) e h g none no_more = absurd (none y (gs ++ ls) (p, e, g.0))
one_leading (p ∷ fs) [] ks ls [] ys e h g none no_more = absurd h
one_leading (p ∷ fs) [] ks ls (z ∷ zs) ys e h g none no_more = absurd (no_more z (fs ++ ks) (p, sym e, h.0))
one_leading (p ∷ fs) (q ∷ gs) ks ls [] ys e h g none no_more = absurd h
one_leading (p ∷ fs) (q ∷ gs) ks ls (z ∷ zs) [] e h g none no_more = absurd g
one_leading (p ∷ fs) (q ∷ gs) ks ls (z ∷ zs) (y ∷ ys) e h g none no_more =
    let heads : p ≡ q = cc in
    let tails : fs ++ ks ≡ gs ++ ls = cc in
    let first : z ≡ y = one_number q z y (rw heads at h.0) g.0 in
    let more = one_leading fs gs ks ls zs ys tails h.1 g.1 none no_more in
    (ap (λ x. x ∷ zs) first ∙ ap (λ xs. y ∷ xs) more.0, more.1)

no_figures : (z : ℤ) → Figures (codes "at") z → ⊥
unfolding Figures
no_figures z h = let l = h.0.0.1.0 in omega arith

at_ends : (ps : List (List ℕ)) (n m : ℤ) → At ps n m → NoNumberFirst ps
at_ends ps n m h z rest f =
    let p = h.1 in
    let q = f.1 in
    let word : f.0 ≡ codes "at" = cc in
    no_figures z (rw word at f.2)

one_law : (k l : Law) → name_of k ≡ name_of l → k ≡ l
one_law k l e = grind arith

one_first : (ps rest more : List (List ℕ)) (y z : ℤ) → NumberFirst ps y rest → NumberFirst ps z more → (y ≡ z) × (rest ≡ more)
one_first ps rest more y z h g =
    let p = h.1 in
    let q = g.1 in
    let pieces : h.0 ≡ g.0 = cc in
    (one_number g.0 y z (rw pieces at h.2) g.2, cc)

-- what follows the first number is what follows it however it is read
pub two_after : (ps rest : List (List ℕ)) (y n m : ℤ) → NumberFirst ps y rest → Two ps n m → NumberFirst rest m []
two_after ps rest y n m h t = rw (one_first ps t.0 rest n y t.1 h).1 at t.2

pub at_two : (ps rest : List (List ℕ)) (r : Option (ℤ × ℤ)) → ps ≡ codes "at" ∷ rest → MatchOption r ((n m : ℤ) → Two rest n m → ⊥) (λ p. Two rest p.0 p.1) → MatchOption r ((n m : ℤ) → At ps n m → ⊥) (λ p. At ps p.0 p.1)
at_two ps rest None e h = λ n m a. let q = a.1 in let same : a.0 ≡ rest = cc in h n m (rw same at a.2)
at_two ps rest (Some p) e h = (rest, e, h)

-- what a line asks is what was read of it
pub asked_read : (ps head rest : List (List ℕ)) (name : List ℕ) (law : Law) (zs : List ℤ) → ps ≡ name ∷ head → name ≡ name_of law → Leading head zs rest → NoNumberFirst rest → (l : Law) (ys : List ℤ) (n m : ℤ) → Asks ps l ys n m → Takes law zs × At rest n m
asked_read ps head rest name law zs p e h none l ys n m a =
    let q = a.cut in
    let names : name_of l ≡ name_of law = cc in
    let heads : h.figures ++ rest ≡ a.numbers ++ a.place = let c = h.cut in cc in
    let same = one_leading h.figures a.numbers rest a.place zs ys heads h.written a.written none (at_ends a.place n m a.at) in
    let laws : l ≡ law = one_law l law names in
    (rw (laws, ← same.0) at a.takes, rw (← same.1) at a.at)

-- where `at` and two numbers do not follow the numbers, nothing is asked
pub not_at : (ps head rest : List (List ℕ)) (name : List ℕ) (law : Law) (zs : List ℤ) → ps ≡ name ∷ head → name ≡ name_of law → Leading head zs rest × NoNumberFirst rest → ((n m : ℤ) → At rest n m → ⊥) → AsksNothing ps
not_at ps head rest name law zs p e h none = λ l ys n m a. none n m (asked_read ps head rest name law zs p e h.0 h.1 l ys n m a).1

-- nor where the law does not take the numbers
pub not_taken : (ps head rest : List (List ℕ)) (name : List ℕ) (law : Law) (zs : List ℤ) → ps ≡ name ∷ head → name ≡ name_of law → Leading head zs rest × NoNumberFirst rest → (Takes law zs → ⊥) → AsksNothing ps
not_taken ps head rest name law zs p e h none = λ l ys n m a. none (asked_read ps head rest name law zs p e h.0 h.1 l ys n m a).0

one_at : (ps : List (List ℕ)) (n m x y : ℤ) → At ps n m → At ps x y → (n ≡ x) × (m ≡ y)
one_at ps n m x y h g =
    let p = h.1 in
    let q = g.1 in
    let rests : h.0 ≡ g.0 = cc in
    let first = one_first g.0 _ _ n x (rw rests at h.2.1) g.2.1 in
    (first.0, (one_first g.2.0 _ _ m y (rw first.1 at h.2.2) g.2.2).0)

-- one question at most
pub one_question : (ps : List (List ℕ)) (k l : Law) (zs ys : List ℤ) (n m x y : ℤ) → Asks ps k zs n m → Asks ps l ys x y → (k ≡ l) × (zs ≡ ys) × (n ≡ x) × (m ≡ y)
one_question ps k l zs ys n m x y a b =
    let p = a.cut in
    let q = b.cut in
    let names : name_of k ≡ name_of l = cc in
    let heads : a.numbers ++ a.place ≡ b.numbers ++ b.place = cc in
    let same = one_leading a.numbers b.numbers a.place b.place zs ys heads a.written b.written (at_ends a.place n m a.at) (at_ends b.place x y b.at) in
    let at = one_at b.place n m x y (rw same.1 at a.at) b.at in
    (one_law k l names, same.0, at.0, at.1)
