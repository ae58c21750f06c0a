-- Cutting at the first separator gives the first run, and the run that begins where the blanks end is the first piece.
use Rattle.std.proofs.Common.{◌≡◌, ℕ, zero, suc, ◌+◌, ◌<◌, ◌≤◌, Bool, true, false, not, List, [], ◌∷◌, length, get_or, take, drop, Some, None, position, sym, refl, ap, ◌∙◌, add-one, add-zero, arith}
use Rattle.std.proofs.Math.Seq.{drop-length}
use Rattle.std.proofs.lemmas.List.{length-drop, get_or-drop}
use Rattle.std.proofs.lemmas.List.Quantifiers.{position-Some}
use Rattle.std.proofs.lemmas.List.Sums.{prefix_len_passes}
use Rattle.std.proofs.lemmas.Bool.Decides.{nat_tests}
use Rattle.std.proofs.lemmas.Bool.{cond-true, cond-false, not-true, not-false}
use Rattle.text.specs.declared.runs.Separator.{Separator}
use Rattle.text.specs.declared.runs.Separator.TheVariants.{Blank}
use Rattle.text.specs.Runs.{FirstRun, separates, onto, runs, filled, pieces}

-- where a test passes nowhere, each byte fails it
none_passes : (p : ℕ → Bool) (bs : List ℕ) → position p bs ≡ None → (k : ℕ) → k < length bs → p (get_or bs k 0) ≡ false
none_passes p bs e k l = not-true _ (prefix_len_passes (λ b. not (p b)) bs k 0 (grind (arith, nat_tests)))

-- bytes with a separator end their first run there
cut_at : (s : Separator) (bs : List ℕ) (n : ℕ) → n < length bs → ((k : ℕ) → k < n → separates s (get_or bs k 0) ≡ false) → separates s (get_or bs n 0) ≡ true → runs s bs ≡ take n bs ∷ runs s (drop (suc n) bs)
unfolding runs
cut_at s [] n l before at = absurd (omega arith)
cut_at s (b ∷ bs) zero l before at = cond-true _ _ _ at
cut_at s (b ∷ bs) (suc n) l before at =
    cond-false _ _ _ (before 0 (omega arith)) ∙ ap (onto b) (cut_at s bs n (omega arith) (λ k m. before (suc k) (omega arith)) at)

-- and bytes with none are one run
pub cut_nowhere : (s : Separator) (b : ℕ) (bs : List ℕ) → ((k : ℕ) → k < length (b ∷ bs) → separates s (get_or (b ∷ bs) k 0) ≡ false) → runs s (b ∷ bs) ≡ (b ∷ bs) ∷ []
unfolding runs
cut_nowhere s b [] none = cond-false _ _ _ (none 0 (omega arith))
cut_nowhere s b (c ∷ bs) none =
    cond-false _ _ _ (none 0 (omega arith)) ∙ ap (onto b) (cut_nowhere s c bs (λ k m. none (suc k) (omega arith)))

pub first_run_cut : (s : Separator) (bs rest : List ℕ) (n : ℕ) → position (separates s) bs ≡ Some n → rest ≡ drop (n + 1) bs → FirstRun s bs (take n bs) rest
first_run_cut s bs rest n e p =
    let at = position-Some (separates s) bs n 0 e in
    let within : n < length bs = at.0 in
    record {
      cut = λ _. rw (p, add-one n) (cut_at s bs n within at.2 at.1);
      shorter = λ _. rw p (rw length-drop (omega arith));
      none = λ z. absurd (omega arith);
    }

pub first_run_whole : (s : Separator) (bs : List ℕ) → position (separates s) bs ≡ None → FirstRun s bs bs []
unfolding runs
first_run_whole s [] e = record { cut = λ l. absurd (omega arith); shorter = λ l. absurd (omega arith); none = λ _. (refl, refl) }
first_run_whole s (b ∷ bs) e =
    record { cut = λ _. cut_nowhere s b bs (none_passes (separates s) (b ∷ bs) e); shorter = λ l. l; none = λ z. absurd (omega arith) }

-- blanks are no pieces
blanks_passed : (bs : List ℕ) (n : ℕ) → n ≤ length bs → ((k : ℕ) → k < n → separates Blank (get_or bs k 0) ≡ true) → pieces bs ≡ pieces (drop n bs)
unfolding filled runs
blanks_passed bs zero l blank = refl
blanks_passed [] (suc n) l blank = refl
blanks_passed (b ∷ bs) (suc n) l blank =
    ap filled (cond-true _ _ _ (blank 0 (omega arith))) ∙ blanks_passed bs n (omega arith) (λ k m. blank (suc k) (omega arith))

pub no_piece : (bs : List ℕ) → position (λ b. not (separates Blank b)) bs ≡ None → pieces bs ≡ []
unfolding filled runs
no_piece bs e =
    blanks_passed bs (length bs) (omega arith) (λ k l. not-false _ (none_passes (λ b. not (separates Blank b)) bs e k l)) ∙ ap pieces (drop-length bs)

onto_some : (b : ℕ) (rs ts : List (List ℕ)) → onto b rs ≡ [] ∷ ts → ⊥
onto_some b [] ts e = cc
onto_some b (r ∷ rs) ts e = cc

-- a run that begins with no blank is a piece
pub one_piece : (bs run rest : List ℕ) → 0 < length bs → separates Blank (get_or bs 0 0) ≡ false → FirstRun Blank bs run rest → pieces bs ≡ run ∷ pieces rest
unfolding filled runs
one_piece [] run rest l other h = absurd (omega arith)
one_piece (b ∷ bs) [] rest l other h = absurd (onto_some b _ _ (sym (cond-false _ _ _ other) ∙ h.cut l))
one_piece (b ∷ bs) (r ∷ run) rest l other h = ap filled (h.cut l)

pub first_piece : (bs run rest : List ℕ) (n : ℕ) → position (λ b. not (separates Blank b)) bs ≡ Some n → FirstRun Blank (drop n bs) run rest → pieces bs ≡ run ∷ pieces rest
first_piece bs run rest n e h =
    let at = position-Some (λ b. not (separates Blank b)) bs n 0 e in
    let within : n < length bs = at.0 in
    let first : get_or (drop n bs) 0 0 ≡ get_or bs n 0 = get_or-drop n bs 0 0 ∙ ap (λ k. get_or bs k 0) (add-zero n) in
    blanks_passed bs n (omega arith) (λ k l. not-false _ (at.2 k l))
    ∙ one_piece (drop n bs) run rest (rw length-drop (omega arith)) (rw first (not-true _ at.1)) h

pub no_runs : (s : Separator) (bs : List ℕ) → length bs ≡ 0 → runs s bs ≡ []
unfolding runs
no_runs s [] z = refl
no_runs s (b ∷ bs) z = absurd (omega arith)
