-- A line of a listing asks for the word that it lists.
use Rattle.std.proofs.Common.{◌≡◌, ℕ, suc, ◌+◌, ◌*◌, ◌/◌, ◌%◌, ◌^◌, ◌<◌, ◌≤◌, Bool, true, false, not, eqb, List, [], ◌∷◌, ◌++◌, length, get_or, ℤ, pos, negsuc, ◌-ℤ◌, Some, Ok, codes, decimal, sym, refl, ap, ◌∙◌, inr, arith, lit<}
use borrow.Author.Differences.{ints}
use lib.Signed.{mag}
use Rattle.std.specs.Str.Parse.{digits_value}
use Rattle.std.specs.Int.{IsInRange}
use Rattle.std.specs.Fmt.{signed_decimal}
use Rattle.std.specs.List.{AllByRecursion, list_all}
use Rattle.std.specs.Str.{all_ascii_digits}
use Rattle.std.proofs.lemmas.Fmt.{decimal_is_IsNumeral, digits_decimal}
use Rattle.std.proofs.lemmas.List.{append_assoc, append-nil, length-append}
use Rattle.std.proofs.lemmas.List.Folds.{list_all-append}
use Rattle.std.proofs.lemmas.List.Sums.{AllPass-from_list_all}
use Rattle.std.proofs.lemmas.Str.Parse.{IsNumeralModel, numerals_by_value, tells_all_ascii_digits, digit_at}
use Rattle.std.proofs.lemmas.Bool.{ne_eqb, and_parts, and_from, not-true, not_from_false}
use Rattle.section.proofs.Distinct.{small_number}
use Rattle.words.specs.declared.entry.Entry.{Entry}
use Rattle.words.specs.declared.entry.Entry.TheVariants.{Open, Lay, Place, Lift, Axial, Moment, Solve}
use Rattle.words.specs.declared.kind.Kind.{Kind}
use Rattle.words.specs.declared.kind.Kind.TheVariants as kinds
use Rattle.words.specs.Kinds.{kind_of, name_of}
use Rattle.words.specs.Lines.{Labelled, labelled, line_of, numbers_of, shown_number, shown_numbers}
use Rattle.words.specs.Words.{Stands, bits, lowest}
use Rattle.listing.specs.Listing.{Lines, entry_line}
use Rattle.listing.specs.Listing.Line.{stands, unreadable}
use Rattle.text.specs.declared.runs.Separator.{Separator}
use Rattle.text.specs.declared.runs.Separator.TheVariants.{LineFeed, Blank}
use Rattle.composing.specs.Asking.{Answered}
use Rattle.composing.specs.Composing.{Asked}
use Rattle.text.specs.Figures.{Figures}
use Rattle.text.proofs.Cuts.{cut_nowhere}
use Rattle.text.specs.Runs.{separates, onto, runs, filled, pieces, lines_of}
use Rattle.composing.specs.Spelling.{Numbers, Spells}

-- no byte of the text is a separator
abbrev pub free : Separator → List ℕ → Bool
free s bs = list_all (λ b. not (separates s b)) bs

free_append : (s : Separator) (a b : List ℕ) → free s a ≡ true → free s b ≡ true → free s (a ++ b) ≡ true
free_append s a b p q = list_all-append (λ c. not (separates s c)) a b ∙ and_from _ _ p q

-- such a text before a separator is a run
pub run_front : (s : Separator) (a : List ℕ) (b : ℕ) (rest : List ℕ) → free s a ≡ true → separates s b ≡ true → runs s (a ++ b ∷ rest) ≡ a ∷ runs s rest
unfolding runs
run_front s [] b rest p e = rw e refl
run_front s (x ∷ a) b rest p e =
    let q = and_parts (not (separates s x)) (free s a) p in
    rw (not-true _ q.0) (ap (onto x) (run_front s a b rest q.1 e))

run_last : (s : Separator) (x : ℕ) (a : List ℕ) → free s (x ∷ a) ≡ true → runs s (x ∷ a) ≡ (x ∷ a) ∷ []
run_last s x a p = cut_nowhere s x a (λ k l. not-true _ (AllPass-from_list_all (λ b. not (separates s b)) (x ∷ a) p k 0 l))

-- a text that can be a piece: without separators, and not empty
pub record Piece (a : List ℕ) : Type 0 where
  pub frees : (s : Separator) → free s a ≡ true
  pub some : 0 < length a

piece_front : (a rest : List ℕ) → Piece a → pieces (a ++ 32 ∷ rest) ≡ a ∷ pieces rest
unfolding filled
piece_front [] rest h = let l = h.some in absurd (omega arith)
piece_front (x ∷ a) rest h = ap filled (run_front Blank (x ∷ a) 32 rest (h.frees Blank) refl)

piece_last : (a : List ℕ) → Piece a → pieces a ≡ a ∷ []
unfolding filled
piece_last [] h = let l = h.some in absurd (omega arith)
piece_last (x ∷ a) h = ap filled (run_last Blank x a (h.frees Blank))

-- figures are pieces
own : IsNumeralModel (λ ds. all_ascii_digits ds ≡ true) (digits_value 10)
own = numerals_by_value _ tells_all_ascii_digits

digit_apart : (s : Separator) (b : ℕ) → IsInRange 48 57 b → separates s b ≡ false
digit_apart LineFeed b l = ne_eqb b 10 (λ e. omega arith)
digit_apart Blank b l = rw (ne_eqb b 32 (λ e. omega arith)) (rw (ne_eqb b 9 (λ e. omega arith)) (ne_eqb b 13 (λ e. omega arith)))

free_digits : (s : Separator) (ds : List ℕ) → all_ascii_digits ds ≡ true → free s ds ≡ true
free_digits s [] h = refl
free_digits s (d ∷ ds) h =
    let q = tells_all_ascii_digits.parts d ds h in
    and_from _ _ (not_from_false _ (digit_apart s d q.0)) (free_digits s ds q.1)

digits_of_decimal : (n : ℕ) → n < 2 ^ 64 → all_ascii_digits (decimal n) ≡ true
digits_of_decimal n h = digits_decimal own n h

piece_decimal : (n : ℕ) → n < 2 ^ 64 → Piece (decimal n)
piece_decimal n h = record { frees = λ s. free_digits s (decimal n) (digits_of_decimal n h); some = (decimal_is_IsNumeral n h).0.0 }

not_minus : (s : Separator) → separates s 45 ≡ false
not_minus LineFeed = refl
not_minus Blank = refl

piece_signed : (z : ℤ) → mag z < 2 ^ 63 → Piece (signed_decimal z)
piece_signed (pos n) h = piece_decimal n (omega arith)
piece_signed (negsuc n) h =
    record { frees = λ s. and_from _ _ (not_from_false _ (not_minus s)) ((piece_decimal (suc n) (omega arith)).frees s); some = omega arith }

first_of_decimal : (n : ℕ) → n < 2 ^ 64 → IsInRange 48 57 (get_or (decimal n) 0 0)
first_of_decimal n h = let d = decimal_is_IsNumeral n h in digit_at (decimal n) 0 d.0.1 d.0.0

-- and write their number
figures_signed : (z : ℤ) → mag z < 2 ^ 63 → Figures (signed_decimal z) z
unfolding Figures
figures_signed (pos n) h =
    let l : n < 2 ^ 64 = omega arith in
    let d = decimal_is_IsNumeral n l in
    let f = first_of_decimal n l in
    let minus : eqb (get_or (decimal n) 0 0) 45 ≡ false = ne_eqb _ _ (λ e. omega arith) in
    let plus : eqb (get_or (decimal n) 0 0) 43 ≡ false = ne_eqb _ _ (λ e. omega arith) in
    rw minus (rw plus ((d.0, rw d.1 (record { sfits = h })), rw d.1 refl))
figures_signed (negsuc n) h =
    let d = decimal_is_IsNumeral (suc n) (omega arith) in
    ((d.0, rw d.1 (record { sfits = h })), rw d.1 refl)

-- labels and figures, as pieces
abbrev number_pieces : List Labelled → List (List ℕ)
number_pieces [] = []
number_pieces (n ∷ ns) = n.label ∷ signed_decimal n.value ∷ number_pieces ns

-- a number whose label is a piece, and which fits 64 bits
pub record Writable (n : Labelled) : Type 0 where
  pub label_piece : Piece n.label
  pub bounded : mag n.value < 2 ^ 63

shown_more : (n : Labelled) (ns : List Labelled) → shown_numbers (n ∷ ns) ≡ shown_number n ++ shown_numbers ns
shown_more n [] = sym (append-nil (shown_number n))
shown_more n (m ∷ ms) = refl

pieces_of_numbers : (a : List ℕ) (ns : List Labelled) → Piece a → AllByRecursion Writable ns → pieces (a ++ shown_numbers ns) ≡ a ∷ number_pieces ns
pieces_of_numbers a [] p w = rw (append-nil a) (piece_last a p)
pieces_of_numbers a (n ∷ ns) p w =
    let v = signed_decimal n.value in
    let e : shown_numbers (n ∷ ns) ≡ 32 ∷ (n.label ++ (32 ∷ (v ++ shown_numbers ns))) = shown_more n ns ∙ ap (λ l. 32 ∷ l) (append_assoc n.label (32 ∷ v) (shown_numbers ns)) in
    rw e (piece_front a _ p ∙ ap (λ ps. a ∷ ps) (piece_front n.label _ w.0.label_piece ∙ ap (λ ps. n.label ∷ ps) (pieces_of_numbers v ns (piece_signed n.value w.0.bounded) w.1)))

numbers_of_pieces : (ns : List Labelled) → AllByRecursion Writable ns → Numbers ns (number_pieces ns)
numbers_of_pieces [] w = refl
numbers_of_pieces (n ∷ ns) w = (number_pieces ns, (signed_decimal n.value, refl, figures_signed n.value w.0.bounded), numbers_of_pieces ns w.1)

-- a text that is written out, by computing
literal : (a : List ℕ) → free LineFeed a ≡ true → free Blank a ≡ true → 0 < length a → Piece a
literal a p q l = record { frees = both; some = l }
  where
    both : (s : Separator) → free s a ≡ true
    both LineFeed = p
    both Blank = q

name_piece : (k : Kind) → Piece (name_of k)
name_piece kinds.Open = literal (codes "open") refl refl (lit< tt)
name_piece kinds.Lay = literal (codes "lay") refl refl (lit< tt)
name_piece kinds.Place = literal (codes "place") refl refl (lit< tt)
name_piece kinds.Lift = literal (codes "lift") refl refl (lit< tt)
name_piece kinds.Axial = literal (codes "axial") refl refl (lit< tt)
name_piece kinds.Moment = literal (codes "moment") refl refl (lit< tt)
name_piece kinds.Solve = literal (codes "solve") refl refl (lit< tt)

mag_pos : (z : ℤ) (n k : ℕ) → z ≡ pos n → n < k → mag z < k
mag_pos z n k e l = rw e l

mag_difference : (z : ℤ) (m n : ℕ) → z ≡ pos m -ℤ pos n → m < 2 ^ 63 → n < 2 ^ 63 → mag z < 2 ^ 63
mag_difference (pos k) m n e l h = omega (arith, ints)
mag_difference (negsuc k) m n e l h = omega (arith, ints)

writable : (a : List ℕ) (z : ℤ) → free LineFeed a ≡ true → free Blank a ≡ true → 0 < length a → mag z < 2 ^ 63 → Writable (labelled a z)
writable a z p q l h = record { label_piece = literal a p q l; bounded = h }

-- every number of an entry that has a word is such
writable_numbers : (e : Entry) (w : ℕ) → Stands e w → AllByRecursion Writable (numbers_of e)
writable_numbers (Open fc fy) w h =
    (writable (codes "fc") fc refl refl (lit< tt) (mag_pos fc _ _ h.1 (omega arith)), (writable (codes "fy") fy refl refl (lit< tt) (mag_pos fy _ _ h.2 (omega arith)), tt))
writable_numbers (Lay thickness width) w h =
    (writable (codes "thickness") thickness refl refl (lit< tt) (mag_pos thickness _ _ h.1 (omega arith)), (writable (codes "width") width refl refl (lit< tt) (mag_pos width _ _ h.2 (omega arith)), tt))
writable_numbers (Place bar count depth) w h =
    let small = small_number (bits w 23 20) h.2.0 in
    (writable (codes "bar") bar refl refl (lit< tt) (mag_pos bar _ _ h.2.1 (omega arith)), (writable (codes "count") count refl refl (lit< tt) (mag_pos count _ _ h.3 (omega arith)), (writable (codes "depth") depth refl refl (lit< tt) (mag_pos depth _ _ h.4 (omega arith)), tt)))
writable_numbers (Lift row) w h = (writable (codes "row") row refl refl (lit< tt) (mag_pos row _ _ h.1 (omega arith)), tt)
writable_numbers (Axial pu) w h = (writable (codes "pu") pu refl refl (lit< tt) (mag_difference pu (lowest w 28 % 2 ^ 27) (lowest w 28 / 2 ^ 27 * 2 ^ 27) h.1 (omega arith) (omega arith)), tt)
writable_numbers (Moment member mu) w h =
    (writable (codes "member") member refl refl (lit< tt) (mag_pos member _ _ h.1 (omega arith)), (writable (codes "mu") mu refl refl (lit< tt) (mag_pos mu _ _ h.2 (omega arith)), tt))
writable_numbers Solve w h = tt

spells_line : (e : Entry) (w : ℕ) → Stands e w → Spells (pieces (line_of e)) e
spells_line e w h =
    let ws = writable_numbers e w h in
    (number_pieces (numbers_of e), pieces_of_numbers (name_of (kind_of e)) (numbers_of e) (name_piece (kind_of e)) ws, numbers_of_pieces (numbers_of e) ws)

-- a listed line, without its line feed
abbrev listed_line : ℕ → Entry → List ℕ
listed_line i e = decimal i ++ (32 ∷ line_of e)

answered_listed : (i w : ℕ) (e : Entry) → i < 2 ^ 64 → Stands e w → Answered (listed_line i e) (Ok (Some w))
answered_listed i w e l h =
    let p = piece_front (decimal i) (line_of e) (piece_decimal i l) in
    let f = first_of_decimal i l in
    rw p ((λ z. omega arith), (e, rw (digits_of_decimal i l) (spells_line e w h), h))

free_numbers : (ns : List Labelled) → AllByRecursion Writable ns → free LineFeed (shown_numbers ns) ≡ true
free_numbers [] w = refl
free_numbers (n ∷ ns) w =
    rw (shown_more n ns)
    (free_append LineFeed (shown_number n) (shown_numbers ns)
    (free_append LineFeed n.label (32 ∷ signed_decimal n.value) (w.0.label_piece.frees LineFeed) ((piece_signed n.value w.0.bounded).frees LineFeed))
    (free_numbers ns w.1))

free_listed : (i w : ℕ) (e : Entry) → i < 2 ^ 64 → Stands e w → free LineFeed (listed_line i e) ≡ true
free_listed i w e l h =
    free_append LineFeed (decimal i) (32 ∷ line_of e) ((piece_decimal i l).frees LineFeed)
    (free_append LineFeed (name_of (kind_of e)) (shown_numbers (numbers_of e)) ((name_piece (kind_of e)).frees LineFeed) (free_numbers (numbers_of e) (writable_numbers e w h)))

entry_line_lem : (i : ℕ) (e : Entry) (rest : List ℕ) → entry_line i e ++ rest ≡ listed_line i e ++ (10 ∷ rest)
entry_line_lem i e rest = simp append_assoc

lines_listed : (i w : ℕ) (e : Entry) (line rest text : List ℕ) → i < 2 ^ 64 → Stands e w → line ≡ entry_line i e → text ≡ line ++ rest → lines_of text ≡ listed_line i e ∷ lines_of rest
lines_listed i w e line rest text l h p q =
    ap lines_of (q ∙ ap (λ a. a ++ rest) p ∙ entry_line_lem i e rest) ∙ run_front LineFeed (listed_line i e) 10 rest (free_listed i w e l h) refl

-- a listing without refusals asks for the words that it lists
pub asked_listing : (i : ℕ) (ws text : List ℕ) → i + length ws ≤ 2 ^ 64 → AllByRecursion (λ w. (e : Entry) × Stands e w) ws → Lines i ws text → Asked (lines_of text) ws
unfolding Asked runs
asked_listing i [] text l r h = rw h refl
asked_listing i (w ∷ ws) text l r h =
    elim h.3 [
      | stands e s p ↦
          rw (lines_listed i w e h.0 h.1 text (omega arith) s p h.2)
          (inr (w, ws, refl, answered_listed i w e (omega arith) s, asked_listing (suc i) ws h.1 (omega arith) r.1 h.4))
      | unreadable none p ↦ absurd (none r.0.0 r.0.1)
    ]

-- and has a byte at least for each of them
pub long_listing : (i : ℕ) (ws text : List ℕ) → AllByRecursion (λ w. (e : Entry) × Stands e w) ws → Lines i ws text → length ws ≤ length text
long_listing i [] text r h = omega arith
long_listing i (w ∷ ws) text r h =
    let some : 0 < length h.0 =
    elim h.3 [
      | stands e s p ↦ rw p (rw (length-append (decimal i) (32 ∷ (line_of e ++ (10 ∷ [])))) (omega arith))
      | unreadable none p ↦ absurd (none r.0.0 r.0.1)
    ] in
    let more = long_listing (suc i) ws h.1 r.1 h.4 in
    rw h.2 (rw (length-append h.0 h.1) (omega arith))
