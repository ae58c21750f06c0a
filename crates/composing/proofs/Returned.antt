-- The listing of a readable stream asks for that stream.
use Rattle.std.proofs.Common.{◌≡◌, ℕ, ◌^◌, ◌<◌, List, [], ◌++◌, length, Ok, Err, Result, sym, refl, ap, ◌∙◌, subst, arith, MatchResult}
use Rattle.std.proofs.lemmas.List.{append-nil}
use Rattle.words.specs.Streams.{spread}
use Rattle.words.specs.Words.{Readable}
use Rattle.words.proofs.Streams.{one_cut}
use Rattle.listing.specs.Listing.{Lines, Listed, unfinished}
use Rattle.composing.specs.declared.compose.Failure.{Failure}
use Rattle.composing.specs.declared.compose.Failure.TheVariants.{Memory, Line}
use Rattle.composing.specs.Composing.{Asked, Composed, Refused}
use Rattle.text.specs.Runs.{lines_of}
use Rattle.composing.proofs.Determined.{one_asked, nothing_lacks}
use Rattle.composing.proofs.Listings.{asked_listing, long_listing}

asked_stream : (text stream : List ℕ) → length text < 2 ^ 64 → (r : Readable stream) → Listed stream text → Asked (lines_of text) r.words
asked_stream text stream l r h =
    let same = one_cut h.words r.words h.rest [] (sym h.cut.whole ∙ r.whole.whole) h.cut.short r.whole.short in
    let whole : text ≡ h.lines = h.whole ∙ ap (λ b. h.lines ++ unfinished b (length h.words)) same.1 ∙ append-nil h.lines in
    let lines : Lines 0 r.words text = subst (λ t. Lines 0 r.words t) (sym whole) (subst (λ ws. Lines 0 ws h.lines) same.0 h.listed) in
    let few = long_listing 0 r.words text r.each lines in
    asked_listing 0 r.words text (omega arith) r.each lines

pub given_back : {V : Type 0} (bytes : V → List ℕ) (text stream : List ℕ) (a : Result V Failure) → length text < 2 ^ 64 → MatchResult a (λ v. Composed text (bytes v)) (λ f. Refused text f) → Readable stream → Listed stream text → MatchResult a (λ v. bytes v ≡ stream) (λ f. f ≡ Memory)
given_back bytes text stream (Ok v) l c r h =
    c.written ∙ ap spread (one_asked (lines_of text) c.words r.words c.asked (asked_stream text stream l r h)) ∙ sym (r.whole.whole ∙ append-nil (spread r.words))
given_back bytes text stream (Err Memory) l c r h = refl
given_back bytes text stream (Err (Line n x)) l c r h =
    absurd (nothing_lacks c.1.before c.1.after c.0 r.words x (subst (λ ls. Asked ls r.words) c.1.cut (asked_stream text stream l r h)) c.2)
